-- What is asked of automata.
pub mod Proper
