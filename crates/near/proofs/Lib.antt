-- What the proof of `best` rests on.
pub mod Nearest
