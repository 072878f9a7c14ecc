-- The laws that the functions' proofs cite.
-- The walk: sets of corners, and the turns that are left.
pub mod MarkedSets
pub mod Live
-- What holds wherever it stands, and that it may go on and ends; a step further, and a step back.
pub mod Trailing
pub mod Walking
pub mod StepFurther
pub mod StepBack
-- From the words of a search to the answer.
pub mod Answering
-- And from the bytes to the outcome.
pub mod Planning
-- How much to lend: the definitions keep their promise, and the calls theirs.
pub mod Lent
pub mod Lending
