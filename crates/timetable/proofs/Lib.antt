-- What the proofs of the crate share.
-- The answer of a search, and what is put together of it.
pub mod Finding
pub mod Answering
-- The next pair of a walk: among the moves after a wait, and among all.
pub mod Tightness
pub mod AfterWaits
pub mod NextPairs
-- The walk: the bytes of the labels taken, what holds wherever it stands, and that it may go on and ends; a pair further, and a pair back.
pub mod PairBytes
pub mod Walking
pub mod StepFurther
pub mod StepBack
