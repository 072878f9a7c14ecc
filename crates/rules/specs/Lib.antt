-- What the bytes of the rules say.
pub mod Rules
-- What the private functions do.
pub mod Making
-- What a caller concludes from the rules.
pub mod Laws
