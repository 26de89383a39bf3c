-- Lemmas.
-- a file says one thing
pub mod One
