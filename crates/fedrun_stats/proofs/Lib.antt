-- Lemmas.
-- what is saved in place of a file
pub mod Replaced
