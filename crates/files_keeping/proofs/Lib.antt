-- Lemmas.
-- how the moments of several calls follow each other
pub mod Moments
-- what is left of files that are cut and appended to
pub mod Fronts
-- what a file is read as that a stop leaves
mod ReadAs
-- the moments of a file in memory
mod Memory
