-- A source, and the federation file that it becomes.
-- the federation file of a source's parts
pub mod Expansion
-- braces in a text
pub mod Filling
