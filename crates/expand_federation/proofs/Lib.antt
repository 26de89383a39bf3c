-- Proofs about sources with their bodies.
-- a text with its changes, one after the other
pub mod Pieces
-- two tables, member by member
pub mod Steps
-- tables in an array, one by one
pub mod Arrays
-- documents with their bodies expanded, table by table
pub mod Documents
-- what becomes of a source
pub mod Taken
