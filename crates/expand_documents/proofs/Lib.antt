-- Proofs about documents.
-- members of a table in a list
pub mod Members
-- values with their braces filled, one after another
pub mod Fillings
-- names and their numbers, one after another
pub mod Named
-- copies of an entry, and what is made of entries
pub mod CopyLists
-- what a document is found to be
pub mod Found
