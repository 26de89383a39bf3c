-- What a node that counts does.
pub mod Counting
