pub mod Letting
pub mod Spelling
pub mod Saying
pub mod Honest
pub mod Differences
pub mod Vectors
