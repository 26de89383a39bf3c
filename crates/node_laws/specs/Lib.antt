-- Steps of a station by which nothing happens.
pub mod Nothing
-- Which TAGs the coordinator sends in a step, and what it notes of them, by its records and all paths.
pub mod Tags
