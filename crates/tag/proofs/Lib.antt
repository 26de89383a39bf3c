-- The order of tags, as tests and as places.
pub mod Order
-- The laws of sums.
pub mod SumLaws
-- Totals of paths.
pub mod Paths
-- The greatest unit that divides a time.
mod Units
