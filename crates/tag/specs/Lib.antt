-- Times and tags as numbers: their order and sums.
pub mod LogicalTime
-- What comparisons of the code answer.
pub mod Compared
-- The delay of a whole path of connections.
pub mod Total
-- Times, tags and delays as text.
pub mod Printed
