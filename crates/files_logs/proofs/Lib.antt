-- Lemmas.
-- numbers and sizes at the front of bytes
pub mod Sizes
-- what a block says is said by one list of items alone
pub mod Saying
-- what stands at the front of bytes behind a sum
pub mod Fronts
-- blocks that begin behind the sum of another one
pub mod Beginnings
-- logs that are cut, and torn tails
pub mod Cut
-- heads
pub mod Headed
-- bytes are one log alone, or have one fault
pub mod OneLog
-- whole logs
pub mod Whole
-- whole logs that go on
pub mod Going
-- sums that are made piece by piece
pub mod Pieces
-- what the parts of reading answer
pub mod Found
-- a head that is read
pub mod Asked
-- what reading answers
pub mod Answered
-- what is written
pub mod Spelled
