-- the test of digits
pub mod Numerals
-- a line's tokens, one after another
pub mod Splitting
-- where a text's first token stands
pub mod FirstTokens
-- where names stand
pub mod NamePlaces
-- a whole read from its parts
pub mod Readings
-- two lists, place by place
pub mod Zips
-- where faults stand
pub mod LineFaults
-- what is spelled names only what is there
pub mod Present
-- what is spelled is spelled once, and is read
pub mod OneReading
-- durations in one token or in two
pub mod Durations
-- a statement read from its parts
pub mod StatementReadings
-- a line read from its parts
pub mod LineReadings
