-- Decimal digits.
pub mod Numerals
-- The parts of a duration's text.
pub mod Parts
-- What a duration's text spells.
pub mod Spellings
-- Printed times, read back.
pub mod ReadBack
