-- Expressions.
-- the value of a formula
pub mod Meaning
-- the lines of a quotient or a remainder
pub mod Division
-- the lines of a formula
pub mod Working
-- what lines do for a formula
pub mod Laws
-- words in a text
pub mod Words
-- which tokens spell a formula
pub mod Grammar
-- which formula a text spells
pub mod Reading
