-- states that are set, and what lines leave as it was
pub mod Keeping
-- the states of a division, line by line
pub mod DividedStates
-- its numbers
pub mod DividedNumbers
-- all multiples are taken off
pub mod DividedLines
-- the lines of a formula, part by part
pub mod Parts
-- a division gives its quotient or its remainder
pub mod Divided
-- the lines of a formula give its value
pub mod FormulaLines
-- what the code answers is what the definitions say
pub mod Answered
-- what was read is spelled by the tokens that were taken
pub mod Spelled
-- what a text is read as reads no free state
pub mod Readable
-- words and spaces in front
pub mod Fronts
-- the tokens of a text
pub mod Tokens
