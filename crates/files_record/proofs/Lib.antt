-- Lemmas.
-- texts without a space or a line feed: names and numbers
mod Plain
-- federates of a federation, by their names
mod Named
-- the words of a step's line, and what they ask for
mod Words
-- lines of steps, one after the other
pub mod Lines
-- federations that a file declares
mod Declared
