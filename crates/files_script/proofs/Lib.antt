-- how the lines of a file are counted
pub mod Lines
-- how the words of a line are found
pub mod Forms
-- how the commands of lines are found
pub mod Spelling
