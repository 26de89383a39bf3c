-- What a report says of two files and of a schedule beside them, and how it is printed.
-- when one of the two files is refused, and with which fault first
pub mod Reports
-- the text
pub mod Printed
-- what is printed of two named files
pub mod Answered
-- what is said of a schedule beside them
pub mod Schedules
-- what is printed of all of them
pub mod Full
