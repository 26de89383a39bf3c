-- What is said of a schedule that is refused.
-- when it is, and with which fault first
pub mod Refused
-- the lines
pub mod Printed
