-- What is printed.
-- rows as text
pub mod RowText
-- rows as comma-separated values
pub mod CsvText
-- rows in either of these formats
pub mod Formats
-- a plan as text
pub mod PlanText
-- out of memory for it
pub mod Memory
