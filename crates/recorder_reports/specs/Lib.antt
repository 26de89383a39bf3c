-- Reports of federates: how many there are of each, and what each of them says.
pub mod Reports
-- The first place at which two lists of rows differ.
pub mod Difference
-- The numbers by which faults are printed, and how a report that isn't taken is printed.
pub mod Numbers
