-- Desks to which nothing came.
pub mod Desks
-- What an audit doesn't believe, with the plan's names, and how it is printed.
pub mod AuditFailures
-- What the nodes of a finished run report.
pub mod Reported
-- What is printed of a run that an audit proved, and what stands where nothing is.
pub mod Printed
