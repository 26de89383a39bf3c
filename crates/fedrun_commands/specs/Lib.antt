-- What the program answers.
-- exit statuses, and how faults are printed
pub mod Faults
-- requests as schedules that are played, and as runs
pub mod Asked
-- the schedule in a file
pub mod Schedules
-- what is printed of a schedule that is played, and why it isn't
pub mod Played
-- what is printed of files that are looked at
pub mod Linted
-- a schedule among these
pub mod ReadSchedules
-- what is printed of report files that an audit proves
pub mod ReportFiles
-- what is printed where all went well
pub mod Printed
-- which fault stands where not
pub mod Refused
