-- What a node on a machine of its own begins with and leaves, how long it waits, and why it doesn't end well.
-- the exit status that goes with each fault, and how it is printed
pub mod Faults
-- by what it greets others
pub mod Begun
-- what stands under a report's name that is reserved
pub mod Note
-- its log, as it is opened and as it ends
pub mod EndedLogs
-- its report, or its log
pub mod Ended
-- what a federate's was given
pub mod Given
-- its patience
pub mod Waits
