-- How a connection's faults are printed.
pub mod Fault
-- Bytes on their way in one direction.
pub mod Pipe
-- Who a connection is, by its first frame.
pub mod Greeter
-- Whose a connection is, by what the dialers of a run are at.
pub mod ExpectedPeers
