-- How a desk's faults are printed.
pub mod Fault
-- A station with the journal of its events, and the station that a journal gives.
pub mod Replay
-- When the slips of several workers are a journal.
pub mod Shares
-- What a desk answers to several events, what of it is to be sent, and what it answers of a peer's end.
pub mod Replies
