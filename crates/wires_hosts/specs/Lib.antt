-- Why an attempt to connect came to nothing, and whether another one makes sense.
pub mod DialFault
-- What an attempt to connect comes to, by the federate's side of its greeting.
pub mod Attempt
-- How long to wait before an attempt to connect.
pub mod BackOff
-- Random bytes from a call that fills some.
pub mod Source
-- What is to come next on a connection that came to the coordinator.
pub mod Next
-- What is drawn at random.
pub mod Draw
-- Whose Hello a frame is, and what begins with one.
pub mod Hello
-- How long nothing was heard, and what is told of that.
pub mod Silence
-- How many attempts to connect come to the same, and how many connections in a row stand for a moment.
pub mod Attempts
-- Why a connection that came to the coordinator isn't let in.
pub mod NotLetIn
-- Which of the connections to the coordinator that are known have ended.
pub mod Attendance
-- Who is there of those that are awaited.
pub mod Awaited
-- For whom a run may wait, how long it has waited for whom, and how far it is.
pub mod Standing
-- What was seen of a federate by looks at a node, and what there is to tell of it.
pub mod Seen
-- Since when a run stands still, and what was told of that.
pub mod Stillness
-- What a coordinator saw of its federates, or a federate of itself.
pub mod Overview
