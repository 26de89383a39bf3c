-- The kind of an event.
pub mod Point
-- How a runner goes on: turns, and waits for a wake-up in between.
pub mod RetryState
-- What a worker's share is after it handed in an event, or several.
pub mod HandedIn
-- The events that a runner hands in.
pub mod Runner
-- The events that a reader makes of what its peer sends.
pub mod AreRead
-- Which frames go to which peer.
pub mod ByPeer
-- Which frames needn't be handed on to the peer that they are for.
pub mod LeavingOut
-- The frames that wait for a writer's next send.
pub mod Waiting
-- Which frames are Acks, and may wait until there are others for their peer; and which are signals.
pub mod LoneAcks
-- Who sends what waits for a peer.
pub mod Sending
