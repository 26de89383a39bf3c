-- Events that are handed in, one after the other.
pub mod SeveralEvents
-- Turns that are handed in, one after the other.
pub mod SeveralTurns
-- How often a runner greets and sends again.
pub mod Silence
-- The events of a runner.
pub mod Runners
-- Frames that are sorted by their peers.
pub mod PeersFrames
-- Frames in a list for each peer, and these lists one behind the other.
pub mod PeersLists
-- Acks that a later one covers.
pub mod CoveredAcks
