-- What a journal gives, with one event more.
pub mod Replays
-- Slips that are taken off the ends of shares, as their journal is walked backwards.
pub mod Backwards
-- Lists that end with an item.
pub mod Ends
-- Events that are handled one after the other.
pub mod Batches
