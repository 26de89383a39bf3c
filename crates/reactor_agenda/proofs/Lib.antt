-- The order of events, one number after the other.
pub mod Order
-- Putting events, in any order.
pub mod Putting
-- What is kept of the events, by their tags.
pub mod Filtered
-- The least tag.
pub mod Least
-- The entries of the ordered map as events.
pub mod Entries
-- What is not later than a tag.
pub mod Due
-- Lists of timers.
pub mod TimerLists
-- The firings of timers.
pub mod Fired
-- The same at the order of the map's keys.
pub mod Keyed
-- Lists that a search goes over.
pub mod Searched
-- A key against entries in order.
pub mod Past
-- What was put, some of it in front.
pub mod Queued
-- An agenda's value after each call.
pub mod Views
-- What is present, slot by slot.
pub mod Slots
-- The same, written entry by entry.
pub mod Writing
-- What is present is the list of what look-ups find.
pub mod Listing
-- What a new agenda holds.
pub mod Fresh
-- What is listed of a function is what it has there.
pub mod Listed
