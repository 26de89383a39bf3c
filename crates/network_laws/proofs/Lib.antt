-- Lists, element by element.
pub mod Lists
-- What is found among events that are put one after the other.
pub mod LookUps
-- Turns as numbers: by tag, then by rank.
pub mod Keys
-- Each turn of the undivided program is later than the one before.
pub mod Rising
-- What stands after any number of turns.
pub mod Standing
-- Rows are only added to.
pub mod Prefix
-- Two histories that are one up to each tag of some kind are one back to the newest of that kind.
pub mod Meet
-- What a turn can make present at a reactor's tag.
pub mod Reaches
-- Consistent traces agree.
pub mod Agree
-- Each slot has one reactor whose turns make its events.
pub mod Maker
-- A row tells what was present.
pub mod ReadBack
-- The latest source is that of the newest turn.
pub mod Newest
-- What one more turn changes in what a trace makes.
pub mod OneMore
-- What stands of the undivided program's trace after any number of turns.
pub mod Traced
-- The undivided program's trace is consistent.
pub mod WholeTrace
-- What is pending, slot by slot, and which turn is next.
pub mod PendingSlots
-- Of the events that a turn makes for a slot at a tag the last counts.
pub mod InOrder
-- The laws on a small network.
pub mod SmallNetwork
