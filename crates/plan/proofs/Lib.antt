-- Where names and ports stand.
pub mod Places
-- Declared connections and connections by numbers.
pub mod Joined
-- The occurrences that inputs are.
pub mod Occurrences
-- What comes to one federate from outside, and when a timer fires.
pub mod Outside
-- Drafts that were checked.
pub mod Plans
-- Names along a cycle.
pub mod Cycles
-- Levels and ranks of legal drafts.
pub mod Legality
-- Least delays of legal drafts.
pub mod LeastLaws
