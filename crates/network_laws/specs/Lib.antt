-- What the laws of order and agreement are about.
-- the order of turns, prefixes of their rows, and what is settled in the undivided program
pub mod Settled
-- the turns that a reactor took
pub mod History
-- what a reactor should see at a tag, according to histories
pub mod Sees
-- histories that agree with what they call for
pub mod Consistent
-- what a history last gave to a slot
pub mod Newest
-- what is pending, slot by slot
pub mod Pending
