-- What a federate has.
-- its slots by number
pub mod Numbering
-- how many there may be, and how far its timers may reach
pub mod Limits
