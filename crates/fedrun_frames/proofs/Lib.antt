-- Lemmas.
-- steps that are listed as a player makes them
pub mod Listing
-- what is written of steps, one after the other
pub mod Telling
-- what an acknowledgement acknowledges, and the frames sent since
pub mod Sending
-- what an end acknowledged last is what it took last
pub mod Acknowledging
