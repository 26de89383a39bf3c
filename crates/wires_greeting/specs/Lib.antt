-- HMAC-SHA-256 on lists of bytes.
pub mod Hmac
-- Which secrets there are, and which addresses do without.
pub mod Secret
-- The digest of a federation's files.
pub mod Files
-- The coordinator's answers, and the bytes that say them.
pub mod Answer
-- The greeting and the challenge as bytes, both ways.
pub mod Message
-- What each side proves, and over what.
pub mod Proof
-- The federate's side: its states, and what each message makes of it.
pub mod Federate
-- The coordinator's side: its states, and what each message makes of it.
pub mod Coordinator
-- All that is handed to one side of a connection, and where that leads.
pub mod Calls
