-- Ends with all that they ever offered: what their images tell, and that they stay lawful.
pub mod Ends
-- What is taken is a prefix of what was offered.
pub mod Prefixes
-- What is sent carries what was offered under its number.
pub mod Sent
