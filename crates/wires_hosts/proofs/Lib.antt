-- What the first frame of a connection says of its first bytes.
pub mod Beginning
-- Who is awaited, and which tag is the least, with one federate more.
pub mod Federates
