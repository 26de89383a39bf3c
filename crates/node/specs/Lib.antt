-- A station's own faults: their numbers, and how they are printed; and which refusals close a link.
pub mod Numbers
-- What a node's posts make of the link ends, and whether there is room for them.
pub mod Mail
-- What a node says of itself, and what its calls come to.
pub mod Core
-- What a caller sees of an outbox.
pub mod Box
-- A station, and its step.
pub mod Step
-- Which kind of frame it is.
pub mod Kinds
