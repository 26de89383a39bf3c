-- Frames and signals as bytes: how each is spelled, which fault stands where a frame should begin, how a stream of
-- bytes is read, and how a list of frames is written.
pub mod Signal
-- Several signals in one body.
pub mod Batch
-- Bodies and spellings of frames.
pub mod Frame
-- Faults, and how each is printed.
pub mod Fault
-- A stream of bytes that is read frame by frame.
pub mod Stream
-- How a list of frames is cut into pieces, and written.
pub mod Pieces
-- What a reader has of a begun Batch.
pub mod Begun
-- A reader's stream, by its fields.
pub mod Inside
