-- Lemmas.
-- what is spelled is read, whatever follows
pub mod Again
-- the same of frames, events, and all that a node says
pub mod AllAgain
-- parts that are read one after the other in a loop
pub mod Loops
-- parts that were read are spelled so
pub mod Taken
-- a frame that a reader gave, or didn't
pub mod Frames
-- digests and names at both ends of a file
pub mod Ends
-- parts that are written one after the other in a loop
pub mod Written
-- whole files
pub mod Files
