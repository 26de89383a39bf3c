-- The numbers and names of the faults.
pub mod Fault
-- Whose a frame is, and what an open end answers to it.
pub mod Answer
-- What a caller sees of an end: what it answers, and what each call makes of it.
pub mod Image
-- An end with all that it ever offered.
pub mod End
-- The image of an end by its fields.
pub mod Inside
-- What is taken of the frames that come, as lists.
pub mod Taken
