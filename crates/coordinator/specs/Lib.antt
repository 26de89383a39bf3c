-- What the coordinator's step does to its table and sends, as far as the code goes by lists.
-- TAGs to a list of federates, and records after they went out
pub mod Sending
-- what is kept between steps, and what a step comes to
pub mod Steps
-- how the coordinator's out-of-memory fault is printed
pub mod Fault
