-- How much a run of the machine of queues can still do.
-- how much there is at first, by the rows of the undivided program
pub mod Fuel
-- how much is left, by what each federate still has to run and by what waits in its queues
pub mod Worth
-- runs in which nobody is lost, by rules that grant sparingly; and how many of their moves do something
pub mod Runs
-- rounds of a world: which steps they make, and how far each direction's cursor goes
pub mod Rounds
-- schedules by which everything goes on
pub mod Fair
-- two small worlds, and what closing rounds make of them
pub mod SmallWorlds
