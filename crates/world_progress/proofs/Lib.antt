-- Sums over all numbers below a count.
pub mod Sums
-- Steps that are tested before they are done.
pub mod Outcomes
-- What queues are worth.
pub mod Queues
-- What a federate's step sends.
pub mod Sent
-- What a federate does takes from what it can still do.
pub mod FederateCosts
-- Whether a TAG may still go out to a federate.
pub mod CoordinatorCosts
-- What a signal changes when the coordinator takes it.
pub mod Changes
-- What the coordinator's move takes from what all can still do, and what it sends.
pub mod CoordinatorMoves
-- Each move.
pub mod Moves
-- All moves of a run.
pub mod Runs
-- Both forms of grant are sparing.
pub mod SparingGrants
-- The rows of all parts.
pub mod Parts
-- Each run ends where all are stuck.
pub mod Ending
-- A step of a world, beside the machine.
pub mod Walking
-- What acts make of a side's numbers.
pub mod Growing
-- A world in which nobody forgot, and how much is still to be done in it.
pub mod Reached
-- The two sides of a direction in such a world.
pub mod Facing
-- What a node sends in one step fits an empty link.
pub mod Fitting
-- What certain steps do in such a world.
pub mod Happening
-- What a federate does by itself, where nothing is done.
pub mod Speaking
-- What stays through steps and tasks.
pub mod Serving
-- A direction that is served.
pub mod Settling
-- Where nothing more can be done.
pub mod Halting
-- Closing rounds end stuck.
pub mod ClosingRounds
-- Fair schedules end stuck.
pub mod FairSchedules
-- A stuck world's coordinator is finished.
pub mod Finished
-- What a player is to do, one thing after the other.
pub mod TaskLists
