-- What posts make of one side of a link.
pub mod Posting
-- What a step of a station does at each side of its links.
pub mod Course
-- Each step of a station is such a course.
pub mod Courses
-- A world as links, and what a step makes of them.
pub mod Shown
-- What acts leave as it was at a side.
pub mod Quiet
-- One federate's link beside the machine of queues.
pub mod Site
-- What both kinds of nodes do, as moves of the machine.
pub mod Moves
-- A world beside a run of the machine, step by step.
pub mod Runs
-- What a federate does in a world, beside the machine.
pub mod Members
-- Each step of a federation's world goes on beside the machine.
pub mod Steps
-- The world of a federation after any steps, beside a run of the machine.
pub mod Worlds
-- The rows of a federation's world: as they go on, and where it is finished or stuck.
pub mod Rows
-- What is taken at each side by a step.
pub mod Taking
-- What is taken of each direction is a prefix of what was offered in it.
pub mod InOrder
-- No federate takes a message at a tag that it ran, or at an earlier one.
pub mod Late
-- Whether every signal was taken and acknowledged shows at the ends.
pub mod Emptied
-- Stations as they are made, one after the other.
pub mod Initial
-- How many frames a step sends to a peer at most.
pub mod Bound
-- In all steps to come no more is sent to a peer in one step.
pub mod Rooms
-- The frames of all directions, and the memory that is left.
pub mod Ways
-- An event of a turn for which a federate has nothing to do changes nothing.
pub mod Idle
-- What a step of one station makes of the world.
pub mod Stepping
-- What a federate that forgets makes of the world.
pub mod Forgetting
-- Small steps as the steps that they are.
pub mod Made
