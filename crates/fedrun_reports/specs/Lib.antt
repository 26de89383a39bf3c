-- What nodes' files say of a run. The node that a plan and a journal make.
pub mod After
-- What a report or a log says.
pub mod Files
-- How faults are printed.
pub mod Faults
