-- What `frames` prints of a schedule.
-- texts one after the other
pub mod Each
-- signals and frames as text
pub mod FrameText
-- what comes to a node at a step, and how that ended, as text
pub mod Brought
-- what an acknowledgement tells of its sender
pub mod Acknowledged
-- steps, with all that came of them
pub mod Accounts
-- how the steps of a schedule are listed
pub mod Making
-- all that is printed of a schedule
pub mod Shown
