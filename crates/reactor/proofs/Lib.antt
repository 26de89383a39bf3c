-- what is listed of a function, one place more
pub mod Listing
-- a loop over a list, one item further
pub mod Loops
-- a turn under way
pub mod RunsTo
-- after one step
pub mod Stepped
-- what is present, put into registers
pub mod Registers
-- the registers that turns begin with
pub mod Initial
-- literals behind others
pub mod Literals
-- steps do what their lines say
pub mod Simulation
-- steps stay within their room
pub mod Within
-- rows in flat room
pub mod FlatRows
-- what a turn depends on
pub mod Presence
