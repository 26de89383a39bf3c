-- The lines of what happens at a node, and of where its federates stand.
-- times as text
pub mod Seconds
-- federates by name, and who of them is awaited
pub mod Awaited
-- why a connection isn't let in, why none is made, and why a node gives up
pub mod Causes
-- how connections begin and end, and attempts to make one come to nothing
pub mod Connections
-- where a federate stands, and how far a run is
pub mod Standings
-- the line of each thing that happens
pub mod Lines
-- the lines of federates on a terminal
pub mod Picture
