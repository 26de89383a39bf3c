-- A machine of several nodes, in which a step is an event at one of them.
pub mod Machine
-- What nodes' disks keep of it, what is pending, and what a kill leaves.
pub mod Disks
-- A world of any nodes, as such a machine.
pub mod Worlds
-- The disks of a federation, and what its processes have.
pub mod Federation
