-- What is pending, by node.
pub mod Pending
-- Laws of machines with disks.
pub mod Disks
-- A world of any nodes is such a machine.
pub mod Worlds
-- What a federation's disks keep, and what its processes have.
pub mod Federation
