-- Nothing is answered exactly where nothing happens.
pub mod Exact
-- What a federate and the coordinator do by themselves changes them.
pub mod Acting
-- The coordinator's rule is the grant rule over all paths.
pub mod OverPaths
-- The TAGs that a step of the coordinator sends are those that federates get by the grant rule over all paths.
pub mod TagsSent
