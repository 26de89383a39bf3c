-- The two kinds of nodes of a federation, as what node asks of a core.
-- a federate
pub mod FederateCore
-- the coordinator
pub mod CoordinatorCore
