-- The two sides of a federation, step by step on signals, and the machine that both make with the queues between them.
-- the refusals: their numbers, and how they are printed
pub mod Refusals
-- how a step ends
pub mod Outcome
-- a federate's steps
pub mod Federate
-- what the coordinator knows of one federate
pub mod FederateRecord
-- which federate may be granted which tag
pub mod Grant
-- before which tag nothing can arrive
pub mod Bound
-- the coordinator's step
pub mod Coordinator
-- records as a list, and whether all is finished
pub mod FederateRecords
-- what each side keeps by itself, and what it sends, whatever the other side says
pub mod KeptAlone
-- federates, coordinator and the queues between them
pub mod Machine
-- a small federation, on which the definitions are computed
pub mod Examples
