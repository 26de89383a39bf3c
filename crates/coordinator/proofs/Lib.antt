-- Records as a list, and TAGs that go out one after the other.
pub mod Listed
-- What is in transit doesn't tell who is granted what.
pub mod Unseen
-- Whom a change may make eligible.
pub mod Affected
-- TAGs to one federate more, and one post more.
pub mod Sent
-- What a step comes to.
pub mod Steps
-- The steps that signals make.
pub mod Signals
-- What a coordinator keeps, and that it sends in order.
pub mod Keeping
