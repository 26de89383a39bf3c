-- What makes an audit's steps, and which step an event can be.
pub mod Placing
-- What an audit answers.
pub mod Audited
-- An audit that is begun while the nodes of a federation still write their journals.
pub mod Incremental
