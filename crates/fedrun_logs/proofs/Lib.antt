-- Lemmas.
-- a log in a file that is settled
pub mod Settled
-- a log whose blocks come one after the other
pub mod Going
-- events of a journal that are handed in one part after the other
pub mod Handed
