-- Lemmas.
-- two lists that are the same up to a place
mod Differences
-- the journals of one federate more
mod Pushed
