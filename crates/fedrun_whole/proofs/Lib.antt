-- Lemmas.
-- rows that are written some turns at a time
pub mod Batches
-- requests of further commands
pub mod Further
