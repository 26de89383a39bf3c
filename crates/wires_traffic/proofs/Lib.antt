-- Lemmas.
-- frames that are counted one after the other
pub mod Counted
-- the numbers of signals among frames
pub mod Numbered
-- how many Batches frames are written as
pub mod Pieced
