-- Lemmas.
-- pieces of texts
pub mod Cut
