-- Lemmas.
-- what is saved under a name that was reserved
pub mod Reserved
