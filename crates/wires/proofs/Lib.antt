-- Lemmas.
-- lists with one element more
pub mod Pushed
