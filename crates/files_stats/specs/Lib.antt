-- The text of the file that `--stats` saves.
pub mod Stats
