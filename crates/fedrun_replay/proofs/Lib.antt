-- Lemmas.
-- steps that are made one after the other
pub mod Playing
-- tasks that are done one after the other
pub mod Doing
-- frames that come one after the other
pub mod Delivering
-- lines that are obeyed one after the other
pub mod Obeying
-- closing rounds that are made one after the other
pub mod Closed
-- where the lines of a schedule leave a player
pub mod Leaving
-- closing rounds that are enough end stuck, with every row
pub mod Enough
-- what a replay printed stays printed
pub mod Kept
