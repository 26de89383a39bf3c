-- Where names stand.
pub mod Places
-- A list that isn't empty, as its first item and the others.
pub mod First
-- What stands at two places of a list.
pub mod Twice
-- Names pushed one after another.
pub mod Pushed
