-- Which step an event at a node can be.
mod Placing
-- Lists of events that are prefixes of journals.
mod Prefixes
-- What a list of steps that agrees with the journals, and gives the reported rows, proves.
mod Proved
-- Reports that are found.
mod Found
-- What a search for the journals of a claim says of it.
mod Judged
-- An audit that is begun goes on, and journals go on while it does.
mod Ahead
