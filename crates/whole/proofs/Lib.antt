-- lists
pub mod Steps
-- what was put stays, or is taken back
pub mod Putting
-- the first of turns that are next
pub mod NextTurns
-- the first of each block, and of all
pub mod Firsts
-- what is found, and its least tag
pub mod Looks
-- lists with a value for each number
pub mod Filled
-- connections
pub mod Joined
-- how many turns there can be
pub mod Few
-- all agendas after a turn
pub mod AllAgendas
-- agendas before the first turn
pub mod InitialAgendas
-- what a turn puts is what it makes
pub mod PutMade
-- the beginning, and a turn
pub mod Turns
