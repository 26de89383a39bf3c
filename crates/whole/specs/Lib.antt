-- The undivided program, as code that goes on turn by turn.
-- to which federates a turn puts events
pub mod Targets
-- what a turn puts there
pub mod Construction
-- which turn is next
pub mod Next
-- what is undone of each federate, and how a turn changes it
pub mod Agendas
-- agendas before the first turn
pub mod Initial
-- what such a program shows
pub mod Progress
-- what it keeps
pub mod Invariant
