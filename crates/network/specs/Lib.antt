-- Reactors that are connected, what they should do, and in which order.
-- lists, item by item
pub mod Items
-- connections and paths of them
pub mod Connection
-- events, and which of several at one slot is present
pub mod Event
-- reactors, connections and external events together
pub mod Network
-- the events that one reactor has still to run
pub mod Undone
-- the undivided program: its turns, its rows, and each reactor's part of them
pub mod Undivided
-- what a network has to keep, so that the laws hold of it
pub mod Lawful
-- its reactors, connections and stop alone
pub mod Wiring
-- tables of least delays
pub mod Tables
-- small networks on which the definitions are computed
pub mod Examples
