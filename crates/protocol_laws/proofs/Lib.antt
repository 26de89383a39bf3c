-- Tests that are made of tests.
pub mod Tests
-- Tags, their places and their sums.
pub mod Tags
-- The tags of messages on their way, as far as the coordinator knows them.
pub mod Transit
-- What stands in the queue from a federate to the coordinator.
pub mod Upward
-- What stands in the queue from the coordinator to a federate.
pub mod Downward
-- What a federate has still to run.
pub mod StillUndone
-- What the coordinator was told last, and where the tags in transit are.
pub mod Told
-- What a turn makes: its signals, and what it schedules.
pub mod Turns
-- What is kept of each federate, whatever happens; and that each step keeps it.
pub mod Kept
-- Why no message comes at or below a granted tag.
pub mod Backing
-- The steps of the machine: none is refused.
pub mod Safety
-- The two forms of grant are safe.
pub mod SafeGrants
-- Who is eligible, by all paths and by the table.
pub mod Eligibility
-- What a run in which every next tag is FOREVER still holds.
pub mod Ending
-- Least delays over all paths give the two facts.
pub mod LeastTables
-- Runs that are computed: all members are looked at after each move.
pub mod Frozen
-- The examples' runs.
pub mod Computed
-- A table that the two facts hold of is at most every path's total.
pub mod FixedPoints
-- The examples are lawful.
pub mod LawfulExamples
-- After each of its steps the coordinator leaves nobody eligible.
pub mod Settled
-- A stuck run has nothing left to do.
pub mod Stuck
-- Chains of pending events: none leads to a tag that its last federate has completed.
pub mod Chains
-- All that is pending stays clear of what is completed.
pub mod Clear
-- And so after every list of moves.
pub mod ClearRuns
-- What is pending, one by one.
pub mod Pending
-- Rows and states are those of replaying the history that the rows tell.
pub mod Replay
-- What waits for a slot at a tag, on queues and undone.
pub mod Waiting
-- What a turn makes for a slot at a tag.
pub mod Makes
-- What waits is what histories call for.
pub mod Histories
-- And so after every list of moves.
pub mod HistoryRuns
-- The histories of a run are a consistent trace.
pub mod Consistency
-- Where they are, the rows of a run are a prefix of the undivided program's.
pub mod Prefixes
-- Where nothing is left to do, no row is missing.
pub mod EveryRow
-- Two runs of one network agree.
pub mod TwoRuns
-- What every run computes.
pub mod Computes
-- What a federate keeps by itself.
pub mod FederateAlone
-- What the coordinator keeps by itself.
pub mod CoordinatorAlone
-- The coordinator's step goes by the wiring of a network alone.
pub mod Wired
-- The bound, by the table and by itself.
pub mod FirstArrivals
-- Records as a list.
pub mod ListedFederateRecords
-- What is completed is the tag of the last row.
pub mod LastRows
-- Signals in order, and then more of them.
pub mod InOrder
