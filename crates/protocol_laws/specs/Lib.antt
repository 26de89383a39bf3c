-- What the laws speak of, beside the definitions of the crates below.
-- runs of the machine that are refused nothing
pub mod Runs
-- a network with a cycle, and a run of it to its end
pub mod Ring
-- weaker rules, by which messages come too late
pub mod WeakerRules
-- chains of what is pending
pub mod Chains
-- the rows that runs of the machine leave
pub mod Rows
-- what the federates have run so far, and how far that is settled
pub mod Histories
