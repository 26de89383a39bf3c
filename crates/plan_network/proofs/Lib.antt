-- lists that are made of others
pub mod Pairs
-- where connections begin and end
pub mod Wiring
-- where and when external events are
pub mod Outside
-- no two external events are for one slot at one tag
pub mod Apart
-- what programs schedule
pub mod Scheduled
-- the network of a legal plan is lawful
pub mod LawfulNetwork
