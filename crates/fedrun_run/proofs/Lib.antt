-- Lemmas.
-- desks to which nothing came, and their ends
mod Unused
-- reports that are added federate by federate
mod ByNumber
-- reports of desks, one after the other
mod Reports
-- reports that an audit believes, and those that it doesn't
mod Believed
