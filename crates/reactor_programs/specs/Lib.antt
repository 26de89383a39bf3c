-- Programs for the federates of a federation.
-- as many, each with its federate's slots
pub mod Programs
