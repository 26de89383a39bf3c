-- Bodies that are worked by hand.
pub mod Worked
