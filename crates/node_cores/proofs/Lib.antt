-- Each step of a node adds to its rows, and leaves what it was made from.
pub mod GoingOn
