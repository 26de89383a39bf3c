-- Link ends at their peers' places, and one of them changed.
pub mod Ends
-- What posts make of the link ends, and that what was reserved for several serves them one after the other.
pub mod Posts
-- What an end makes of the frames that it takes in by itself.
pub mod Notes
-- What a station's calls of its node come to.
pub mod Calls
-- Through every step a station's node goes on.
pub mod Ahead
-- Through every step what a station was made from stays.
pub mod Initial
-- Events of turns for which the node has nothing to do.
pub mod Idle
