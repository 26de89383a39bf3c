-- From frames to signals: what is sent in each direction of each link, and what stands at both its ends.
-- one direction of a link: the frames ever sent in it, and what they offer
pub mod Direction
-- a link with any nodes at its ends
pub mod Link
