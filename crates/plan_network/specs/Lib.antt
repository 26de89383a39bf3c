-- Federations as networks.
-- the network of a federation with its programs and inputs
pub mod Network
-- small federations, their rows computed
pub mod Examples
