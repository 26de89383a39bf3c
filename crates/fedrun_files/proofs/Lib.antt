-- Lemmas.
-- results
pub mod Results
-- readers whose bytes are known
pub mod Readers
-- answers one after the other
pub mod InTurn
-- faults of files whose bytes are known
pub mod KnownFiles
-- digests of files
pub mod Digests
-- faults where other files were asked for before
pub mod FaultsInTurn
