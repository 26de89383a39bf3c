-- The federation file that a source becomes.
-- what is changed in a text
pub mod Changes
-- what a document becomes whose bodies are expanded
pub mod Bodies
-- what a source becomes
pub mod Made
