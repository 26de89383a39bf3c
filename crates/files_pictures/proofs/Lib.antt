-- texts that are written one after the other
pub mod Texts
-- escaped texts have no tags
pub mod Harmless
