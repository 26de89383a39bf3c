-- A row's parts, with what stands between them.
pub mod Lines
