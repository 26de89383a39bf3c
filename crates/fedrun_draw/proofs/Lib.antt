-- steps up to one, and from one on
pub mod Fronts
-- why a schedule isn't drawn
pub mod Drawing
