-- What is written of a picture.
-- texts in which nothing is read as part of the file's form
pub mod Escaped
-- a picture as SVG
pub mod Svg
