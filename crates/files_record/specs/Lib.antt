-- Steps as a schedule file.
-- the text of steps
pub mod StepText
-- what that text is read as
pub mod ReadAgain
