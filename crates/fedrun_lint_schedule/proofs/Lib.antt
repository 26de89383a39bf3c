-- a refusal agrees with the reader of schedules
pub mod Agreement
