mod AgeAnswers
pub mod Told
mod Lines
mod Naming
mod LimitAnswers
mod Meaning
mod MarginAnswers
