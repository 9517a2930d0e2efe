pub mod After
pub mod Written
pub mod Logs
pub mod Uses
pub mod RuledOut
