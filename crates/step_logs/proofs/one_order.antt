pub mod Tables
pub mod Known
pub mod Rules
pub mod Logs
