pub mod Keys
pub mod Rows
pub mod Kinds
pub mod Tables
pub mod Stated
pub mod Index
pub mod Faults
pub mod Views
