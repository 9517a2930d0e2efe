pub mod EachLaws
pub mod KeyLaws
pub mod TableFaults
pub mod FaultLaws
pub mod StatedLaws
pub mod ArrayLaws
pub mod IndexLaws
