mod ChainLines
mod RefusalsTold
mod StepLines
mod TextFaults
mod TreeLines
pub mod Refused
pub mod Earliest
pub mod FirstFault
pub mod Listed
pub mod Parts
pub mod Told
pub mod Drawn
pub mod Lost
pub mod Named
pub mod Intervals
pub mod Judged
pub mod JustValid
pub mod Allowed
pub mod TwoChannels
pub mod TwoMessages
pub mod Changed
pub mod LongerProcess
pub mod WorkersAfter
pub mod PlansTold
pub mod PartedBundles
pub mod BoundsAndTraces
pub mod SearchesTold
pub mod Spared
pub mod JudgementsTold
pub mod Transfers
pub mod ChannelLines
pub mod FirstSteps
pub mod SettledFrames
mod Decided
