pub mod Lists
pub mod Counts
pub mod TooMany
pub mod Aged
pub mod Nodes
pub mod Pieces
pub mod Found
pub mod Waits
mod RulesKept
pub mod OwnAges
mod AgedDeadlines
mod AgedProcesses
pub mod AgeWindows
mod LaterEnds
mod MappedAt
mod JoinedPieces
mod Members
pub mod ReadJobs
pub mod RunPlaces
mod Readers
mod SentPlaces
mod LinkPlaces
pub mod KeptDeadlines
mod StoringNodes
pub mod Chains
mod Rounds
mod Frames
mod Shared
mod Sound
mod Complete
mod Behind
mod WorkedRules
mod WorkedJobs
mod WorkedPlan
pub mod Tops
pub mod ForEver
mod Reading
pub mod OneAge
pub mod OtherBounds
pub mod Bounded
