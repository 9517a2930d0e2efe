pub mod CopiedLists
pub mod CodeSlots
pub mod SlotsAfter
pub mod Elsewhere
pub mod Channels
pub mod GreatestWaits
