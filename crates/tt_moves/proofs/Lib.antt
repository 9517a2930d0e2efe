pub mod Agreeing
pub mod EarlierStarts
pub mod EarlierRounds
pub mod Swaps
pub mod ExchangedTwins
pub mod ExchangedSilentTwins
pub mod TurnedFrames
