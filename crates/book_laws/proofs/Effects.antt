-- What each call does, by section number, and what it leaves as it was.
pub mod Same
pub mod Section
pub mod Trade
pub mod Session
pub mod Condition
pub mod Notice
