pub mod State
pub mod Calls
pub mod View
pub mod Settling
pub mod Walk
pub mod Start
pub mod Settled
pub mod Meets
