pub mod Played
pub mod Turns
pub mod Table
