pub mod Options
pub mod Numbers
pub mod Values
pub mod Spelled
pub mod Shown
pub mod Cuts
pub mod Ended
