pub mod Time
pub mod Records
pub mod Refusals
pub mod Checks
pub mod Ledger
pub mod Answers
pub mod Words
