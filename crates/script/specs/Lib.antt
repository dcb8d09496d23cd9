pub mod Format
pub mod Lines
pub mod Printed
pub mod Spelling
