pub mod Chain
pub mod Meaning
pub mod Laws
pub mod Alike
pub mod Members
pub mod Versions
