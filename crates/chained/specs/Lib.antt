pub mod Edits
pub mod Means
pub mod Plans
pub mod Laws
pub mod Served
