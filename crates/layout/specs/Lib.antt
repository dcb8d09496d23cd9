pub mod Field
pub mod Layout
pub mod Edits
pub mod Marks
pub mod Laid
pub mod Walks
