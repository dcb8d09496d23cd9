pub mod Histories
pub mod SerialOrder
pub mod Reaches
