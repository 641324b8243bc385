pub mod Draws
pub mod Names
pub mod Texts
