pub mod Contexts
pub mod Interning
pub mod ItemLimits
pub mod KindTests
pub mod Kinds
pub mod Rules
