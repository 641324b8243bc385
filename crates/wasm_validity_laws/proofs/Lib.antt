pub mod BelowTest
pub mod InTurn
mod KnownImports
pub mod Named
pub mod NamedTypes
pub mod NamedWanted
pub mod OneTest
pub mod PlainItems
pub mod PlainTypes
pub mod Reaching
pub mod SameTypes
pub mod Spaces
pub mod WantedBoth
pub mod Within
pub mod WrittenItems
pub mod WrittenTypes
