pub mod ItemEncodings
pub mod CoreItems
pub mod CoreImports
pub mod SmallItems
