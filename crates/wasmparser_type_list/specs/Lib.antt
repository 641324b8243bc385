pub mod CountedReads
pub mod HeldValues
pub mod IdTypes
pub mod Lending
pub mod LentValues
pub mod TypeSizes
pub mod TypeTables
