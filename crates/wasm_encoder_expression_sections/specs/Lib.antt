pub mod ItemEncodings
pub mod CoreSegments
pub mod CoreItems
pub mod ReadItems
