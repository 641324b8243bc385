pub mod SameSections
pub mod SameEncodings
mod ReadModules
