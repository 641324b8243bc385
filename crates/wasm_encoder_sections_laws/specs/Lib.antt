pub mod Told
pub mod WrittenModules
