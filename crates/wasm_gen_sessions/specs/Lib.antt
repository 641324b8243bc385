pub mod Asked
pub mod Generate
pub mod History
pub mod Lists
pub mod Session
pub mod Written
