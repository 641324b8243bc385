pub mod Allowed
mod SameGroups
