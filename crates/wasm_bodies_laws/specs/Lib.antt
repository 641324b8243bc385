pub mod Machine
pub mod References
