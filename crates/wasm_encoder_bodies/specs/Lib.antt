pub mod CoreLocals
pub mod Expressions
pub mod Locals
pub mod Sinks
