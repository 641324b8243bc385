pub mod BodyExamples
pub mod Examples
pub mod OperatorExamples
pub mod TypeExamples
