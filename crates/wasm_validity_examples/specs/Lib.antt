pub mod ConstantExamples
pub mod Examples
pub mod ItemExamples
pub mod MachineExamples
pub mod ModuleExamples
pub mod SubtypeExamples
