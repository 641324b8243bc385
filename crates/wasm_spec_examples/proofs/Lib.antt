pub mod FieldLaws
pub mod GateForms
pub mod RightBodies
pub mod RightRows
pub mod SmallBodies
pub mod SmallOperators
pub mod TypeChains
pub mod TypeKinds
