pub mod Forms
pub mod Groups
pub mod Imports
pub mod Shapes
pub mod Standing
pub mod ValidShapes
