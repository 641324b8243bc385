mod ArbitraryLaws
pub mod BareLaws
mod BoundLaws
mod CodeLaws
pub mod CountLaws
pub mod CustomLaws
pub mod DataLaws
pub mod DrawLaws
mod DrawnLaws
pub mod ElementLaws
pub mod EntryNumbers
pub mod ExportLaws
mod ExportSizes
mod FilledFirst
mod FrontLaws
pub mod GivenImports
pub mod GivenTypes
pub mod GoodLaws
mod ImportBounds
mod ImportedLaws
pub mod ImportedLimits
mod ItemSpaces
pub mod MadeExports
pub mod MadeLaws
pub mod MadeLimits
pub mod MadeNumbers
pub mod NameLaws
pub mod NullLaws
mod NullableTables
pub mod OneEncoding
pub mod OwedLaws
pub mod OwnKeepLaws
pub mod OwnLaws
pub mod PassedLaws
pub mod SaturatedSums
pub mod ShapeChecks
pub mod ShapeTypes
mod StepLaws
mod TagLaws
pub mod TrapLaws
mod TrueLaws
mod ValidLaws
