pub mod Judging
pub mod MoreFeatures
pub mod OtherCodes
