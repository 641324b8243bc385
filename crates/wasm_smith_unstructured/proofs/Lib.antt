pub mod NumberLaws
pub mod ChooseLaws
pub mod NameLaws
pub mod TextLaws
