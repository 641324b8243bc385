mod BadLaws
mod Examples
mod FieldLaws
mod GivenLaws
mod TableLaws
