pub mod TypeWords
