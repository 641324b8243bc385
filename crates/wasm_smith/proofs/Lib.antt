pub mod SeedLaws
