pub mod CallLaws
pub mod CheckCodeLaws
pub mod CodeLaws
pub mod ConfigLaws
pub mod ConfigTextLaws
pub mod DefaultLaws
pub mod FeatureLaws
pub mod WrittenLaws
