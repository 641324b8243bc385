mod ExampleLaws
pub mod MemberLaws
pub mod LoneLaws
pub mod WordLaws
pub mod FrontLaws
pub mod SpellLaws
pub mod AskingLaws
pub mod FunctionLaws
pub mod AgreementLaws
pub mod WitnessLaws
pub mod ReachLaws
pub mod RefusalLaws
