pub mod ArbitraryLaws
pub mod InstructionLaws
pub mod KindLaws
pub mod OffsetLaws
pub mod TableLaws
pub mod UnionLaws
