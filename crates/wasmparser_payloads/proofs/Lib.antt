pub mod BeginLaws
pub mod ContentEntries
pub mod ContentLaws
pub mod EndLaws
pub mod FrontItems
pub mod FrontParts
pub mod FrontStates
pub mod ItemLaws
mod LocalLaws
pub mod ModuleFronts
pub mod ModuleLaws
pub mod PieceKinds
pub mod PieceLaws
pub mod Places
pub mod Progress
pub mod Steps
pub mod UnreadLaws
