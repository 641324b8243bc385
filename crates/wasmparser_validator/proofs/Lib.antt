pub mod Agreement
pub mod BelowById
pub mod BodiesById
pub mod BodiesLaws
mod CountLaws
pub mod Counts
mod EndedLaws
mod EntryLists
mod ExportLaws
pub mod FewParameters
pub mod FunctionTypes
pub mod Ids
pub mod ItemsById
mod JudgeLaws
pub mod LaterEntries
pub mod LocalsLimit
pub mod NumberExpressions
pub mod OneToOne
mod OwnLaws
mod PieceItems
mod PieceLaws
mod PiecePlaces
mod ReachedLaws
mod ReadPieces
mod ResourceLaws
mod SectionEntries
mod SpaceLaws
mod TypeGroups
pub mod VerdictLaws
