pub mod AlikeShapes
mod Fronts
mod FormLaws
mod GroupParts
mod FlatLaws
mod GateLaws
mod LinkLaws
mod RangeLaws
mod GroupWalk
mod ItemWalk
mod NameWalk
mod ReasonLaws
