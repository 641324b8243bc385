-- Modules made by the generator, as lists of their imports and of their own items, before which imported ones come in the index spaces.
use Rattle.std.specs.Prelude.{ℕ, List, Option}
use Rattle.wasm_spec.specs.Syntax.{ImportEntry, Table, Global, Export, ElementSegment, DataSegment}
use Rattle.wasm_spec.specs.Types.{RecGroup, MemoryType, ValType}

-- The body of a function: its locals, and behind them `unreachable`, or raw bytes.
pub record MadeBody : Type 0 where
  pub locals : List (ValType ℕ)
  pub raw : Option (List ℕ)

-- A custom section, and how many of the thirteen kinds of other sections come before it, in their order and whether the module has them or not. Behind all of them
-- is 13; one of a greater place isn't written.
pub record PlacedCustom : Type 0 where
  pub place : ℕ
  pub name : List ℕ
  pub contents : List ℕ

-- Functions and tags are given by their type indexes.
pub record Made : Type 0 where
  pub groups : List (RecGroup ℕ)
  pub imports : List ImportEntry
  pub funcs : List ℕ
  pub tables : List Table
  pub memories : List MemoryType
  pub tags : List ℕ
  pub globals : List Global
  pub exports : List Export
  pub start : Option ℕ
  pub elems : List ElementSegment
  pub data_segments : List DataSegment
  pub bodies : List MadeBody
  pub customs : List PlacedCustom
