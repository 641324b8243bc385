-- The types of a valid module, as a validator knows them, while their groups are numbered one after the other.
use Rattle.std.specs.Prelude.{◌≡◌, ◌+◌, ◌≤◌, ℕ, true, List, length, map, slice_get, Some}
use Rattle.std.specs.List.{range_with_len}
use Rattle.wasm_spec.specs.Features.{needs_type_canonicalization}
use Rattle.wasm_spec.specs.Groups.{KeepGroupRules}
use Rattle.wasm_spec.specs.Trees.{DefType, GroupTree, opened, places_of, type_at, types_from}
use Rattle.wasm_spec.specs.Types as spec
use Rattle.wasmparser_module_types.specs.ModuleTypes.{KnownTypes}
use Rattle.wasm_gen_view.specs.KnownReferences.{number_in}
use Rattle.wasm_gen_view.specs.TypeNumbers.{AreNumbersOf}
use Rattle.wasm_gen_view.specs.declared.types.TypePlace.{TypePlace}
use Rattle.wasm_gen_view.specs.declared.types.TypeReference.{TypeReference}

-- A tree has ids, and the first of these has this number.
pub record HasIds (interned : List DefType) (numbers : List (ℕ × ℕ)) (number : ℕ) (tree : GroupTree) : Type 0 where
  pub first : ℕ
  pub count : ℕ
  pub named : number_in numbers first ≡ Some number
  pub whole : map (type_at interned) (range_with_len first count) ≡ places_of tree 0 (opened tree)
  pub known : first + count ≤ length interned

-- The first groups of a module with these types are numbered. Numbers by first ids are those of the ids' trees; where types are canonicalized, each tree has them.
pub record AreNumberedSoFar (types : KnownTypes) (section : List DefType) (numbered : List (List (spec.SubType TypeReference))) (places : List TypePlace) (numbers : List (ℕ × ℕ)) : Type 0 where
  pub before : List DefType
  pub trees : List GroupTree
  pub rest : List (spec.RecGroup ℕ)
  pub are : AreNumbersOf before trees numbered places
  pub rules : KeepGroupRules types.features before rest
  pub whole : types_from before rest ≡ section
  pub right : (first number : ℕ) → number_in numbers first ≡ Some number → slice_get trees number ≡ Some (type_at types.interned first).tree
  pub there : needs_type_canonicalization types.features ≡ true → (number : ℕ) (tree : GroupTree) → slice_get trees number ≡ Some tree → HasIds types.interned numbers number tree
