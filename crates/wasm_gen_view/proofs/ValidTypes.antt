-- Items in the index spaces of a valid module name its types, so that each reference of its view goes to a group of the view.
use Rattle.std.proofs.Common.{◌≡◌, ◌∙◌, ℕ, suc, ◌<◌, true, List, [], ◌∷◌, length, map, slice_get, Option, Some, None, is_some, refl, sym, ap, subst}
use Rattle.std.specs.Global.{Vec}
use Rattle.std.specs.List.{AllByRecursion, flat_map}
use Rattle.std.proofs.lemmas.Bool.{ltb-true}
use Rattle.std.proofs.lemmas.List.{length-map}
use Rattle.std.proofs.lemmas.Option.{slice_get_within}
use Rattle.wasm_spec.specs.Trees.{DefType, opened}
use Rattle.wasm_spec.specs.TypeReferences.{global_refs, heap_refs, ref_refs, subs_map, table_refs, val_refs}
use Rattle.wasm_spec.specs.Types.{HeapType, Abstract, Concrete, ValType, Ref}
use Rattle.wasm_validity.specs.DefinedTypes.{func_type_at}
use Rattle.wasm_validity.specs.IndexSpaces.{Spaces}
use Rattle.wasm_validity_laws.specs.NamedTypes.{Each, NamesTypes, names_heap, names_value}
use Rattle.wasm_gen_view.proofs.NumberLaws.{all_append}
use Rattle.wasm_gen_view.specs.Types.{sub_type}
use Rattle.wasm_gen_view.specs.Views.{AreNumbered, HasTypes, IsViewOf, tree_reference}
use Rattle.wasm_gen_view.specs.declared.types.SubType.{SubType}
use Rattle.wasm_gen_view.specs.declared.view.View.{View}

-- ---- types that are named

function_within : (types : List DefType) (index : ℕ) → is_some (func_type_at types index) ≡ true → index < length types
function_within types index named = at (slice_get types index) refl
  where
    at : (found : Option DefType) → slice_get types index ≡ found → index < length types
    at None e = let never = rw e at named in absurd cc
    at (Some type) e = slice_get_within types index type e

module _ (types : List DefType) where
  abbrev Within : ℕ → Type 0
  Within index = index < length types

  abbrev AreWithin : List ℕ → Type 0
  AreWithin indexes = AllByRecursion Within indexes

  heap_within : (heap : HeapType ℕ) → names_heap types heap ≡ true → AreWithin (heap_refs heap)
  heap_within (Abstract heap) named = tt
  heap_within (Concrete index) named = (ltb-true index (length types) named, tt)

  value_within : (type : ValType ℕ) → names_value types type ≡ true → AreWithin (val_refs type)
  value_within (Ref nullable heap) named = heap_within heap named
  value_within _ named = tt

  indexes_within : (indexes : List ℕ) → Each (λ index. is_some (func_type_at types index) ≡ true) indexes → AreWithin indexes
  indexes_within [] named = tt
  indexes_within (index ∷ indexes) named = (function_within types index (named 0 index refl), indexes_within indexes (λ place. named (suc place)))

  refs_within : {A : Type 0} (refs : A → List ℕ) (Names : A → Type 0) → ((item : A) → Names item → AreWithin (refs item)) → (items : List A) → Each Names items
      → AreWithin (flat_map refs items)
  refs_within refs Names one [] named = tt
  refs_within refs Names one (item ∷ items) named =
      all_append Within (refs item) (flat_map refs items) (one item (named 0 item refl)) (refs_within refs Names one items (λ place. named (suc place)))

pub names_have_types : (s : Spaces) → NamesTypes s → HasTypes s
names_have_types s named = record {
  functions = indexes_within s.types s.functions named.functions;
  tables = refs_within s.types table_refs _ (λ type. heap_within s.types type.element_type.heap_type) s.tables named.tables;
  globals = refs_within s.types global_refs _ (λ type. value_within s.types type.value_type) s.globals named.globals;
  tags = indexes_within s.types s.tags named.tags;
  elements = refs_within s.types ref_refs _ (λ type. heap_within s.types type.heap_type) s.elements named.elements;
}

-- ---- the view

-- as many trees as groups
pub numbered_view : (s : Spaces) (v : View) → HasTypes s → IsViewOf s v → AreNumbered (length v.groups.items) v
numbered_view s v has it =
    let meant = λ (group : Vec SubType). subs_map (tree_reference it.trees) (map sub_type group.items) in
    let count : length it.trees ≡ length v.groups.items = sym (length-map it.trees opened) ∙ sym (ap length it.groups) ∙ length-map v.groups.items meant in
    subst (λ n. AreNumbered n v) count (it.numbered has)
