-- The function type that an index names, as a list keeps it.
use Rattle.std.proofs.Common.{◌≡◌, ℕ, List, Option, Some, None, IfSome, refl, sym, ap, ◌∙◌, subst, slice_get}
use Rattle.std.specs.Borrow.{Bor}
use Rattle.std.specs.List.{AllByRecursion}
use Rattle.std.specs.Option.{option_and_then, option_copied, option_map}
use Rattle.wasm_spec.proofs.MappedBack.{all_right}
use Rattle.wasm_spec.specs.TypeReferences.{composite_map, composite_refs, func_map, func_refs, sub_map, sub_refs}
use Rattle.wasm_spec.specs.Trees.{DefType, type_at, unrolled}
use Rattle.wasm_spec.specs.Types.{ArrayComposite, CompositeType, ContComposite, FuncComposite, FuncType, StructComposite, SubType}
use Rattle.wasm_validity.specs.DefinedTypes.{func_in, func_type_at, func_type_of}
use Rattle.wasmparser_type_list.specs.TypeTables.{TypeTables}
use Rattle.wasmparser_type_list.specs.IdTypes.{type_of_index}
use Rattle.wasmparser_module_types.proofs.KnownIds.{types_named}
use Rattle.wasmparser_module_types.specs.ModuleTypes.{all_groups, interned_types, module_types}
use Rattle.wasmparser_types.specs.CompositeTypes.{func_of, func_type}
use Rattle.wasmparser_types.specs.Index.{Index}
use Rattle.wasmparser_types.specs.declared.composite_type.FuncType.{FuncType as FuncType'}

pub no_index : (list : TypeTables) (ids : List ℕ) (index : ℕ) → slice_get ids index ≡ None → func_type_at (module_types list ids) index ≡ None
no_index list ids index none = ap (option_and_then func_type_of) (types_named list ids index ∙ ap (option_map (type_at (interned_types list))) none)

func_mapped : (f : Index → DefType) (type : CompositeType Index) → func_in (composite_map f type) ≡ option_map (func_map f) (func_of type)
func_mapped f (FuncComposite type) = refl
func_mapped f (StructComposite fields) = refl
func_mapped f (ArrayComposite field) = refl
func_mapped f (ContComposite function) = refl

pub known_index : (list : TypeTables) (ids : List ℕ) (index id : ℕ) (type : SubType Index) (found : Option (FuncType Index)) → slice_get ids index ≡ Some id
    → unrolled (type_at (interned_types list) id) ≡ Some (sub_map (type_of_index all_groups list) type) → found ≡ func_of type.composite_type
    → func_type_at (module_types list ids) index ≡ option_map (func_map (type_of_index all_groups list)) found
known_index list ids index id type found at unrolls is =
    let f = type_of_index all_groups list in
    ap (option_and_then func_type_of) (types_named list ids index ∙ ap (option_map (type_at (interned_types list))) at)
    ∙ ap (option_and_then (λ (sub : SubType DefType). func_in sub.composite_type)) unrolls
    ∙ func_mapped f type.composite_type ∙ ap (option_map (func_map f)) (sym is)

-- what holds of all references of a type holds of those of the function type that it is
pub func_ids : (P : Index → Type 0) (type : SubType Index) (found : Option (Bor FuncType')) → option_map func_type (option_copied found) ≡ func_of type.composite_type
    → AllByRecursion P (sub_refs type) → IfSome found (λ ty. AllByRecursion P (func_refs (func_type ty.now)))
func_ids P type None is all = tt
func_ids P type (Some ty) is all = of_kind type.composite_type is (all_right P type.supertypes (composite_refs type.composite_type) all) where
  of_kind : (c : CompositeType Index) → Some (func_type ty.now) ≡ func_of c → AllByRecursion P (composite_refs c) → AllByRecursion P (func_refs (func_type ty.now))
  of_kind (FuncComposite function) is all = let same : func_type ty.now ≡ function = cc in subst (λ (t : FuncType Index). AllByRecursion P (func_refs t)) (sym same) all
  of_kind (StructComposite fields) is all = absurd cc
  of_kind (ArrayComposite field) is all = absurd cc
  of_kind (ContComposite function) is all = absurd cc
