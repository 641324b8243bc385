-- The module's own functions name function types as they are written.
use Rattle.std.proofs.Common.{◌≡◌, ℕ, true, false, List, Some, None, is_some, slice_get, unwrap_or, refl, sym, ap, ◌∙◌, inl, inr, arith}
use Rattle.std.proofs.lemmas.Option.{slice_get_past}
use Rattle.std.specs.Option.{option_and_then}
use Rattle.wasm_bodies.specs.BodyContext.{func_in}
use Rattle.wasm_spec.proofs.Places.{get_either, get_some}
use Rattle.wasm_spec.specs.Features.{Features}
use Rattle.wasm_spec.specs.Syntax.{Section, functions_of, types_of}
use Rattle.wasm_spec.specs.Trees.{DefType, no_type, type_at, unrolled}
use Rattle.wasm_spec.specs.TypeReferences.{composite_map, sub_map}
use Rattle.wasm_spec.specs.Types.{CompositeType, FuncComposite, StructComposite, ArrayComposite, ContComposite, SubType}
use Rattle.wasm_validity.specs.ModuleBodies.{func_type_in}
use Rattle.wasm_validity.specs.Context.{at_first}
use Rattle.wasm_validity.specs.DefinedTypes as defined
use Rattle.wasm_validity.specs.DefinedTypes.{func_type_at, func_type_of}
use Rattle.wasm_validity.specs.Entries.{entries_of}
use Rattle.wasm_validity.specs.Rules.{KeepRules}
use Rattle.wasm_validity.specs.Validity.{context_of}
use Rattle.wasm_validity_laws.proofs.Named.{functions_named}
use Rattle.wasm_validity_laws.proofs.Spaces.{own_are_functions}
use Rattle.wasmparser_validator.proofs.BodiesById.{as_written}
use Rattle.wasmparser_validator.specs.TypesById.{AreWritten}

by_kind : (f : ℕ → DefType) (composite : CompositeType ℕ) → is_some (defined.func_in (composite_map f composite)) ≡ true → is_some (func_in composite) ≡ true
by_kind f (FuncComposite type) is = refl
by_kind f (StructComposite fields) is = absurd cc
by_kind f (ArrayComposite field) is = absurd cc
by_kind f (ContComposite function) is = absurd cc

type_is_written : (features : Features) (types : List DefType) (written : List (SubType ℕ)) → AreWritten features types written → (index : ℕ) → is_some (func_type_at types index) ≡ true
    → is_some (func_type_in written index) ≡ true
type_is_written features types written are index named = elim (get_either written index) [
  | inl at ↦
      let (type, e, less) = at in
      let (d, there) = get_some types index (omega (arith, less, are.count)) in
      let same : type_at types index ≡ d = ap (λ q. unwrap_or q no_type) there in
      let unrolls : unrolled d ≡ Some (sub_map (type_at types) type) = ap unrolled (sym same) ∙ are.unrolls index type e in
      let is : func_type_at types index ≡ defined.func_in (composite_map (type_at types) type.composite_type) =
      ap (option_and_then func_type_of) there ∙ ap (option_and_then (λ (sub : SubType DefType). defined.func_in sub.composite_type)) unrolls in
      ap (λ q. is_some (option_and_then (λ (sub : SubType ℕ). func_in sub.composite_type) q)) e ∙ by_kind (type_at types) type.composite_type (ap (λ q. is_some q) (sym is) ∙ named)
  | inr past ↦
      let e = past.1.1 in
      let none : slice_get types index ≡ None = slice_get_past types index (omega (arith, e, are.count)) in
      let never : false ≡ true = ap (λ q. is_some (option_and_then func_type_of q)) (sym none) ∙ named in
      absurd cc
]

pub function_has_type : (features : Features) (sections : List Section) (place index : ℕ) → KeepRules features at_first (entries_of sections) → slice_get (functions_of sections) place ≡ Some index
    → is_some (func_type_in (types_of sections) index) ≡ true
function_has_type features sections place index keep e =
    let own = ap (λ functions. slice_get functions place) (own_are_functions sections) ∙ e in
    type_is_written features (context_of sections).types (types_of sections) (as_written features sections keep) index (functions_named features (entries_of sections) place index keep own)
