-- Expressions that refer to a function, where a reference to any is wanted.
use Rattle.std.proofs.Common.{◌≡◌, ◌≢◌, ℕ, Bool, true, false, List, [], ◌∷◌, ◌++◌, Option, Some, None, slice_get, refl, ap, ◌∙◌}
use Rattle.std.specs.Option.{option_and_then}
use Rattle.std.specs.Prelude.{IfSome}
use Rattle.wasm_spec.specs.Constants.{ConstantExpression, ConstantOperator, RefFunc}
use Rattle.wasm_spec.specs.Features.{Features, ReferenceTypes, has}
use Rattle.wasm_spec.specs.Subtyping.{IsOfKind, same, step}
use Rattle.wasm_spec.specs.Trees.{DefType, unrolled}
use Rattle.wasm_spec.specs.TypeReferences.{val_map}
use Rattle.wasm_spec.specs.Types as spec
use Rattle.wasm_validity.specs.ConstantTyping.{IsConstantFor}
use Rattle.wasm_validity.specs.Context.{Context, functions_in}
use Rattle.wasm_validity.specs.DefinedTypes.{func_in, func_type_at, func_type_of}
use Rattle.wasmparser_constants.proofs.AloneLaws.{alone_holds, short_alone}
use Rattle.wasmparser_types.specs.Index.{Index, number_of}
use Rattle.wasmparser_types.specs.ValTypes.{reference_type}

-- what is a function type stands below the type of all functions
of_kind : (type : DefType) → func_type_of type ≢ None → IsOfKind unrolled type spec.Func
of_kind type is = by_sub (unrolled type) refl is
  where
    by_kind : (sub : spec.SubType DefType) (composite : spec.CompositeType DefType) → sub.composite_type ≡ composite → unrolled type ≡ Some sub → func_in composite ≢ None → IsOfKind unrolled type spec.Func
    by_kind sub (spec.FuncComposite func) of at is = record { type = sub; is = at; holds = rw of refl }
    by_kind sub (spec.StructComposite fields) of at is = absurd (is refl)
    by_kind sub (spec.ArrayComposite field) of at is = absurd (is refl)
    by_kind sub (spec.ContComposite function) of at is = absurd (is refl)

    by_sub : (found : Option (spec.SubType DefType)) → unrolled type ≡ found → option_and_then (λ sub. func_in sub.composite_type) found ≢ None → IsOfKind unrolled type spec.Func
    by_sub None at is = absurd (is refl)
    by_sub (Some sub) at is = by_kind sub sub.composite_type refl at is

module _ (features : Features) (cx : Context) (nullable : Bool) (function : ℕ) where
  abbrev any_function : spec.ValType ℕ
  any_function = spec.Ref nullable (spec.Abstract spec.Func)

  refers : (expression : ConstantExpression) → expression ≡ RefFunc function ∷ [] → has features ReferenceTypes ≡ true
      → option_and_then (func_type_at cx.types) (slice_get (functions_in cx) function) ≢ None → IsConstantFor features cx any_function expression
  refers expression parts may is = by_index (slice_get (functions_in cx) function) refl is
    where
      by_type : (index : ℕ) → slice_get (functions_in cx) function ≡ Some index → (found : Option DefType) → slice_get cx.types index ≡ found
          → option_and_then func_type_of found ≢ None → IsConstantFor features cx any_function expression
      by_type index at None there is = absurd (is refl)
      by_type index at (Some type) there is =
          alone_holds features cx (spec.Ref false (spec.Concrete type)) (spec.Ref nullable (spec.Abstract spec.Func)) expression
          (short_alone features cx (spec.Ref false (spec.Concrete type)) (RefFunc function) expression parts (rw (may, at, there) refl))
          (record { null = λ yes. absurd cc; heap = step (of_kind type is) same })

      by_index : (found : Option ℕ) → slice_get (functions_in cx) function ≡ found → option_and_then (func_type_at cx.types) found ≢ None → IsConstantFor features cx any_function expression
      by_index None at is = absurd (is refl)
      by_index (Some index) at is = by_type index at (slice_get cx.types index) refl is

-- the same of a type as it is kept
as_reference : (type : spec.ValType Index) (reference : spec.RefType Index) → Some reference ≡ reference_type type → type ≡ spec.Ref reference.nullable reference.heap_type
as_reference spec.I32 reference is = absurd cc
as_reference spec.I64 reference is = absurd cc
as_reference spec.F32 reference is = absurd cc
as_reference spec.F64 reference is = absurd cc
as_reference spec.V128 reference is = absurd cc
as_reference (spec.Ref nullable heap) reference is = let same : reference ≡ record { nullable = nullable; heap_type = heap } = cc in rw same refl

pub function_alone : (features : Features) (cx : Context) (types : List DefType) (imported own : List ℕ) (type : spec.ValType Index) (reference : spec.RefType Index) (expression : ConstantExpression) (operator : ConstantOperator) (result : Option ℕ)
    → cx.types ≡ types → cx.imported_functions ≡ imported → cx.own_functions ≡ own
    → Some reference ≡ reference_type type → reference.heap_type ≡ spec.Abstract spec.Func → has features ReferenceTypes ≡ true → expression ≡ operator ∷ []
    → IfSome result (λ function. operator ≡ RefFunc function) → IfSome result (λ function. option_and_then (func_type_at types) (slice_get (imported ++ own) function) ≢ None)
    → IfSome result (λ _. IsConstantFor features cx (val_map number_of type) expression)
function_alone features cx types imported own type reference expression operator None same_types same_imported same_own is heap may alone refers_to there = tt
function_alone features cx types imported own type reference expression operator (Some function) same_types same_imported same_own is heap may alone refers_to there =
    rw (as_reference type reference is, heap) (refers features cx reference.nullable function expression (alone ∙ ap (λ it. it ∷ []) refers_to) may (rw (same_types, same_imported, same_own) there))
