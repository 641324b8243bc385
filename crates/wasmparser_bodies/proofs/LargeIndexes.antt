-- A body can't write a type whose index is too large to be packed: no module has so many types.
use Rattle.std.proofs.Common.{◌≡◌, ◌≤◌, ℕ, zero, suc, Bool, true, false, List, [], ◌∷◌, length, None, refl, ap, ◌∙◌, arith}
use Rattle.std.proofs.lemmas.Option.{slice_get_past}
use Rattle.std.specs.List.{Any}
use Rattle.wasm_bodies.specs.BodyContext.{BodyContext, ModuleItems, provided, meant, written}
use Rattle.wasm_bodies.specs.Operands.{State}
use Rattle.wasm_bodies.specs.OperatorGates.{is_on}
use Rattle.wasm_bodies.specs.Operators.{Value, Operator, Block, Loop, If, SelectTyped}
use Rattle.wasm_bodies_laws.specs.Machine.{Frame, Machine, stepped_in, stepped}
use Rattle.wasm_spec.specs.Features.{Features}
use Rattle.wasm_spec.specs.Gates.{is_allowed}
use Rattle.wasm_spec.specs.TypeReferences.{val_refs}
use Rattle.wasm_spec.specs.Types.{Abstract, Concrete, ValType, I32, I64, F32, F64, V128, Ref}
use Rattle.wasmparser_types.specs.Index.{packable}
use Rattle.wasmparser_operators.specs.OperatorReading.{packed_indexes}

abbrev pub HasLarge : List ℕ → Type 0
HasLarge indexes = Any (λ index. packable ≤ index) indexes

none_there : HasLarge [] → ⊥
none_there (k, index, lt, is, le) = absurd (omega (arith, lt))

the_one : (index : ℕ) → HasLarge (index ∷ []) → packable ≤ index
the_one index (zero, other, lt, is, le) = omega (arith, is, le)
the_one index (suc k, other, lt, is, le) = absurd (omega (arith, lt))

nothing : {A : Type 0} (condition : Bool) → provided {A = A} condition None ≡ None
nothing true = refl
nothing false = refl

module _ {R : Type 0} (features : Features) (items : ModuleItems R) (few : length items.types ≤ packable) where
  large_meant : (nullable : Bool) (index : ℕ) → packable ≤ index → meant items (Ref nullable (Concrete index)) ≡ None
  large_meant nullable index le = rw (slice_get_past items.types index (omega (arith, few, le))) refl

  pub large_unwritten : (type : ValType ℕ) → HasLarge (val_refs type) → written features items type ≡ None
  large_unwritten I32 large = absurd (none_there large)
  large_unwritten I64 large = absurd (none_there large)
  large_unwritten F32 large = absurd (none_there large)
  large_unwritten F64 large = absurd (none_there large)
  large_unwritten V128 large = absurd (none_there large)
  large_unwritten (Ref nullable (Abstract heap)) large = absurd (none_there large)
  large_unwritten (Ref nullable (Concrete index)) large =
      let type : ValType ℕ = Ref nullable (Concrete index) in
      ap (provided (is_allowed features type)) (large_meant nullable index (the_one index large)) ∙ nothing (is_allowed features type)

-- the one type that is written
alone : (type : ValType ℕ) → HasLarge (packed_indexes (Block (Value type))) → HasLarge (val_refs type)
alone I32 large = large
alone I64 large = large
alone F32 large = large
alone F64 large = large
alone V128 large = large
alone (Ref nullable (Abstract heap)) large = large
alone (Ref nullable (Concrete index)) large = large

module _ {R : Type 0} (cx : BodyContext R) (few : length cx.items.types ≤ packable) where
  refused_in : (frames : List (Frame R)) (s : State R) (operator : Operator ℕ) → HasLarge (packed_indexes operator) → stepped_in cx frames s operator ≡ None
  refused_in [] s operator large = refl
  refused_in (f ∷ frames) s (Block (Value type)) large = rw (large_unwritten cx.features cx.items few type (alone type large)) refl
  refused_in (f ∷ frames) s (Loop (Value type)) large = rw (large_unwritten cx.features cx.items few type (alone type large)) refl
  refused_in (f ∷ frames) s (If (Value type)) large = rw (large_unwritten cx.features cx.items few type (alone type large)) refl
  refused_in (f ∷ frames) s (SelectTyped (type ∷ [])) large =
      rw (large_unwritten cx.features cx.items few type (alone type large), nothing {A = State R} (is_on cx.features (SelectTyped (type ∷ [])))) refl
  refused_in (f ∷ frames) s _ large = absurd (none_there large)

  pub large_refused : (m : Machine R) (operator : Operator ℕ) → HasLarge (packed_indexes operator) → stepped cx m operator ≡ None
  large_refused m operator large = refused_in m.frames m.now operator large
