-- A property of all types from an index on, as far as a loop has come.
use Rattle.std.proofs.Common.{◌≡◌, ◌⊎◌, ℕ, zero, suc, ◌+◌, ◌≤◌, ◌<◌, List, [], ◌∷◌, length, map, get_or, Some, slice_get, inl, inr, refl, sym, ap, ◌∙◌, arith, subst}
use Rattle.std.proofs.lemmas.Option.{slice_get_within}
use Rattle.wasm_core_types.specs.SubTypes.{sub_type}
use Rattle.wasm_core_types.specs.declared.types.SubType as code
use Rattle.wasm_spec.specs.Types.{SubType}
use Rattle.wasm_smith_shapes.specs.Groups.{AllFrom}

-- the types between two indexes have it
pub record AllBetween (Holds : ℕ → SubType ℕ → Type 0) (types : List (SubType ℕ)) (start end : ℕ) : Type 0 where
  pub each : (index : ℕ) (type : SubType ℕ) → start ≤ index → index < end → slice_get types index ≡ Some type → Holds index type

some_is : {X : Type 0} (x y : X) → Some x ≡ Some y → x ≡ y
some_is x y e = cc

at_most : (i n : ℕ) → i ≤ n → (i < n) ⊎ (i ≡ n)
at_most zero zero le = inr refl
at_most zero (suc n) le = inl (omega arith)
at_most (suc i) zero le = absurd (omega (arith, le))
at_most (suc i) (suc n) le = elim (at_most i n (omega (arith, le))) [ inl lt ↦ inl (omega (arith, lt)) | inr e ↦ inr (ap suc e) ]

pub got : (types : List code.SubType) (i : ℕ) (type : code.SubType) → i < length types → type ≡ get_or types i type → slice_get (map sub_type types) i ≡ Some (sub_type type)
got [] i x lt e = absurd (omega (arith, lt))
got (y ∷ xs) zero x lt e = ap (λ z. Some (sub_type z)) (sym e)
got (y ∷ xs) (suc i) x lt e = got xs i x (omega (arith, lt)) e

module _ (Holds : ℕ → SubType ℕ → Type 0) (types : List (SubType ℕ)) where
  pub begins : (start : ℕ) → AllBetween Holds types start start
  begins start = record { each = λ index type from to is. absurd (omega (arith, from, to)) }

  pub goes_on : (start end : ℕ) (type : SubType ℕ) → AllBetween Holds types start end → slice_get types end ≡ Some type → Holds end type → AllBetween Holds types start (end + 1)
  goes_on start end type so_far is holds = record {
    each = λ index other from to at. elim (at_most index end (omega (arith, to))) [
      | inl before ↦ so_far.each index other from before at
      | inr same ↦
          let one : type ≡ other = some_is type other (sym is ∙ subst (λ i. slice_get types i ≡ Some other) same at) in
          subst (λ i. Holds i other) (sym same) (subst (Holds end) one holds)
    ];
  }

  pub all_done : (start end : ℕ) → length types ≤ end → AllBetween Holds types start end → AllFrom Holds types start
  all_done start end past so_far index type from is = so_far.each index type from (omega (arith, slice_get_within types index type is, past)) is
