-- Tests of names, one after the other.
use Rattle.std.proofs.Common.{◌≡◌, ℕ, Bool, true, false, not, ◌&&◌, ◌||◌, List, [], ◌∷◌, map, refl, ap, ◌∙◌, inl, inr}
use Rattle.std.specs.List.{flat_map, list_any}
use Rattle.std.proofs.lemmas.Bool.{or_cases, or_parts}
use Rattle.std.proofs.lemmas.List.Folds.{list_any-append}
use Rattle.wasm_spec.specs.Limits.{Name}
use Rattle.wasm_validity.specs.Rules.{Passes, are_within, name_measures}
use Rattle.wasm_smith_module.specs.Measured.{is_long_name}

pub any_mapped : {A B : Type 0} (test : B → Bool) (view : A → B) (xs : List A) → list_any test (map view xs) ≡ list_any (λ x. test (view x)) xs
any_mapped test view [] = refl
any_mapped test view (x ∷ xs) = ap (λ any. test (view x) || any) (any_mapped test view xs)

pub any_joined : {A B : Type 0} (test : B → Bool) (parts : A → List B) (xs : List A) → list_any test (flat_map parts xs) ≡ list_any (λ x. list_any test (parts x)) xs
any_joined test parts [] = refl
any_joined test parts (x ∷ xs) =
    list_any-append test (parts x) (flat_map parts xs) ∙ ap (λ any. list_any test (parts x) || any) (any_joined test parts xs)

-- a long name passes its limit
pub long_passes : (names : List (List ℕ)) → list_any is_long_name names ≡ true → Passes Name (name_measures names)
long_passes [] long = absurd cc
long_passes (name ∷ names) long = elim (or_cases (is_long_name name) (list_any is_long_name names) long) [
  | inl here ↦ inl (refl, here)
  | inr later ↦ inr (long_passes names later)
]

-- others don't
pub short_within : (names : List (List ℕ)) → list_any is_long_name names ≡ false → are_within (name_measures names) ≡ true
short_within [] short = refl
short_within (name ∷ names) short =
    let parts = or_parts (is_long_name name) (list_any is_long_name names) short in
    ap (λ past. not past && are_within (name_measures names)) parts.0 ∙ short_within names parts.1
