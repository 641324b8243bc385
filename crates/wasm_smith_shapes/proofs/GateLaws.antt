-- A group as it is written is allowed where its types are, and, unless it has one type, where garbage collection is on.
use Rattle.std.proofs.Common.{◌≡◌, ℕ, Bool, true, false, List, [], ◌∷◌, length, refl, sym, ap, ◌∙◌, arith}
use Rattle.std.specs.Prelude.{◌&&◌}
use Rattle.std.specs.List.{list_all}
use Rattle.wasm_spec.specs.Features.{Features, Gc, has}
use Rattle.wasm_spec.specs.Gates.{is_allowed_group, is_allowed_sub}
use Rattle.wasm_spec.specs.Types.{SubType}
use Rattle.wasm_smith_validity.specs.ValidGroups.{entry}

and_true : (b : Bool) → (b && true) ≡ b
and_true true = refl
and_true false = refl

pub alone : (features : Features) (types : List (SubType ℕ)) → length types ≡ 1 → is_allowed_group features (entry types) ≡ list_all (is_allowed_sub features) types
alone features [] one = absurd (omega (arith, one))
alone features (t ∷ []) one = sym (and_true (is_allowed_sub features t))
alone features (t ∷ u ∷ types) one = absurd (omega (arith, one))

pub several : (features : Features) (types : List (SubType ℕ)) → (length types ≡ 1 → ⊥)
    → is_allowed_group features (entry types) ≡ (has features Gc && list_all (is_allowed_sub features) types)
several features [] many = refl
several features (t ∷ []) many = absurd (many refl)
several features (t ∷ u ∷ types) many = refl

pub with_collection : (features : Features) (types : List (SubType ℕ)) → (length types ≡ 1 → ⊥) → has features Gc ≡ true
    → is_allowed_group features (entry types) ≡ list_all (is_allowed_sub features) types
with_collection features types many on = several features types many ∙ ap (λ b. b && list_all (is_allowed_sub features) types) on

pub without_collection : (features : Features) (types : List (SubType ℕ)) → (length types ≡ 1 → ⊥) → has features Gc ≡ false → is_allowed_group features (entry types) ≡ false
without_collection features types many off = several features types many ∙ ap (λ b. b && list_all (is_allowed_sub features) types) off
