use Rattle.std.proofs.Common.{◌≡◌, ℕ, Bool, true, false, not, ◌&&◌, List, [], ◌∷◌, refl, inl, inr, ap, ◌∙◌}
use Rattle.wasm_spec.specs.Limits.{Limit}
use Rattle.wasm_validity.specs.Context.{Context, after}
use Rattle.wasm_validity.specs.Entries.{Entry}
use Rattle.wasm_validity.specs.Rules.{KeepLimits, PassLimit, Passes, are_within, is_past, measures}
use Rattle.wasm_validity_examples.proofs.rule_examples.limits_that_are_passed.Goals as goal

not_both : (past rest : Bool) → (not past && rest) ≡ true → (past ≡ true) → ⊥
not_both true rest e p = absurd cc
not_both false rest e p = absurd cc

second : (past rest : Bool) → (not past && rest) ≡ true → rest ≡ true
second true rest e = absurd cc
second false rest e = e

none_passes : (limit : Limit) (ms : List (Limit × ℕ)) → are_within ms ≡ true → Passes limit ms → ⊥
none_passes limit [] e p = absurd p
none_passes limit (m ∷ ms) e (inl at) = not_both (is_past m.0 m.1) _ e at.1
none_passes limit (m ∷ ms) e (inr q) = none_passes limit ms (second (is_past m.0 m.1) _ e) q

all_within : (ms : List (Limit × ℕ)) → ((limit : Limit) → Passes limit ms → ⊥) → are_within ms ≡ true
all_within [] h = refl
all_within (m ∷ ms) h = by_first (is_past m.0 m.1) refl (all_within ms (λ limit p. h limit (inr p)))
  where
    by_first : (b : Bool) → is_past m.0 m.1 ≡ b → are_within ms ≡ true → are_within (m ∷ ms) ≡ true
    by_first true e rest = absurd (h m.0 (inl (refl, e)))
    by_first false e rest = ap (λ b. not b && are_within ms) e ∙ rest

none : (cx : Context) (entries : List Entry) → KeepLimits cx entries → (limit : Limit) → PassLimit limit cx entries → ⊥
none cx [] k limit p = absurd p
none cx (entry ∷ entries) k limit (inl p) = none_passes limit (measures cx entry) k.0.numbers p
none cx (entry ∷ entries) k limit (inr (inl p)) = k.0.types limit p
none cx (entry ∷ entries) k limit (inr (inr p)) = none (after cx entry) entries k.1 limit p

kept : (cx : Context) (entries : List Entry) → ((limit : Limit) → PassLimit limit cx entries → ⊥) → KeepLimits cx entries
kept cx [] h = tt
kept cx (entry ∷ entries) h =
    (record { numbers = all_within (measures cx entry) (λ limit p. h limit (inl p)); types = λ limit p. h limit (inr (inl p)) }, kept (after cx entry) entries (λ limit p. h limit (inr (inr p))))

pub returns : goal.returns
returns c = record { none = none; kept = kept }
