-- Memories one after the other: which rules they keep, and which limits they pass.
use Rattle.std.proofs.Common.{◌≡◌, ◌≤◌, ◌+◌, ℕ, zero, suc, Bool, true, false, not, List, [], ◌∷◌, ◌++◌, length, map, nat_eq, nat_lt, replicate, ◌&&◌, ◌||◌, refl, ap, ◌∙◌, arith, length-append}
use Rattle.wasm_spec.specs.Features.{Features, MultiMemory, has}
use Rattle.wasm_spec_examples.specs.Examples.{at_least}
use Rattle.wasm_validity.specs.Context.{Context, after}
use Rattle.wasm_validity.specs.Entries.{Entry, OfMemory}
use Rattle.wasm_validity.specs.Rules.{KeepLimits, KeepRules}

abbrev pub memories : ℕ → List Entry
memories n = map (λ x. OfMemory x) (replicate n (at_least 0))

or_true : (b : Bool) → (b || true) ≡ true
or_true true = refl
or_true false = refl

-- with several memories each keeps its rule
pub keep_rules : (features : Features) (cx : Context) (n : ℕ) → has features MultiMemory ≡ true → KeepRules features cx (memories n ++ [])
keep_rules features cx zero several = tt
keep_rules features cx (suc n) several =
    (ap (λ b. nat_eq (length cx.memories) 0 || b) several ∙ or_true (nat_eq (length cx.memories) 0), keep_rules features (after cx (OfMemory (at_least 0))) n several)

within : (n : ℕ) → suc n ≤ 100 → (not (nat_lt 100 (suc n)) && true) ≡ true
within n few = search (few, arith)

-- up to 100 of them
pub keep_limits : (cx : Context) (n : ℕ) → length cx.memories + n ≤ 100 → KeepLimits cx (memories n ++ [])
keep_limits cx zero few = tt
keep_limits cx (suc n) few = (
  record { numbers = within (length cx.memories) (omega (arith, few)); types = λ limit p. p },
  keep_limits (after cx (OfMemory (at_least 0))) n (omega (arith, few, length-append cx.memories (at_least 0 ∷ []))),
)

not_within : (n : ℕ) → n ≡ 100 → (not (nat_lt 100 (suc n)) && true) ≡ true → ⊥
not_within n full e = search (full, arith, e)

-- one too many
pub pass_limits : (cx : Context) (n : ℕ) → length cx.memories + suc n ≡ 101 → KeepLimits cx (memories (suc n) ++ []) → ⊥
pass_limits cx zero full k = not_within (length cx.memories) (omega (arith, full)) k.0.numbers
pass_limits cx (suc n) full k =
    pass_limits (after cx (OfMemory (at_least 0))) n (omega (arith, full, length-append cx.memories (at_least 0 ∷ []))) k.1
