-- Entries one after the other.
use Rattle.std.proofs.Common.{◌≡◌, inl, inr, ℕ, Bool, true, false, not, ◌&&◌, List, [], ◌∷◌, ◌++◌, refl}
use Rattle.wasm_spec.specs.Features.{Features}
use Rattle.wasm_spec.specs.Limits.{Limit}
use Rattle.wasm_validity.specs.Context.{Context, after, after_all}
use Rattle.wasm_validity.specs.Entries.{Entry}
use Rattle.wasm_validity.specs.Rules.{KeepLimits, KeepRules, PassLimit, Passes, are_within, is_past}

pub known : (cx : Context) (a b : List Entry) → after_all cx (a ++ b) ≡ after_all (after_all cx a) b
known cx [] b = refl
known cx (entry ∷ a) b = known (after cx entry) a b

pub rules_split : (features : Features) (cx : Context) (a b : List Entry) → KeepRules features cx (a ++ b) → KeepRules features cx a × KeepRules features (after_all cx a) b
rules_split features cx [] b h = (tt, h)
rules_split features cx (entry ∷ a) b h = let r = rules_split features (after cx entry) a b h.1 in ((h.0, r.0), r.1)

pub rules_join : (features : Features) (cx : Context) (a b : List Entry) → KeepRules features cx a × KeepRules features (after_all cx a) b → KeepRules features cx (a ++ b)
rules_join features cx [] b h = h.1
rules_join features cx (entry ∷ a) b h = (h.0.0, rules_join features (after cx entry) a b (h.0.1, h.1))

pub limits_split : (cx : Context) (a b : List Entry) → KeepLimits cx (a ++ b) → KeepLimits cx a × KeepLimits (after_all cx a) b
limits_split cx [] b h = (tt, h)
limits_split cx (entry ∷ a) b h = let r = limits_split (after cx entry) a b h.1 in ((h.0, r.0), r.1)

pub limits_join : (cx : Context) (a b : List Entry) → KeepLimits cx a × KeepLimits (after_all cx a) b → KeepLimits cx (a ++ b)
limits_join cx [] b h = h.1
limits_join cx (entry ∷ a) b h = (h.0.0, limits_join (after cx entry) a b (h.0.1, h.1))

-- ---- limits

both_true : (a b : Bool) → (a && b) ≡ true → (a ≡ true) × (b ≡ true)
both_true true b h = (refl, h)
both_true false b h = absurd cc

is_not : (b : Bool) → not b ≡ true → b ≡ true → ⊥
is_not true h k = absurd cc
is_not false h k = absurd cc

none_passes : (limit : Limit) (measured : List (Limit × ℕ)) → are_within measured ≡ true → Passes limit measured → ⊥
none_passes limit [] h p = p
none_passes limit (m ∷ ms) h (inl p) = is_not (is_past m.0 m.1) (both_true (not (is_past m.0 m.1)) (are_within ms) h).0 p.1
none_passes limit (m ∷ ms) h (inr p) = none_passes limit ms (both_true (not (is_past m.0 m.1)) (are_within ms) h).1 p

pub within : (limit : Limit) (cx : Context) (entries : List Entry) → KeepLimits cx entries → PassLimit limit cx entries → ⊥
within limit cx [] h p = p
within limit cx (entry ∷ entries) h (inl p) = none_passes limit _ h.0.numbers p
within limit cx (entry ∷ entries) h (inr (inl p)) = h.0.types limit p
within limit cx (entry ∷ entries) h (inr (inr p)) = within limit (after cx entry) entries h.1 p

pub passing : (limit : Limit) (cx : Context) (a b : List Entry) → PassLimit limit (after_all cx a) b → PassLimit limit cx (a ++ b)
passing limit cx [] b p = p
passing limit cx (entry ∷ a) b p = inr (inr (passing limit (after cx entry) a b p))

pub ruleset in_turn = (known, rules_split, rules_join, limits_split, limits_join, within, passing)
