-- Combines consecutive reads.
use Rattle.std.proofs.Common.{ℕ, ◌+◌, ◌<◌, ◌≤◌, Option, Some, None, inl, inr, refl, arith}
use Rattle.wasm_gen_program.specs.Device.{ReadCounts, Tells, EndsRead, FailsOrTires, FailsRead, ReadsOn, ReadsToEnd, ReadsWithin}

-- a step, and then another
pub joined : {T : Type 0} (first second both : T → T → Type 0) → ((x y z : T) → first x y → second y z → both x z) → (a b c : Option T)
    → Tells first a b → Tells second b c → Tells both a c
joined first second both step a b None p q = tt
joined first second both step a None (Some z) p q = absurd q
joined first second both step None (Some y) (Some z) p q = absurd p
joined first second both step (Some x) (Some y) (Some z) p q = step x y z p q

pub one_more : (a b c : Option ReadCounts) (n : ℕ) → ReadsOn a b n → ReadsOn b c 1 → ReadsOn a c (n + 1)
one_more a b c n = joined _ _ _ (λ x y z p q. (omega arith, omega arith, omega arith)) a b c

pub last_ends : (a b c : Option ReadCounts) (n turns : ℕ) → n < turns → ReadsOn a b n → EndsRead b c → ReadsToEnd a c turns
last_ends a b c n turns h = joined _ _ _ (λ x y z p q. (omega arith, omega arith, omega arith)) a b c

pub last_fails : (a b c : Option ReadCounts) (n turns : ℕ) → n < turns → ReadsOn a b n → FailsRead b c → FailsOrTires a c turns
last_fails a b c n turns h = joined _ _ _ (λ x y z p q. (inl (omega arith, omega arith), omega arith)) a b c

pub still_within : (a b c : Option ReadCounts) (n turns : ℕ) → n < turns → ReadsOn a b n → ReadsOn b c 1 → ReadsWithin a c turns
still_within a b c n turns h = joined _ _ _ (λ x y z p q. (omega arith, omega arith, omega arith)) a b c

pub tired : (a b : Option ReadCounts) (n turns : ℕ) → turns ≤ n → n ≤ turns → ReadsOn a b n → FailsOrTires a b turns
tired a None n turns all few p = tt
tired None (Some y) n turns all few p = absurd p
tired (Some x) (Some y) n turns all few p = (inr (omega arith, omega arith), omega arith)

pub none_read : (a : Option ReadCounts) (turns : ℕ) → ReadsWithin a a turns
none_read None turns = tt
none_read (Some x) turns = (omega arith, refl, refl)
