-- Combines consecutive writes.
use Rattle.std.proofs.Common.{ℕ, ◌+◌, Option, Some, None, refl, ◌∙◌, ap}
use Rattle.wasm_gen_program.specs.Device.{WritesOn, FailsWrite}

pub writes_go_on : (a b c : Option ℕ) → WritesOn a b → WritesOn b c → WritesOn a c
writes_go_on a b None p q = tt
writes_go_on a None (Some z) p q = absurd q
writes_go_on None (Some y) (Some z) p q = absurd p
writes_go_on (Some x) (Some y) (Some z) p q = q ∙ p

pub last_write_fails : (a b c : Option ℕ) → WritesOn a b → FailsWrite b c → FailsWrite a c
last_write_fails a b None p q = tt
last_write_fails a None (Some z) p q = absurd q
last_write_fails None (Some y) (Some z) p q = absurd p
last_write_fails (Some x) (Some y) (Some z) p q = q ∙ ap (λ n. n + 1) p

pub none_written : (a : Option ℕ) → WritesOn a a
none_written None = tt
none_written (Some x) = refl
