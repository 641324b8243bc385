-- Operators by their first byte.
use Rattle.std.proofs.Common.{◌≡◌, ℕ, List, [], ◌∷◌, Some, None, refl, ap}
use Rattle.wasm_core_read.specs.Reading.{byte_at}
use Rattle.wasm_core_read.proofs.Forms.{some_is}
use Rattle.wasm_spec.specs.Features.{Features}
use Rattle.wasmparser_operators.specs.OperatorReading.{Kept, code_at, operator_from, kept_operator_at}

pub no_byte : (kept : Kept) (features : Features) (bytes : List ℕ) → byte_at bytes ≡ None → kept_operator_at kept features bytes ≡ None
unfolding byte_at code_at kept_operator_at
no_byte kept features [] e = refl
no_byte kept features (b ∷ bs) e = absurd cc

pub operator_after : (kept : Kept) (features : Features) (bytes : List ℕ) (b : ℕ) (rest : List ℕ) → byte_at bytes ≡ Some (b, rest) → kept_operator_at kept features bytes ≡ operator_from kept features b rest
unfolding byte_at code_at kept_operator_at
operator_after kept features [] b rest e = absurd cc
operator_after kept features (c ∷ cs) b rest e = ap (λ (p : ℕ × List ℕ). operator_from kept features p.0 p.1) (some_is (c, cs) (b, rest) e)

pub ruleset operator_codes = (no_byte, operator_after)
