-- Whether bytes begin with a reference to a function.
use Rattle.std.proofs.Common.{◌≡◌, ℕ, List, [], ◌∷◌, ◌++◌, sym, ap, ◌∙◌}
use Rattle.wasm_core_read.specs.Input.{Input}
use Rattle.wasm_core_read.specs.Laws.{IsRead, IsRefused}
use Rattle.wasm_encoder_bodies.specs.Expressions.{BeginsWithFunction}
use Rattle.wasm_spec.specs.Bytes.{IsU32}

pub function_found : (rest : List ℕ) (old new : Input) (function : ℕ) → old.rest ≡ rest → IsRead IsU32 old new function → BeginsWithFunction (0xd2 ∷ rest) function
function_found rest old new function same read = (read.found.encoding, new.rest, ap (λ (l : List ℕ). 0xd2 ∷ l) (sym same ∙ read.found.parts), read.found.encodes)

pub no_function : (rest : List ℕ) (old : Input) (offset : ℕ) → old.rest ≡ rest → IsRefused IsU32 old offset → (function : ℕ) → ¬ (BeginsWithFunction (0xd2 ∷ rest) function)
no_function rest old offset same refused function (index, after, parts, is) =
    let tails : rest ≡ index ++ after = cc in
    refused.none function after (record { encoding = index; parts = same ∙ tails; encodes = is })

pub other_code : (code : ℕ) (rest : List ℕ) → ¬ (code ≡ 0xd2) → (function : ℕ) → ¬ (BeginsWithFunction (code ∷ rest) function)
other_code code rest other function (index, after, parts, is) = let heads : code ≡ 0xd2 = cc in other heads

pub nothing : (function : ℕ) → ¬ (BeginsWithFunction [] function)
nothing function (index, after, parts, is) = absurd cc

pub ruleset function_fronts = (function_found, no_function, other_code, nothing)
