use Rattle.std.proofs.Common.{◌≤◌, Option, Some, None, length, List, ℕ}
use Rattle.std.specs.Prelude.{MatchOption}
use Rattle.std.specs.declared.vec.Vec.{Vec}
use Rattle.wasm_spec.specs.Limits.{Types, Functions, most}
use Rattle.wasm_spec.specs.Types.{SubType}
use Rattle.wasm_smith.specs.Family.{IsInFamily, types_of}
use Rattle.wasm_smith.specs.Spelling.{Spells}
use Rattle.wasm_smith.specs.Parts.{Config}
use Rattle.wasm_gen_sessions.specs.Asked.{IsReachable}

asked_for : {A : Type 0} (config : Config) (groups : List (List (SubType ℕ))) (funcs : List ℕ) → length (types_of groups) ≤ most Types → length funcs ≤ most Functions
    → (answer : Option (Vec ℕ A)) → MatchOption answer (¬ (IsInFamily config groups funcs)) (λ seed. IsInFamily config groups funcs × Spells config groups funcs seed.items)
    → MatchOption answer (¬ (IsReachable config groups funcs)) (λ seed. IsReachable config groups funcs × Spells config groups funcs seed.items)
asked_for config groups funcs few_types few_funcs None h = λ asked. h asked.family
asked_for config groups funcs few_types few_funcs (Some seed) h = (record { family = h.0; few_types = few_types; few_funcs = few_funcs }, h.1)
