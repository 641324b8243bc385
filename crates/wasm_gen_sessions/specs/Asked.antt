-- Lists of groups and functions that `generate` makes of their seeds, and what it makes of them.
use Rattle.std.specs.Prelude.{◌≡◌, ◌⊎◌, ◌≤◌, ◌%◌, ℕ, List, ◌∷◌, ◌++◌, length, map}
use Rattle.wasm_core.specs.Parts as core
use Rattle.wasm_spec.specs.Limits.{Types, Functions, most}
use Rattle.wasm_spec.specs.Types.{SubType}
use Rattle.wasm_smith.specs.Family.{IsAskable, IsInFamily, types_of}
use Rattle.wasm_smith.specs.ValidGroups.{entry}
use Rattle.wasm_smith.specs.Spelling.{Spells}
use Rattle.wasm_smith.specs.Parts.{Config}
use Rattle.wasm_smith_module.specs.Generating.{bare_module}
use Rattle.wasm_smith_validity.specs.Made.{Made}
use Rattle.wasm_gen_sessions.specs.Generate.{PassesLimit}
use Rattle.wasm_gen_sessions.specs.declared.error.GenerateError.{GenerateError}
use Rattle.wasm_gen_sessions.specs.declared.error.GenerateError.TheVariants.{Limit, Memory}
use Rattle.wasm_gen_sessions.specs.Written.{IsGenerated}

-- lists of the family that pass no limit
pub record IsReachable (c : Config) (groups : List (List (SubType ℕ))) (funcs : List ℕ) : Type 0 where
  pub family : IsInFamily c groups funcs
  pub few_types : length (types_of groups) ≤ most Types
  pub few_funcs : length funcs ≤ most Functions

-- The bytes are those of a module with these groups and functions.
pub record HasLists (c : Config) (groups : List (List (SubType ℕ))) (funcs : List ℕ) (bytes : List ℕ) : Type 0 where
  pub made : Made
  pub same_groups : made.groups ≡ map entry groups
  pub same_functions : made.funcs ≡ funcs
  pub generated : IsGenerated c made bytes

-- From each spelling of a list the module of just this list is generated, without locals; where an even byte and any others follow, it
-- is a module of this list.
pub record MakesLists (c : Config) (seed bytes : List ℕ) : Type 0 where
  pub exactly : (groups : List (List (SubType ℕ))) (funcs : List ℕ) → IsReachable c groups funcs → Spells c groups funcs seed
      → IsGenerated c (bare_module (map entry groups) funcs) bytes
  pub going_on : (groups : List (List (SubType ℕ))) (funcs front rest : List ℕ) (byte : ℕ) → IsReachable c groups funcs
      → Spells c groups funcs front → seed ≡ front ++ byte ∷ rest → byte % 2 ≡ 0 → HasLists c groups funcs bytes

-- memory ran out, or the limit is passed
abbrev pub IsMemoryOrLimit : Config → List ℕ → GenerateError → Type 0
IsMemoryOrLimit c seed e = (e ≡ Memory) ⊎ ((passed : core.Limit) × (e ≡ Limit passed) × PassesLimit c seed passed)

-- With a configuration with which lists can be asked for, only running out of memory, or a limit that is passed, keeps a module from being generated;
-- and where the seed spells a list that passes no limit, only running out of memory does.
pub record RefusesRightly (c : Config) (seed : List ℕ) (e : GenerateError) : Type 0 where
  pub total : IsAskable c → IsMemoryOrLimit c seed e
  pub spelled : (groups : List (List (SubType ℕ))) (funcs : List ℕ) → IsReachable c groups funcs → Spells c groups funcs seed → e ≡ Memory
