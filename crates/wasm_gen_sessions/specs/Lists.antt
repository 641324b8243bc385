-- Lists of groups and functions whose modules are validated in one session.
use Rattle.std.specs.Prelude.{◌≡◌, ◌⊎◌, ⊤, ℕ, List, [], ◌∷◌, map, Result, Ok, Err}
use Rattle.wasm_spec.specs.Features.{Features}
use Rattle.wasm_spec.specs.Trees.{section_types}
use Rattle.wasm_spec.specs.Types.{SubType}
use Rattle.wasm_validity.specs.IndexSpaces.{Spaces}
use Rattle.wasmparser_error.specs.declared.error.Error.{Error}
use Rattle.wasmparser_error.specs.declared.error.ErrorKind.TheVariants.{Memory, Total}
use Rattle.wasmparser_validator.specs.KnownSpaces.{KnownModule, spaces_known}
use Rattle.wasm_smith.specs.Config.{AreFeaturesOf}
use Rattle.wasm_smith.specs.ValidGroups.{entry}
use Rattle.wasm_smith.specs.Parts.{Config}
use Rattle.wasm_smith_module.specs.Generating.{bare_module}
use Rattle.wasm_gen_sessions.specs.History.{History}
use Rattle.wasm_gen_sessions.specs.Session.{Checks}
use Rattle.wasm_gen_sessions.specs.Written.{IsGenerated}

-- a list, and the bytes that are generated for it
pub record MadeList : Type 0 where
  pub groups : List (List (SubType ℕ))
  pub funcs : List ℕ
  pub bytes : List ℕ

-- The bytes are those of the module with just this list, made from a configuration with these features.
pub record IsMadeUnder (features : Features) (made : MadeList) : Type 0 where
  pub config : Config
  pub features_are : AreFeaturesOf config features
  pub generated : IsGenerated config (bare_module (map entry made.groups) made.funcs) made.bytes

-- the index spaces of a module with just this list
abbrev pub spaces_of_list : MadeList → Spaces
spaces_of_list made = record {
  types = section_types (map entry made.groups);
  functions = made.funcs;
  tables = [];
  memories = [];
  globals = [];
  tags = [];
  elements = [];
  imported = [];
  exports = [];
}

-- The session answers so to these bytes, one after the other.
abbrev pub ChecksAll : History → List (List ℕ) → List (Result KnownModule Error) → Type 0
ChecksAll session [] [] = ⊤
ChecksAll session (bytes ∷ others) (verdict ∷ verdicts) = (next : History) × Checks session bytes verdict next × ChecksAll next others verdicts
ChecksAll session _ _ = ⊥

-- Each list is accepted and shown as it is, until memory runs out, or the list of types is full.
abbrev pub AreShown : List MadeList → List (Result KnownModule Error) → Type 0
AreShown [] verdicts = verdicts ≡ []
AreShown (made ∷ others) [] = ⊥
AreShown (made ∷ others) (Ok known ∷ verdicts) = (spaces_known known ≡ spaces_of_list made) × AreShown others verdicts
AreShown (made ∷ others) (Err e ∷ verdicts) = (e.kind ≡ Memory) ⊎ (e.kind ≡ Total)
