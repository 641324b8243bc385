-- Properties of what is known of a valid module, or of the entries of one so far.
use Rattle.std.specs.Coded.{Coded, code_by, coded×, coded_ℕ}
use Rattle.std.specs.Prelude.{◌≡◌, ◌+◌, ◌≤◌, ℕ, false, List, length, refl}
use Rattle.std.specs.List.{AllByRecursion}
use Rattle.wasm_spec.specs.Limits.{ElementSegments, Exports, Functions, Globals, Memories, Tables, Tags, most}
use Rattle.wasm_spec.specs.Trees.{DefType}
use Rattle.wasm_validity.specs.Context.{Context, after_all, at_first}
use Rattle.wasm_validity.specs.Entries.{Entry}
use Rattle.wasm_validity.specs.IndexSpaces.{Spaces, spaces_in}
use Rattle.wasm_validity.specs.Rules.{KeepLimits, KeepRules}
use Rattle.wasm_validity_laws.specs.KnownImports.{IsThere}
use Rattle.wasm_validity_laws.specs.NamedTypes.{NamesTypes}
use Rattle.wasmparser_module_state.specs.History.{EnterAll, held}
use Rattle.wasmparser_module_state.specs.State.{context, features_of}
use Rattle.wasmparser_module_state.specs.declared.module_state.ModuleState.{ModuleState}

-- no index space but that of types, which has a bound of its own, has more items than its limit lets through
pub record AreFew (cx : Context) : Type 0 where
  pub functions : length cx.imported_functions + length cx.own_functions ≤ most Functions
  pub tables : length cx.tables ≤ most Tables
  pub memories : length cx.memories ≤ most Memories
  pub globals : length cx.imported_globals + length cx.own_globals ≤ most Globals
  pub tags : length cx.tags ≤ most Tags
  pub elements : length cx.elements ≤ most ElementSegments
  pub exports : length cx.exports ≤ most Exports

-- It is what is known after entries that keep all rules and limits, and its list holds what these enter after the types that it held before.
pub record IsReached (state : ModuleState) : Type 0 where
  pub before : List DefType
  pub entries : List Entry
  pub rules : KeepRules (features_of state) at_first entries
  pub limits : KeepLimits at_first entries
  pub known : context state ≡ after_all at_first entries
  pub entered : EnterAll (features_of state) at_first before entries (held state)

-- what contracts see of `Types`: who made it, and what is known of the module
pub record KnownModule : Type 0 where
  pub id : ℕ
  pub state : ModuleState

abbrev pub known_module_code : Coded ModuleState → Coded KnownModule
known_module_code state_code = code_by (ℕ × ModuleState) (coded× coded_ℕ state_code) (λ m. (m.id, m.state)) (λ p. record { id = p.0; state = p.1 }) (λ _. refl)

-- It is what was known, except that its list doesn't grow.
pub record IsEndOf (known shown : KnownModule) : Type 0 where
  pub same_id : shown.id ≡ known.id
  pub spaces : context shown.state ≡ context known.state
  pub types : shown.state.types ≡ record known.state.types { grows = false }

-- the index spaces that are known
abbrev pub state_spaces : ModuleState → Spaces
state_spaces state = spaces_in (context state)

abbrev pub spaces_known : KnownModule → Spaces
spaces_known known = state_spaces known.state

-- they can be shown: their sizes have 32 bits, what stands in them names types, and imports are there
pub record CanBeShown (state : ModuleState) : Type 0 where
  pub few : AreFew (context state)
  pub named : NamesTypes (spaces_in (context state))
  pub imports : AllByRecursion (IsThere (context state)) (context state).imported
