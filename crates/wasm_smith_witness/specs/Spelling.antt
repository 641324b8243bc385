-- How a list of groups and functions is spelled: the groups as the step of types draws them; that there are no imports and no tags, where this is asked; and
-- then each function as a choice among the function types.
use Rattle.std.specs.Prelude.{◌≡◌, ℕ, ◌≤◌, Bool, true, false, List, [], ◌∷◌, ◌++◌, length}
use Rattle.wasm_spec.specs.Types.{FuncType, CompositeType, FuncComposite, StructComposite, ArrayComposite, ContComposite, SubType}
use Rattle.wasm_smith_config.specs.declared.config.Config.{Config}
use Rattle.wasm_smith_types.specs.Drawing.{Offers, no_groups}
use Rattle.wasm_smith_types.specs.Offering.{offers}
use Rattle.wasm_smith_types.specs.Spelling.{SpellsChoice, SpellsEach, SpellsGroups, SpellsList, SpellsNo, SpellsValue}
use Rattle.wasm_smith_definitions.specs.FunctionTypes.{function_indexes}
use Rattle.wasm_smith_witness.specs.Asking.{asks_for_import, asks_for_tag}
use Rattle.wasm_smith_witness.specs.Family.{types_of}

-- a group of one final function type, of which nothing is drawn but its parameters and then its results
abbrev pub SpellsFunction : Offers → FuncType ℕ → List ℕ → Type 0
SpellsFunction o type s = (a b : List ℕ) × (s ≡ a ++ b) × SpellsList (SpellsValue o 0) 20 type.params a × SpellsList (SpellsValue o 0) o.most_results type.results b

abbrev pub SpellsLoneComposite : Offers → CompositeType ℕ → List ℕ → Type 0
SpellsLoneComposite o (FuncComposite type) s = SpellsFunction o type s
SpellsLoneComposite o (StructComposite fields) s = ⊥
SpellsLoneComposite o (ArrayComposite field) s = ⊥
SpellsLoneComposite o (ContComposite function) s = ⊥

abbrev pub SpellsLoneFunction : Offers → List (SubType ℕ) → List ℕ → Type 0
SpellsLoneFunction o (type ∷ []) s = (type.is_final ≡ true) × (type.supertypes ≡ []) × SpellsLoneComposite o type.composite_type s
SpellsLoneFunction o _ s = ⊥

-- groups, at most so many types in all, with garbage collection or without
abbrev pub SpellsTypes : Bool → Offers → ℕ → List (List (SubType ℕ)) → List ℕ → Type 0
SpellsTypes true o max groups s = SpellsGroups o max no_groups groups s
SpellsTypes false o max groups s = SpellsList (SpellsLoneFunction o) max groups s

-- At most so many functions, each of one of these types; nothing follows the last one, and where there is no type nothing is drawn.
abbrev pub SpellsFunctions : List ℕ → ℕ → List ℕ → List ℕ → Type 0
SpellsFunctions [] max funcs s = (funcs ≡ []) × (s ≡ [])
SpellsFunctions (first ∷ others) max funcs s = SpellsEach (SpellsChoice (first ∷ others)) funcs s × (length funcs ≤ max)

-- the groups, false for imports and for tags, and then the functions
pub record Spells (c : Config) (groups : List (List (SubType ℕ))) (funcs s : List ℕ) : Type 0 where
  pub front : List ℕ
  pub imports : List ℕ
  pub tags : List ℕ
  pub back : List ℕ
  pub parts : s ≡ front ++ (imports ++ (tags ++ back))
  pub spells_groups : SpellsTypes c.gc_enabled (offers c) c.max_types groups front
  pub spells_imports : SpellsNo (asks_for_import c (types_of groups)) imports
  pub spells_tags : SpellsNo (asks_for_tag c (types_of groups)) tags
  pub spells_funcs : SpellsFunctions (function_indexes 0 (types_of groups)) c.max_funcs funcs back
