-- The contents of a module's list of types as entries are validated one after the other.
use Rattle.std.specs.Prelude.{◌≡◌, ◌⊎◌, ℕ, Bool, List, [], ◌∷◌, Option, Some, None, IsSomeAnd}
use Rattle.wasm_spec.specs.Features.{Features}
use Rattle.wasm_spec.specs.Trees.{DefType, types_of_group}
use Rattle.wasm_spec.specs.Types.{RecGroup}
use Rattle.wasm_validity.specs.Context.{Context, after}
use Rattle.wasm_validity.specs.Entries.{Entry, OfType}
use Rattle.wasm_validity.specs.Rules.{IsWithin, Keeps}
use Rattle.wasmparser_module_state.specs.declared.module_state.ModuleState.{ModuleState}
use Rattle.wasmparser_module_types.specs.History.{Enters, HasNoRoom}

abbrev pub held : ModuleState → List DefType
held s = s.types.interned

-- groups can be added
abbrev pub grows : ModuleState → Bool
grows s = s.types.grows

-- the recursive group that an entry is, if it is one
abbrev pub group_in : Entry → Option (RecGroup ℕ)
group_in (OfType group) = Some group
group_in entry = None

-- a group is entered, after these types of its module, where there is one
abbrev pub EntersGroup : Features → List DefType → List DefType → Option (RecGroup ℕ) → List DefType → Type 0
EntersGroup features before old (Some group) new = Enters features old (types_of_group before group) new
EntersGroup features before old None new = new ≡ old

-- a recursive group is entered, and other entries enter nothing
abbrev pub EntersEntry : Features → Context → List DefType → Entry → List DefType → Type 0
EntersEntry features cx old entry new = EntersGroup features cx.types old (group_in entry) new

-- the list has no room for an entry: only recursive groups take room
abbrev pub FindsNoRoom : Context → List DefType → Entry → Type 0
FindsNoRoom cx held entry = IsSomeAnd (group_in entry) (λ group. HasNoRoom held cx.types group)

-- what is held after entries, one after the other
abbrev pub EnterAll : Features → Context → List DefType → List Entry → List DefType → Type 0
EnterAll features cx old [] new = new ≡ old
EnterAll features cx old (entry ∷ entries) new = (mid : List DefType) × EntersEntry features cx old entry mid × EnterAll features (after cx entry) mid entries new

-- the list has no room for one of these entries, once those before it are entered, which keep all rules and limits
abbrev pub OneFindsNoRoom : Features → Context → List DefType → List Entry → Type 0
OneFindsNoRoom features cx held [] = ⊥
OneFindsNoRoom features cx held (entry ∷ entries) =
    FindsNoRoom cx held entry
    ⊎ (Keeps features cx entry × IsWithin cx entry × (mid : List DefType) × EntersEntry features cx held entry mid × OneFindsNoRoom features (after cx entry) mid entries)
