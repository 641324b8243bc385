-- The configuration that a table gives, and the first of its keys that is bad: unknown, or with a wrong value.
use Rattle.std.specs.Prelude.{◌≡◌, ℕ, ℤ, pos, negsuc, Bool, false, not, ◌||◌, if◌then◌else◌, List, Option, Some, None, is_some, is_none, unwrap_or, nat_le}
use Rattle.std.specs.List.{AllByRecursion}
use Rattle.std.specs.Option.{option_and_then}
use Rattle.toml.specs.Data.{Data, Members, no_members, member, get_member, as_bool, as_integer, as_str}
use Rattle.wasm_smith_config.specs.Defaults.{IsDefault}
use Rattle.wasm_smith_config.specs.Instructions.{kinds_named}
use Rattle.wasm_smith_config.specs.Offsets.{choices_at}
use Rattle.wasm_smith_config.specs.declared.config.Config.{Config}
use Rattle.wasm_smith_config.specs.declared.instruction_kinds.InstructionKinds.{InstructionKinds}
use Rattle.wasm_smith_config.specs.declared.memory_offset_choices.MemoryOffsetChoices.{MemoryOffsetChoices}
use Rattle.wasm_gen_config.specs.Fields.{Field, switches, counts, sizes, wide_sizes, kinds, weights, largest, takes}
use Rattle.wasm_gen_config.specs.declared.bad_key.Takes.{Takes}
use Rattle.wasm_gen_config.specs.declared.bad_key.Takes.TheVariants.{Boolean, NumberTo, Kinds, Weights}

-- a whole number that isn't negative
abbrev pub natural : ℤ → Option ℕ
natural (pos n) = Some n
natural (negsuc n) = None

-- a number that is at most so large
abbrev pub at_most : ℕ → ℕ → Option ℕ
at_most most n = if nat_le n most then Some n else None

-- the number that a value is, from 0 to the largest
abbrev pub number_to : ℕ → Data → Option ℕ
number_to most d = option_and_then (at_most most) (option_and_then natural (as_integer d))

-- the kinds of instructions that a value names
abbrev pub kinds_in : Data → Option InstructionKinds
kinds_in d = option_and_then kinds_named (as_str d)

-- the weights that a value writes
abbrev pub weights_in : Data → Option MemoryOffsetChoices
weights_in d = option_and_then choices_at (as_str d)

-- takes the value that the key holds, and the default where there is no such key (or its value is none that can be read, which is a bad key)
unfoldable pub given : {V : Type 0} → (Data → Option V) → Members → List ℕ → V → V
given read t key default = unwrap_or (option_and_then read (get_member key t)) default

-- each of these fields has the value that its key holds in the table, and where the table has no such key, its value in the default
abbrev pub AreGiven : {V : Type 0} → (Data → Option V) → List (Field V) → Members → Config → Config → Type 0
AreGiven read fields t default c = AllByRecursion (λ f. f.value c ≡ given read t f.name (f.value default)) fields

-- a configuration that a table gives over the default one; the shapes can't be given
pub record IsGiven (t : Members) (c : Config) : Type 0 where
  pub default : Config
  pub is_default : IsDefault default
  pub switches_given : AreGiven as_bool switches t default c
  pub counts_given : AreGiven (number_to (largest 32)) counts t default c
  pub sizes_given : AreGiven (number_to (largest 64)) sizes t default c
  pub wide_sizes_given : AreGiven (number_to (largest 128)) wide_sizes t default c
  pub kinds_given : AreGiven kinds_in kinds t default c
  pub weights_given : AreGiven weights_in weights t default c
  pub no_module_shape : c.module_shape ≡ None
  pub no_available_imports : c.available_imports ≡ None
  pub no_exports : c.exports ≡ None

-- true if a value is one that is taken
abbrev pub is_taken : Takes → Data → Bool
is_taken Boolean d = is_some (as_bool d)
is_taken (NumberTo most) d = is_some (number_to most d)
is_taken Kinds d = is_some (kinds_in d)
is_taken Weights d = is_some (weights_in d)

-- true if a field is there, and takes something else than the value
abbrev pub takes_other : Option Takes → Data → Bool
takes_other None d = false
takes_other (Some what) d = not (is_taken what d)

-- true if no field has this name
abbrev pub is_unknown : List ℕ → Bool
is_unknown key = is_none (takes key)

-- true if the field of this name takes something else than the value
abbrev pub is_wrong : List ℕ → Data → Bool
is_wrong key d = takes_other (takes key) d

-- the first key of a table, in its order, that is unknown or has a wrong value, beside what its field takes
unfoldable pub first_bad : Members → Option (List ℕ × Option Takes)
first_bad no_members = None
first_bad (member key d rest) = if is_unknown key || is_wrong key d then Some (key, takes key) else first_bad rest
