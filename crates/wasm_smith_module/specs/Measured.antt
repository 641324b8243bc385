-- The values that the test of limits computes on its way.
use Rattle.std.specs.Prelude.{◌≡◌, ◌⊎◌, ℕ, ◌-◌, ◌^◌, ◌≤◌, ◌<◌, Bool, true, List, [], length, min, is_some}
use Rattle.std.specs.List.{AllByRecursion}
use Rattle.wasm_core_types.specs.Limits.{limit}
use Rattle.wasm_core_types.specs.declared.limits.Limit.{Limit}
use Rattle.wasm_spec.specs.Limits as spec
use Rattle.wasm_spec.specs.Limits.{BodySize, Name, most}
use Rattle.wasm_spec.specs.Types.{ExternalKind, FuncKind, TableKind, MemoryKind, GlobalKind, TagKind}
use Rattle.wasm_smith_sections.specs.ModuleEncoding.{HasLongFront, IsBodyEncoding, SomeByRecursion}
use Rattle.wasm_validity.specs.Rules.{Passes, is_past}
use Rattle.wasm_smith_module.specs.Measures.{numbers_of}
use Rattle.wasm_smith_validity.specs.Made.{Made, MadeBody}
use Rattle.wasm_smith_validity.specs.Spaces.{Spaces}

-- a sum that stays at the greatest number of 64 bits
abbrev pub saturated : ℕ → ℕ
saturated n = min n (2 ^ 64 - 1)

-- a limit of the code and a number, as those of the specification
abbrev pub measured : Limit × ℕ → spec.Limit × ℕ
measured m = (limit m.0, m.1)

-- spaces of imported items alone
pub record HasNoOwn (spaces : Spaces) : Type 0 where
  pub functions : spaces.own_functions ≡ []
  pub globals : spaces.own_globals ≡ []

-- how many items of a kind a module has of its own
abbrev pub own_of : Made → ExternalKind → ℕ
own_of m FuncKind = length m.funcs
own_of m TableKind = length m.tables
own_of m MemoryKind = length m.memories
own_of m GlobalKind = length m.globals
own_of m TagKind = length m.tags

-- a name is longer than it may be
abbrev pub is_long_name : List ℕ → Bool
is_long_name name = is_past Name (length name)

abbrev pub AreShort : List (List ℕ) → Type 0
AreShort bodies = AllByRecursion (λ body. length body ≤ most BodySize) bodies

-- A body with raw bytes is too long: its encoding has more bytes than a body may have, or its locals can't be stated, as those of a module within bounds can.
abbrev pub IsLongBody : MadeBody → Type 0
IsLongBody body = (is_some body.raw ≡ true) × (HasLongFront body.locals ⊎ ((encoding : List ℕ) × IsBodyEncoding body encoding × (most BodySize < length encoding)))

abbrev pub HasLongBody : Made → Type 0
HasLongBody m = SomeByRecursion IsLongBody m.bodies

-- a body with raw bytes has an encoding that is short enough
abbrev pub IsShortRaw : MadeBody → Type 0
IsShortRaw body = is_some body.raw ≡ true → (encoding : List ℕ) × IsBodyEncoding body encoding × (length encoding ≤ most BodySize)

-- a limit that a module passes: by its numbers, whatever its bodies are, or by a body with raw bytes
abbrev pub IsPassed : Made → Limit → Type 0
IsPassed m found = ((bodies : List (List ℕ)) → Passes (limit found) (numbers_of bodies m)) ⊎ ((limit found ≡ BodySize) × HasLongBody m)
