-- A value with one owner, until it is shared.
use Rattle.std.specs.Prelude.{Bool, true, false, if◌then◌else◌, Option, Some, None}
use Rattle.wasmparser_type_list.specs.declared.maybe_owned.Holder.{Holder}
use Rattle.wasmparser_type_list.specs.declared.maybe_owned.Holder.TheVariants.{Owned, Shared, Empty}

-- what is held, which is always something, and whether it is shared
pub record Held (T : Type 0) : Type 0 where
  pub value : Option T
  pub is_shared : Bool

abbrev pub held : {T : Type 0} → Holder T → Held T
held (Owned value) = record { value = Some value; is_shared = false }
held (Shared shared) = record { value = Some shared.value; is_shared = true }
held Empty = record { value = None; is_shared = false }

abbrev pub owned : {T : Type 0} → T → Held T
owned value = record { value = Some value; is_shared = false }

abbrev pub IsOwned : {T : Type 0} → Holder T → Type 0
IsOwned (Owned value) = Unit {0}
IsOwned (Shared shared) = ⊥
IsOwned Empty = ⊥

-- the value, if it is shared
abbrev pub shared_value : {T : Type 0} → Held T → Option T
shared_value it = if it.is_shared then it.value else None

abbrev pub shared_from_now : {T : Type 0} → Held T → Held T
shared_from_now it = record { value = it.value; is_shared = true }
