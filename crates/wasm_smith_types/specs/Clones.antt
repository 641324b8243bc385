-- Clones of groups.
use Rattle.std.specs.Prelude.{ℕ, ◌+◌, ◌-◌, nat_lt, if◌then◌else◌}
use Rattle.wasm_spec.specs.TypeReferences.{group_map}
use Rattle.wasm_spec.specs.Types.{RecGroup}

-- a reference to a type, moved up by so many where it is start or more
abbrev pub shifted : ℕ → ℕ → ℕ → ℕ
shifted start by r = if nat_lt r start then r else r + by

-- the group whose types begin at start, put after so many types in all: references into the group are moved with it
abbrev pub clone_of : ℕ → ℕ → RecGroup ℕ → RecGroup ℕ
clone_of start end group = group_map (shifted start (end - start)) group
