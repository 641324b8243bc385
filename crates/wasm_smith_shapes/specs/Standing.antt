-- The parts of a module's index spaces that decide on further items; and the rules on items by their parts, as they are checked.
use Rattle.std.specs.Prelude.{◌≡◌, ℕ, Bool, true, not, ◌&&◌, ◌||◌, nat_eq, nat_le, length, map, Option, Some, None}
use Rattle.wasm_core_types.specs.SubTypes.{sub_type}
use Rattle.wasm_spec.specs.Features.{Features, has, FunctionReferences}
use Rattle.wasm_spec.specs.Types.{ExternalType, TableExternal, GlobalExternal}
use Rattle.wasm_smith_validity.specs.Rules.{keeps_item}
use Rattle.wasm_smith_validity.specs.Spaces.{Spaces, is_value}
use Rattle.wasm_smith_shapes.specs.declared.items.Items.{Items}

-- these are the types of index spaces, and whether they have a table and a memory
pub record Stand (items : Items) (spaces : Spaces) : Type 0 where
  pub types : map sub_type items.types.now ≡ spaces.types
  pub table : items.has_table ≡ not (nat_eq (length spaces.tables) 0)
  pub memory : items.has_memory ≡ not (nat_eq (length spaces.memories) 0)

-- the bounds are in order, and at most the greatest
abbrev pub are_ordered : ℕ → Option ℕ → ℕ → Bool
are_ordered minimum None greatest = nat_le minimum greatest
are_ordered minimum (Some maximum) greatest = nat_le minimum maximum && nat_le maximum greatest

-- the rule on an item, whether it is imported or not
abbrev pub keeps_type : Features → Spaces → ExternalType ℕ → Bool
keeps_type features spaces (GlobalExternal type) = is_value features spaces.types type.value_type
keeps_type features spaces type = keeps_item features spaces type

-- null, or a constant, is the first value of each element of a table
abbrev pub may_begin : Features → ExternalType ℕ → Bool
may_begin features (TableExternal type) = type.element_type.nullable || has features FunctionReferences
may_begin features type = true
