-- The bounds on imports that items leave.
use Rattle.std.proofs.Common.{ℕ, ◌≤◌, List, arith}
use Rattle.wasm_spec.specs.Types.{ExternalKind, SubType, FuncKind, TableKind, MemoryKind, GlobalKind, TagKind}
use Rattle.wasm_smith_config.specs.declared.config.Config.{Config}
use Rattle.wasm_smith_definitions.specs.OwnItems.{OwnValue}
use Rattle.wasm_smith_externs.specs.Bounds.{AreWithin, beside, most_in, most_of}

-- bounds beside items are within the configuration's
pub beside_within : (c : Config) (types : List (SubType ℕ)) (own : OwnValue) → AreWithin c (beside c types own)
beside_within c types own = record { items = items; size = omega arith }
  where
    items : (kind : ExternalKind) → most_in (beside c types own) kind ≤ most_of c kind
    items FuncKind = omega arith
    items TableKind = omega arith
    items MemoryKind = omega arith
    items GlobalKind = omega arith
    items TagKind = omega arith
