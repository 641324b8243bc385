use Rattle.std.proofs.Common.{◌-◌, replicate}
use Rattle.wasmparser_constants.proofs.TakingLaws.{IsAsFar}
use Rattle.wasmparser_constants.specs.Operands.{meant_type}
use Rattle.wasmparser_constants.specs.Scopes.{known}
use Rattle.wasmparser_types.specs.ValTypes.{val_type}
use Rattle.wasmparser_constants.proofs.scope.Scope.take_items.Given as goal

abbrev pub invariant-loop : goal.invariant-loop
invariant-loop l =
    IsAsFar (known l.self) (replicate l.count (meant_type (known l.self) (val_type l.item))) l.fn.operands (replicate (l.count - l.counter) (meant_type (known l.self) (val_type l.item))) l.operands
