use Rattle.std.proofs.Common.{length, map, reverse}
use Rattle.wasmparser_constants.proofs.TakingLaws.{IsAsFar}
use Rattle.wasmparser_constants.specs.Operands.{meant_type}
use Rattle.wasmparser_constants.specs.Scopes.{field_values, known}
use Rattle.std.specs.List.{AllByRecursion}
use Rattle.wasmparser_constants.specs.Steps.{IsWanted}
use Rattle.wasmparser_constants.proofs.scope.Scope.take_fields.Given as goal

abbrev pub invariant-fields : goal.invariant-fields
invariant-fields l = record {
  far : IsAsFar (known l.self) (reverse (map (meant_type (known l.self)) (field_values l.fields))) l.fn.operands (reverse (map (meant_type (known l.self)) (field_values l.left))) l.operands;
  wanted : AllByRecursion (IsWanted (known l.self)) (field_values l.left);
}

abbrev pub decreases-fields : goal.decreases-fields
decreases-fields l = length l.left
