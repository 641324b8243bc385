use Rattle.std.proofs.Common.{length}
use Rattle.wasmparser_entries.specs.ConstExprs.{expression_of}
use Rattle.wasmparser_constants.proofs.StepLaws.{IsAsGood}
use Rattle.wasmparser_constants.specs.Operands.{meant_type}
use Rattle.wasmparser_constants.specs.Scopes.{context, features_of, known}
use Rattle.wasmparser_types.specs.ValTypes.{val_type}
use Rattle.wasmparser_constants.proofs.scope.Scope.check_operators.Given as goal

abbrev pub invariant-operators : goal.invariant-operators
invariant-operators l =
    IsAsGood (features_of l.self) (context l.self) (known l.self) (meant_type (known l.self) (val_type l.wanted)) (expression_of l.expression.rest) l.operators l.operands

abbrev pub decreases-operators : goal.decreases-operators
decreases-operators l = length l.operators
