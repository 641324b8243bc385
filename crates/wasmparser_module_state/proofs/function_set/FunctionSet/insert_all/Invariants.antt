use Rattle.std.proofs.Common.{length}
use Rattle.wasmparser_entries.specs.ConstExprs.{expression_of}
use Rattle.wasmparser_module_state.proofs.DeclaredLaws.{IsDeclaring}
use Rattle.wasmparser_module_state.specs.State.{members, room}
use Rattle.wasmparser_module_state.proofs.function_set.FunctionSet.insert_all.Given as goal

abbrev pub invariant-operators : goal.invariant-operators
invariant-operators l = IsDeclaring (members l.fn.self) (room l.fn.self) (expression_of l.expression.rest) (members l.self) (room l.self) l.operators

abbrev pub decreases-operators : goal.decreases-operators
decreases-operators l = length l.operators
