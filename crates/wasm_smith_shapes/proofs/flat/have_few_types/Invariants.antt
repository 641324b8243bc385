use Rattle.wasm_spec.specs.Syntax.{members}
use Rattle.wasm_smith_shapes.specs.Shapes.{group_of}
use Rattle.wasm_smith_shapes.proofs.FlatLaws.{AreLeft}
use Rattle.wasm_smith_shapes.proofs.flat.have_few_types.Given as goal

abbrev pub invariant-loop-group : goal.invariant-loop-group
invariant-loop-group l = AreLeft group_of members l.groups l.most l.left l.group-index
