use Rattle.wasm_spec.specs.Syntax.{imported_by}
use Rattle.wasm_smith_shapes.specs.Imports.{import_entry}
use Rattle.wasm_smith_shapes.proofs.FlatLaws.{AreLeft}
use Rattle.wasm_smith_shapes.proofs.flat.have_few_imports.Given as goal

abbrev pub invariant-loop-entry : goal.invariant-loop-entry
invariant-loop-entry l = AreLeft import_entry imported_by l.imports l.most l.left l.entry-index
