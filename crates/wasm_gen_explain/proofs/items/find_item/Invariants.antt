use Rattle.wasm_gen_explain.specs.Items.{PassesItem}
use Rattle.wasm_gen_explain.specs.Passed.{ArePassed}
use Rattle.wasm_gen_explain.proofs.items.find_item.Given as goal

abbrev pub invariant-loop-number : goal.invariant-loop-number
invariant-loop-number g l = ArePassed (PassesItem g.T.Item.form_at l.offset) l.initial.reader l.number l.reader
