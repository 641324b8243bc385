use Rattle.wasm_gen_view.proofs.GroupLaws.{numbered}
use Rattle.wasm_gen_view.proofs.groups.Groups.number.Goals as goal

pub returns : goal.returns
returns c = rw (← c.self.view_is, c.in_ok-number.ensures.index, c.in_ok-number.ensures.keys) (numbered c.self.inside.set.keys c.args.group)
