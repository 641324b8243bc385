use Rattle.std.proofs.Common.{refl}
use Rattle.std.proofs.lemmas.Result.{on_ok_weaker}
use Rattle.wasmparser_module_state.specs.State.{context}
use Rattle.wasmparser_module_state.proofs.TypeLaws.{adds_group}
use Rattle.wasmparser_module_state.proofs.types.RecGroupEntry.add.Goals as goal

pub returns-clause-added : goal.returns-clause-added
returns-clause-added c =
    adds_group (context c.args.state.now) c.args.state.now.types c.add_rec_group.new.self _ _ c.add_rec_group.result refl refl
    c.add_rec_group.ensures.added c.add_rec_group.ensures.refused

pub returns-clause-entered : goal.returns-clause-entered
returns-clause-entered c = on_ok_weaker c.add_rec_group.result (λ adds. adds.interned) c.add_rec_group.ensures.added
