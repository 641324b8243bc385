use Rattle.wasm_smith_types.proofs.GivenLaws.{behind_nothing}
use Rattle.wasm_smith_types.proofs.types.make_given.Goals as goal

pub returns-clause-made : goal.returns-clause-made
returns-clause-made c =
    behind_nothing _ _ _ c.args.shape.now c.new-made.ensures.sizes c.in_ok-push_shape_groups.ensures.added
