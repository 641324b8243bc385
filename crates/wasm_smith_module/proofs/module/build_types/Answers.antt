use Rattle.wasm_smith_module.proofs.GivenTypes.{good_groups}
use Rattle.wasm_smith_module.proofs.GoodLaws.{types_small}
use Rattle.wasm_smith_module.proofs.module.build_types.Goals as goal

pub make_types-requires-clause-few : goal.make_types-requires-clause-few
make_types-requires-clause-few c = types_small c.args.config.now c.requires.good

pub make_types-requires-clause-given : goal.make_types-requires-clause-given
make_types-requires-clause-given c = good_groups c.args.config.now c.requires.shapes
