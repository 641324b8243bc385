use Rattle.wasm_smith_definitions.proofs.OfferedLaws.{permitted_written}
use Rattle.wasm_smith_definitions.proofs.globals.global.Goals as goal

pub global_of-requires-clause-written : goal.global_of-requires-clause-written
global_of-requires-clause-written c =
    permitted_written c.args.config.now c.args.spaces.now _ _ (c.global_type-ty.ensures.offered c.args.config.now c.requires.offers).permitted c.type_count.ensures.most
