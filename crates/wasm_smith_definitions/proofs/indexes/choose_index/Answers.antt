use Rattle.wasm_smith_types.proofs.OfferLaws.{is_chosen}
use Rattle.wasm_smith_definitions.proofs.indexes.choose_index.Goals as goal

pub unwrap-requires : goal.unwrap-requires
unwrap-requires c = is_chosen _ c.args.indexes.now _ _ c.choose.result c.choose.ensures.exact c.requires.some
