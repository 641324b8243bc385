use Rattle.std.proofs.Common.{rules, SFits, w64}
use Rattle.std.proofs.lemmas.Int.{to_z-of_z}
use Rattle.wasmparser_operators.proofs.BlockIndexes.{index_cast, index_fits}
use Rattle.wasmparser_operators.proofs.immediates.read_type_index.Goals as goal

pub overflow_cast-result : goal.overflow_cast-result
overflow_cast-result c =
    let f : SFits w64 c.in_ok-index.index = search rules in
    rw (to_z-of_z w64 c.in_ok-index.index f) (index_cast c.in_ok-index.index (index_fits _ _ _ c.in_ok-index.ensures.reads) (search rules))
