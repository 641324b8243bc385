use Rattle.wasmparser_readers.proofs.ModuleLaws.{group_kept, kept_indexes}
use Rattle.wasmparser_readers.proofs.rec_group.RecGroupFromReader.from_reader.Goals as goal

pub returns-in-Ok-remap_indices : goal.returns-in-Ok-remap_indices
returns-in-Ok-remap_indices c =
    let read = rw c.in-Ok.is at c.read_packed.ensures in
    let kept = c.in-Ok-remap_indices.ensures in
    (group_kept _ _ _ _ read.0 kept.remapped kept.accepted, kept_indexes _ _ kept.remapped kept.accepted, read.1)
