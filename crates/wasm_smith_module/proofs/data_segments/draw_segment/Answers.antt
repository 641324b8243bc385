use Rattle.std.proofs.Common.{sym}
use Rattle.wasm_smith_module.proofs.DataLaws.{bulk_on, passive_data}
use Rattle.wasm_smith_module.proofs.data_segments.draw_segment.Goals as goal

pub draw_active-requires-clause-there : goal.draw_active-requires-clause-there
draw_active-requires-clause-there c = sym c.in-Some.ensures

pub returns-in_ok-data-in-None-clause-allowed : goal.returns-in_ok-data-in-None-clause-allowed
returns-in_ok-data-in-None-clause-allowed c =
    passive_data c.args.config.now c.args.spaces.now
    (bulk_on c.args.config.now.bulk_memory_enabled c.args.spaces.now.memories c.draw_index-memory.result _ c.from-others.ensures (rw c.count_of-memories.ensures at c.draw_index-memory.ensures.below) c.in-None.ensures)
