use Rattle.wasmparser_entries.specs.ConstExprs.{expression_of}
use Rattle.wasmparser_readers.specs.ItemTypes.{memory_type}
use Rattle.wasmparser_module_state.proofs.SegmentLaws.{fits_memory}
use Rattle.wasmparser_module_state.specs.State.{context, features_of}
use Rattle.wasmparser_module_state.proofs.module_state.ModuleState.check_address.Goals as goal

pub returns-clause-judged : goal.returns-clause-judged
returns-clause-judged c =
    fits_memory (features_of c.args.self.now) (context c.args.self.now) _ (memory_type c.in-Some.memory) _ (expression_of c.args.address.now.rest) c.args.offset _ c.in-Some.ensures c.index_type.ensures.meant c.check_initialiser.ensures.judged
