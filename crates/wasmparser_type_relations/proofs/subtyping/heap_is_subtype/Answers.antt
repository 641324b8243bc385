use Rattle.wasmparser_type_relations.proofs.HeapLaws.{below_by_test}
use Rattle.wasmparser_type_relations.proofs.subtyping.heap_is_subtype.Goals as goal

pub returns : goal.returns
returns g c = below_by_test _ _ _ _ c.heap_test.ensures
