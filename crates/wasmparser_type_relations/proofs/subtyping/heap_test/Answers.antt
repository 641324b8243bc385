use Rattle.std.proofs.Common.{ap}
use Rattle.wasmparser_types.specs.HeapTypes.{heap_type}
use Rattle.wasmparser_type_relations.proofs.HeapLaws.{test_by_below}
use Rattle.wasmparser_type_relations.proofs.subtyping.heap_test.Goals as goal

pub returns-in-Concrete-Concrete : goal.returns-in-Concrete-Concrete
returns-in-Concrete-Concrete g c = test_by_below _ _ _ _ _ _ (ap heap_type c.in-Concrete-Concrete.is-0) (ap heap_type c.in-Concrete-Concrete.is-1) c.index_is_subtype.ensures
