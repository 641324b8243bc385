use Rattle.std.proofs.Common.{◌↔◌, slice_get}
use Rattle.wasm_spec.specs.Subtyping.{HeapBelow}
use Rattle.wasm_spec.specs.Types.{Concrete}
use Rattle.wasmparser_types.specs.Index.{Id}
use Rattle.wasmparser_type_relations.specs.Chains.{by_id}
use Rattle.wasmparser_type_list.specs.TypeTables.{sub_types}
use Rattle.wasmparser_type_list.proofs.type_list.TypeList.id_is_subtype.Given as goal

abbrev pub invariant-loop-b : goal.invariant-loop-b
invariant-loop-b l =
    HeapBelow (by_id (slice_get (sub_types l.self))) (Concrete (Id l.fn.a)) (Concrete (Id l.b)) ↔ HeapBelow (by_id (slice_get (sub_types l.self))) (Concrete (Id l.at)) (Concrete (Id l.b))

abbrev pub decreases-loop-b : goal.decreases-loop-b
decreases-loop-b l = l.at
