use Rattle.wasm_spec.proofs.Carried.{carried_back}
use Rattle.wasm_spec.specs.Trees.{unrolled}
use Rattle.wasmparser_type_list.specs.TypeTables.{type_by_id}
use Rattle.wasmparser_type_list.specs.IdTypes.{type_of_index}
use Rattle.wasmparser_type_list.proofs.IdLaws.{ids_closed, ids_distinct, ids_one_to_one, ids_unroll}
use Rattle.wasmparser_type_list.proofs.laws.equal_types_have_one_id.Goals as goal

pub returns : goal.returns
returns c = record {
  distinct = λ canonical tables agree no_module. ids_distinct tables agree no_module canonical;
  one_to_one = λ canonical tables agree no_module. ids_one_to_one tables agree no_module canonical;
  back = λ canonical tables agree no_module are_canonical.
      carried_back (type_of_index canonical tables) (type_by_id tables) unrolled (ids_unroll tables agree no_module canonical) (ids_closed tables agree no_module)
      (ids_one_to_one tables agree no_module canonical are_canonical);
  copies_distinct = λ canonical tables agree no_module. ids_distinct tables agree no_module canonical;
  copies_back = λ canonical tables agree no_module are_canonical.
      carried_back (type_of_index canonical tables) (type_by_id tables) unrolled (ids_unroll tables agree no_module canonical) (ids_closed tables agree no_module)
      (ids_one_to_one tables agree no_module canonical are_canonical);
}
