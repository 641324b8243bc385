use Rattle.std.proofs.Common.{[], refl}
use Rattle.wasm_spec.proofs.Carried.{carried, limits_carried_back}
use Rattle.wasm_spec.specs.Trees.{unrolled}
use Rattle.wasmparser_type_list.specs.TypeTables.{type_by_id}
use Rattle.wasmparser_type_list.specs.IdTypes.{groups_of, type_of_index}
use Rattle.wasmparser_type_list.proofs.GroupTypes.{all_canonical}
use Rattle.wasmparser_type_list.proofs.IdLaws.{id_count, ids_closed, ids_unroll}
use Rattle.wasmparser_type_list.proofs.WholeGroups.{whole_groups}
use Rattle.wasmparser_type_list.proofs.laws.ids_are_types.Goals as goal

pub returns : goal.returns
returns c = record {
  count = id_count;
  unrolls = λ canonical tables agree no_module. ids_unroll tables agree no_module canonical;
  closed = ids_closed;
  along = λ canonical tables agree no_module. carried (type_of_index canonical tables) (type_by_id tables) unrolled (ids_unroll tables agree no_module canonical);
  limits_back = λ canonical tables agree no_module.
      limits_carried_back (type_of_index canonical tables) (type_by_id tables) unrolled (ids_unroll tables agree no_module canonical) (ids_closed tables agree no_module);
  groups = whole_groups;
  section = λ tables. all_canonical 0 (groups_of tables) [];
  committed = λ canonical tables. refl;
}
