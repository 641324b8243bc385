use Rattle.std.proofs.Common.{subst, sym, slice_get}
use Rattle.wasmparser_type_relations.specs.Chains.{IsDepth}
use Rattle.wasmparser_type_list.specs.TypeTables.{TypeTables, sub_types}
use Rattle.wasmparser_interning_rows.proofs.checked_list.CheckedList.set_subtyping_depth.Goals as goal

pub set_subtyping_depth-requires : goal.set_subtyping_depth-requires
set_subtyping_depth-requires c = subst (λ (tables : TypeTables). IsDepth (slice_get (sub_types tables)) c.args.id c.args.depth) (sym c.self.view_is) c.requires
