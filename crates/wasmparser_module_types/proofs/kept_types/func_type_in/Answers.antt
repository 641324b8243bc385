use Rattle.std.proofs.Common.{sym, ap, ◌∙◌, slice_get}
use Rattle.std.specs.Option.{option_and_then}
use Rattle.wasmparser_type_list.specs.TypeTables.{sub_types}
use Rattle.wasmparser_module_types.proofs.FuncTypes.{func_ids, known_index}
use Rattle.wasmparser_module_types.proofs.KnownIds.{known_id}
use Rattle.wasmparser_module_types.specs.ModuleTypes.{IsIdOf, interned_types}
use Rattle.wasmparser_types.specs.CompositeTypes.{func_of}
use Rattle.wasmparser_types.specs.SubTypes.{sub_type}
use Rattle.wasmparser_module_types.proofs.kept_types.func_type_in.Goals as goal

pub sub_type_in-requires-clause-known : goal.sub_type_in-requires-clause-known
sub_type_in-requires-clause-known c =
    known_id c.args.list.now c.requires.agree c.args.ids.now c.args.index c.in_ok-id.id c.requires.known (sym c.in_ok-id.ensures)

pub returns : goal.returns
returns c =
    let list = c.args.list.now in
    let type = sub_type c.sub_type_in.result.now in
    record {
      named = known_index list c.args.ids.now c.args.index c.in_ok-id.id type _ (sym c.in_ok-id.ensures) c.sub_type_in.ensures.unrolled c.as_func.ensures;
      ids = func_ids (IsIdOf (interned_types list)) type c.as_func.result c.as_func.ensures c.sub_type_in.ensures.ids;
      exact = c.as_func.ensures ∙ ap (option_and_then (λ sub. func_of sub.composite_type)) (c.sub_type_in.ensures.exact ∙ ap (option_and_then (slice_get (sub_types list))) c.in_ok-id.ensures);
    }
