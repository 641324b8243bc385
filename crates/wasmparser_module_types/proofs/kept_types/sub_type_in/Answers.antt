use Rattle.std.proofs.Common.{◌≡◌, Some, ap, ◌∙◌, slice_get, arith, sym}
use Rattle.std.proofs.lemmas.Option.{slice_get-map}
use Rattle.std.specs.Option.{option_map}
use Rattle.wasmparser_type_list.specs.TypeTables.{sub_types}
use Rattle.wasmparser_module_types.proofs.KnownIds.{kept_count, kept_ids, kept_unrolls}
use Rattle.wasmparser_types.specs.SubTypes.{sub_type}
use Rattle.wasmparser_module_types.proofs.kept_types.sub_type_in.Goals as goal

pub index-requires : goal.index-requires
index-requires c = omega (arith, c.requires.known, kept_count c.args.list.now c.requires.agree)

pub returns : goal.returns
returns c =
    let list = c.args.list.now in
    let type = c.index.result.now in
    let at : slice_get (sub_types list) c.args.id ≡ Some (sub_type type) = slice_get-map sub_type list.types c.args.id ∙ ap (option_map sub_type) c.index.ensures in
    record {
      unrolled = kept_unrolls list c.requires.agree c.requires.no_module c.args.id (sub_type type) at;
      ids = kept_ids list c.requires.agree c.requires.no_module c.args.id (sub_type type) at;
      exact = sym at;
    }
