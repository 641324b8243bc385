use Rattle.std.proofs.Common.{◌≡◌, ◌++◌, ap, flat_map, map, ◌∙◌}
use Rattle.wasm_gen_view.proofs.ItemMaps.{functions_joined, globals_joined, memories_are, tables_joined, tags_joined}
use Rattle.wasm_gen_view.proofs.made_items.made_items.Goals as goal
use Rattle.wasm_gen_view.specs.ItemReferences.{refer}
use Rattle.wasm_gen_view.specs.MadeSpaces.{functions_among, globals_among, imported_types, memories_among, tables_among, tags_among}
use Rattle.wasm_gen_view.specs.Views.{item_type}
use Rattle.wasm_spec.specs.Syntax.{imported_by}
use Rattle.wasm_spec.specs.TypeReferences.{external_map, global_map, ref_map, table_map}
use Rattle.wasm_validity.specs.Context.{element_type}

pub returns : goal.returns
returns c =
    let made = c.args.made.now.made in
    let f = refer c.args.numbers.now in
    let types = imported_types made in
    let shown = map item_type c.deref-shown.result.now in
    let are : shown ≡ map (external_map f) types =
    ap (map item_type) c.deref-shown.ensures.value ∙ c.in_ok-imported.ensures ∙ ap (λ entries. map (external_map f) (flat_map imported_by entries)) c.imports.ensures in
    record {
      functions = c.in_ok-functions.ensures ∙ ap (λ own. functions_among shown ++ map f own) c.funcs.ensures ∙ functions_joined f types shown are made.funcs;
      tables = c.in_ok-tables.ensures ∙ ap (λ own. tables_among shown ++ map (table_map f) (map (λ table. table.type) own)) c.tables.ensures
          ∙ tables_joined f types shown are (map (λ table. table.type) made.tables);
      memories = c.in_ok-memories.ensures ∙ ap (λ own. memories_among shown ++ own) c.memories.ensures ∙ ap (λ front. front ++ made.memories) (memories_are f types shown are);
      globals = c.in_ok-globals.ensures ∙ ap (λ own. globals_among shown ++ map (global_map f) (map (λ global. global.type) own)) c.globals.ensures
          ∙ globals_joined f types shown are (map (λ global. global.type) made.globals);
      tags = c.in_ok-tags.ensures ∙ ap (λ own. tags_among shown ++ map f own) c.tags.ensures ∙ tags_joined f types shown are made.tags;
      elements = c.in_ok-elements.ensures ∙ ap (λ segments. map (ref_map f) (map (λ segment. element_type segment.items) segments)) c.elems.ensures;
    }
