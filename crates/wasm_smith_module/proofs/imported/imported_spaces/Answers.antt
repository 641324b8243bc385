use Rattle.std.proofs.Common.{ap, sym, ◌∙◌, map, subst}
use Rattle.std.specs.List.{flat_map}
use Rattle.wasm_core_types.specs.SubTypes.{sub_type}
use Rattle.wasm_smith_shapes.specs.Imports.{import_entry}
use Rattle.wasm_smith_module.proofs.ImportedLimits.{all_items, imported_alone, mapped_items, next_items}
use Rattle.wasm_smith_module.proofs.imported.imported_spaces.Goals as goal
use Rattle.wasm_smith_module.specs.Measured.{HasNoOwn}
use Rattle.wasm_smith_validity.specs.Spaces.{spaces_of_types, with_items}
use Rattle.wasm_spec.specs.Syntax.{imported_by}

pub loop-entry-preserved : goal.loop-entry-preserved
loop-entry-preserved c =
    let entries = c.args.imports.now in
    record {
      added = next_items (λ entry. imported_by (import_entry entry)) entries c.loop-entry.entry-index c.entry-item.result c.loop-entry.spaces c.push_entry.new.spaces
          (with_items (spaces_of_types (map sub_type c.args.types.now)) (flat_map (λ entry. imported_by (import_entry entry)) entries)) c.loop-entry-test.true c.entry-item.is
          c.in_ok-push_entry.ensures c.loop-entry.invariant.added;
    }

pub returns-clause-exact : goal.returns-clause-exact
returns-clause-exact c =
    let entries = c.args.imports.now in
    let types = spaces_of_types (map sub_type c.args.types.now) in
    all_items (λ entry. imported_by (import_entry entry)) entries c.loop-entry.entry-index c.loop-entry.spaces
    (with_items types (flat_map (λ entry. imported_by (import_entry entry)) entries)) c.loop-entry-test.false c.loop-entry.invariant.added
    ∙ ap (with_items types) (sym (mapped_items imported_by import_entry entries))

pub returns-clause-alone : goal.returns-clause-alone
returns-clause-alone c =
    let entries = c.args.imports.now in
    let types = map sub_type c.args.types.now in
    let items = flat_map (λ entry. imported_by (import_entry entry)) entries in
    let exact = all_items (λ entry. imported_by (import_entry entry)) entries c.loop-entry.entry-index c.loop-entry.spaces
    (with_items (spaces_of_types types) items) c.loop-entry-test.false c.loop-entry.invariant.added in
    subst HasNoOwn (sym exact) (imported_alone types items)
