use Rattle.std.proofs.Common.{ap, sym, ◌∙◌, ◌-◌, ◌^◌, map, min}
use Rattle.std.specs.List.{sum_by}
use Rattle.wasm_core_types.specs.SubTypes.{sub_type}
use Rattle.wasm_spec.specs.Syntax.{imported_by}
use Rattle.wasm_smith_shapes.specs.Imports.{import_entry}
use Rattle.wasm_smith_externs.specs.Candidates.{type_size, type_sizes}
use Rattle.wasm_smith_externs.proofs.ImportSizeLaws.{all_added, sum_joined, sum_mapped}
use Rattle.wasm_smith_externs.proofs.ShapeImportLaws.{all_types}
use Rattle.wasm_smith_externs.proofs.import_sizes.imports_size.Goals as goal

pub returns : goal.returns
returns c =
    let size = type_size (map sub_type c.args.types.now) in
    let entries = c.args.entries.now in
    all_added (λ entry. sum_by size (imported_by (import_entry entry))) entries c.loop-entry.entry-index c.loop-entry.size
    (min (sum_by (λ entry. sum_by size (imported_by (import_entry entry))) entries) (2 ^ 64 - 1)) c.loop-entry-test.false c.loop-entry.invariant.fits c.loop-entry.invariant.sum
    ∙ ap (λ n. min n (2 ^ 64 - 1))
    (sym (ap (type_sizes (map sub_type c.args.types.now)) (all_types (map import_entry entries)) ∙ sum_joined size imported_by (map import_entry entries)
    ∙ sum_mapped (λ entry. sum_by size (imported_by entry)) import_entry entries))
