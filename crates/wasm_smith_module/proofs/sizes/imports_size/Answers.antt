use Rattle.std.proofs.Common.{ap, sym, ◌∙◌, map}
use Rattle.std.specs.List.{sum_by}
use Rattle.wasm_core_types.specs.SubTypes.{sub_type}
use Rattle.wasm_smith_shapes.specs.Imports.{import_entry}
use Rattle.wasm_smith_module.proofs.SaturatedSums.{all_sizes, sum_joined, sum_mapped}
use Rattle.wasm_smith_module.proofs.sizes.imports_size.Goals as goal
use Rattle.wasm_smith_module.specs.Measured.{saturated}
use Rattle.wasm_smith_module.specs.Measures.{size_of}
use Rattle.wasm_spec.specs.Syntax.{imported_by}

pub returns : goal.returns
returns c =
    let size = size_of (map sub_type c.args.types.now) in
    let entries = c.args.imports.now in
    all_sizes (λ entry. sum_by size (imported_by (import_entry entry))) entries c.loop-entry.entry-index c.loop-entry.size
    (saturated (sum_by (λ entry. sum_by size (imported_by (import_entry entry))) entries)) c.loop-entry-test.false c.loop-entry.invariant.fits c.loop-entry.invariant.sum
    ∙ ap saturated (sym (sum_joined size imported_by (map import_entry entries) ∙ sum_mapped (λ entry. sum_by size (imported_by entry)) import_entry entries))
