use Rattle.std.proofs.Common.{ap, sym, ◌∙◌, ◌*◌, length, map}
use Rattle.std.specs.List.{sum_by}
use Rattle.std.specs.String.{string_bytes}
use Rattle.wasm_core_types.specs.SubTypes.{sub_type}
use Rattle.wasm_encoder_sections.specs.CoreItems.{entity_type}
use Rattle.wasm_smith_shapes.specs.Imports.{import_entry}
use Rattle.wasm_smith_module.proofs.SaturatedSums.{sum_alike}
use Rattle.wasm_smith_module.proofs.sizes.entry_size.Goals as goal
use Rattle.wasm_smith_module.specs.Measured.{saturated}
use Rattle.wasm_smith_module.specs.Measures.{size_of}
use Rattle.wasm_spec.specs.Syntax.{imported_by}

pub returns-in-Compact2 : goal.returns-in-Compact2
returns-in-Compact2 c =
    let size = size_of (map sub_type c.args.types.now) in
    let names = c.in-Compact2.names.items in
    c.named_size.ensures
    ∙ (ap (λ names. saturated (length names * c.size_of-in-Compact2.result)) c.deref-in-Compact2.ensures.value
    ∙ (ap (λ n. saturated (length names * n)) c.size_of-in-Compact2.ensures
    ∙ (ap saturated (sym (sum_alike size (entity_type c.in-Compact2.ty) string_bytes names))
    ∙ ap (λ entry. saturated (sum_by size (imported_by (import_entry entry)))) (sym c.in-Compact2.is))))
