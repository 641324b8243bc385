use Rattle.std.proofs.Common.{ap, sym, ◌∙◌, ◌*◌, ◌-◌, ◌^◌, length, map, min}
use Rattle.std.specs.List.{sum_by}
use Rattle.std.specs.String.{string_bytes}
use Rattle.wasm_core_types.specs.SubTypes.{sub_type}
use Rattle.wasm_encoder_sections.specs.CoreItems.{entity_type}
use Rattle.wasm_spec.specs.Syntax.{imported_by}
use Rattle.wasm_smith_shapes.specs.Imports.{import_entry}
use Rattle.wasm_smith_externs.specs.Candidates.{type_size}
use Rattle.wasm_smith_externs.proofs.ImportSizeLaws.{sum_alike}
use Rattle.wasm_smith_externs.proofs.import_sizes.entry_size.Goals as goal

pub returns-in-Compact2 : goal.returns-in-Compact2
returns-in-Compact2 c =
    let size = type_size (map sub_type c.args.types.now) in
    let names = c.in-Compact2.names.items in
    c.named_size.ensures
    ∙ (ap (λ names. min (length names * c.type_size-in-Compact2.result) (2 ^ 64 - 1)) c.deref-in-Compact2.ensures.value
    ∙ (ap (λ n. min (length names * n) (2 ^ 64 - 1)) c.type_size-in-Compact2.ensures
    ∙ (ap (λ n. min n (2 ^ 64 - 1)) (sym (sum_alike size (entity_type c.in-Compact2.ty) string_bytes names))
    ∙ ap (λ entry. min (sum_by size (imported_by (import_entry entry))) (2 ^ 64 - 1)) (sym c.in-Compact2.is))))
