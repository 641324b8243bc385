use Rattle.std.proofs.Common.{◌∙◌, Bool, ℕ, arith, length, map, string_bytes, sym, vec_len}
use Rattle.std.proofs.lemmas.List.{length-map}
use Rattle.wasm_encoder_sections.specs.CoreItems.{entity_type, export_kind}
use Rattle.wasm_smith_module.specs.ItemKinds.{is_of}
use Rattle.wasm_smith_module.proofs.ShapeChecks.{any_mapped, any_repeated, there_are}
use Rattle.wasm_smith_shapes.specs.Imports.{import_item}
use Rattle.wasm_spec.specs.Types.{ExternalType}
use Rattle.wasm_smith_module.proofs.shapes.has_import.Goals as goal

pub returns-in-Compact1 : goal.returns-in-Compact1
returns-in-Compact1 c =
    let test : ExternalType ℕ → Bool = is_of (export_kind c.args.kind) in
    rw (c.in-Compact1.is, sym c.deref.ensures.value) (c.have_import.ensures ∙ sym (any_mapped test (λ item. item.type) (map import_item c.deref.result.now)))

pub returns-then-not-is_empty : goal.returns-then-not-is_empty
returns-then-not-is_empty c =
    let test : ExternalType ℕ → Bool = is_of (export_kind c.args.kind) in
    let names = c.in-Compact2.names in
    let bytes = map string_bytes names.items in
    let some =
    there_are (vec_len names) (length bytes) (sym c.is_empty.ensures ∙ c.if-not-is_empty.true) (omega (arith, names.ok.0, length-map names.items string_bytes)) in
    rw c.in-Compact2.is (c.is_of-then-not-is_empty.ensures ∙ any_repeated test (entity_type c.in-Compact2.ty) bytes some)
