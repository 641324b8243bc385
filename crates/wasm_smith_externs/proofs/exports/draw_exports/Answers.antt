use Rattle.std.proofs.Common.{◌≡◌, ◌+◌, inr, true, false, length, length-append, refl, sym, ap, ◌∙◌, if◌then◌else◌, arith}
use Rattle.std.proofs.lemmas.List.{length-map}
use Rattle.wasm_smith_definitions.specs.Items.{export}
use Rattle.wasm_smith_definitions.proofs.StepLaws.{grow_goes_on}
use Rattle.wasm_smith_types.specs.Growing.{grows_at}
use Rattle.wasm_smith_validity.specs.Spaces.{Spaces, functions_of}
use Rattle.wasm_smith_externs.specs.Exports.{any_fits, left_for, wanted_exports}
use Rattle.wasm_smith_externs.specs.Sizes.{exports_size, item_size}
use Rattle.wasm_smith_externs.proofs.ExportLaws.{export_allowed, one_more_name, one_more_size}
use Rattle.wasm_smith_externs.proofs.GrowLaws.{too_few}
use Rattle.wasm_smith_externs.proofs.exports.draw_exports.Goals as goal

pub grow-preserved : goal.grow-preserved
grow-preserved c =
    let config = c.args.config.now in
    let drawn = export c.in_ok-export.export in
    let count : length c.exports.result.now ≡ length c.grow.spaces.exports = sym (length-map c.exports.result.now export) ∙ ap length c.exports.ensures in
    let more : (if any_fits c.grow.spaces (left_for c.args.config.now c.args.imports_size c.grow.spaces) then grows_at c.args.config.now.min_exports c.args.config.now.max_exports (length c.grow.spaces.exports) c.grow.unstructured else (false, c.grow.unstructured)) ≡ (true, c.grows_if.new.unstructured) =
    rw (c.any_fits.ensures, c.grow.invariant.left, count) at c.grow-test.ensures.exact in
    let size = item_size c.grow.spaces.types (functions_of c.grow.spaces) c.grow.spaces.tags drawn.kind drawn.index in
    let all : exports_size c.push_export.new.self ≡ exports_size c.grow.spaces + size = ap exports_size c.in_ok-push_export.ensures.added ∙ one_more_size c.grow.spaces drawn in
    let exports = ap (λ (k : Spaces). k.exports) c.in_ok-push_export.ensures.added in
    let item = c.in_ok-export.ensures.item in
    record {
      candidates = rw c.in_ok-push_export.ensures.added item.candidates;
      left = omega (arith, all, item.left, c.grow.invariant.left);
      size = omega (arith, all, item.item.small, c.grow.invariant.left, c.grow.invariant.size);
      names = one_more_name c.grow.names c.draw_export.new.names c.grow.spaces.exports _ drawn exports c.in_ok-export.ensures.name c.grow.invariant.names;
      taken = omega arith;
      growing = grow_goes_on _ _ _ _ _ _ _ _ _ _ drawn _ _ _ c.grow.invariant.growing more (rw count at (c.grow-test.ensures.room refl))
          (export_allowed config c.grow.spaces drawn item.item.there (sym (c.grow.invariant.names drawn.name) ∙ c.in_ok-export.ensures.name.is_new)) c.in_ok-export.ensures.name.short c.in_ok-push_export.ensures.added (length-append _ _) exports;
    }

pub returns-then-exports-config-clause-refused : goal.returns-then-exports-config-clause-refused
returns-then-exports-config-clause-refused c =
    let count : length c.exports.result.now ≡ length c.grow.spaces.exports = sym (length-map c.exports.result.now export) ∙ ap length c.exports.ensures in
    let count_2 : length c.exports-2.result.now ≡ length c.grow.spaces.exports = sym (length-map c.exports-2.result.now export) ∙ ap length c.exports-2.ensures in
    inr (
      refl,
      too_few (wanted_exports c.args.config.now c.args.imports_size) c.grow.spaces c.grow.unstructured c.grows_if.new.unstructured
          (rw (c.any_fits.ensures, c.grow.invariant.left, count) at c.grow-test.ensures.exact) (rw count_2 at c.if-exports-config.true),
    )
