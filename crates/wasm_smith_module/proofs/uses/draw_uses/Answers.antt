use Rattle.std.proofs.Common.{◌≡◌, length, refl, sym, ap, ◌∙◌, subst, arith}
use Rattle.std.proofs.lemmas.Result.{err_from_is_err_and}
use Rattle.wasm_smith_definitions.proofs.FrameLaws.{kept_by, tables_still_keep}
use Rattle.wasm_smith_definitions.specs.Kinds.{of_element, of_export}
use Rattle.wasm_smith_module.specs.Elements.{AreNullable}
use Rattle.wasm_smith_validity.specs.ValidGroups.{AllKeepTypeRules}
use Rattle.wasm_smith_validity.specs.Spaces.{functions_of}
use Rattle.wasm_smith_module.proofs.GoodLaws.{data_segments_fine, element_segments_fine, elements_fine}
use Rattle.wasm_smith_module.proofs.OwedLaws.{elements_end}
use Rattle.wasm_smith_module.proofs.uses.draw_uses.Goals as goal

pub start-requires : goal.start-requires
start-requires c =
    let same : functions_of c.make_exports.new.spaces ≡ functions_of c.args.spaces.now =
    kept_by functions_of c.args.config.now of_export c.args.spaces.now c.make_exports.new.spaces _ (λ k x. refl) c.in_ok-make_exports.ensures.step in
    record { few = omega (arith, ap length same, c.requires.few_functions) }

pub element_segments-requires-clause-rules : goal.element_segments-requires-clause-rules
element_segments-requires-clause-rules c =
    let types : c.make_exports.new.spaces.types ≡ c.args.spaces.now.types =
    kept_by (λ k. k.types) c.args.config.now of_export c.args.spaces.now c.make_exports.new.spaces _ (λ k x. refl) c.in_ok-make_exports.ensures.step in
    subst AllKeepTypeRules (sym types) c.requires.rules

pub element_segments-requires-clause-tables : goal.element_segments-requires-clause-tables
element_segments-requires-clause-tables c =
    let config = c.args.config.now in
    let old = c.args.spaces.now in
    let new = c.make_exports.new.spaces in
    tables_still_keep config old new (kept_by (λ k. k.types) config of_export old new _ (λ k x. refl) c.in_ok-make_exports.ensures.step)
    (kept_by (λ k. k.tables) config of_export old new _ (λ k x. refl) c.in_ok-make_exports.ensures.step) c.requires.tables

pub element_segments-requires-clause-bounds : goal.element_segments-requires-clause-bounds
element_segments-requires-clause-bounds c = elements_fine c.args.config.now c.requires.good

pub element_segments-requires-clause-counts : goal.element_segments-requires-clause-counts
element_segments-requires-clause-counts c = element_segments_fine c.args.config.now c.requires.good

pub data_segments-requires-clause-rules : goal.data_segments-requires-clause-rules
data_segments-requires-clause-rules c =
    let config = c.args.config.now in
    let types : c.element_segments.new.spaces.types ≡ c.args.spaces.now.types =
    kept_by (λ k. k.types) config of_element c.make_exports.new.spaces c.element_segments.new.spaces _ (λ k x. refl) c.in_ok-elems.ensures.grown.step
    ∙ kept_by (λ k. k.types) config of_export c.args.spaces.now c.make_exports.new.spaces _ (λ k x. refl) c.in_ok-make_exports.ensures.step in
    subst AllKeepTypeRules (sym types) c.requires.rules

pub data_segments-requires-clause-counts : goal.data_segments-requires-clause-counts
data_segments-requires-clause-counts c = data_segments_fine c.args.config.now c.requires.good

pub returns-in_err-elems-clause-ended : goal.returns-in_err-elems-clause-ended
returns-in_err-elems-clause-ended c =
    let p = err_from_is_err_and c.from_residual-in_err-elems.result c.from_residual-in_err-elems.ensures.1 in
    let tables : c.make_exports.new.spaces.tables ≡ c.args.spaces.now.tables =
    kept_by (λ k. k.tables) c.args.config.now of_export c.args.spaces.now c.make_exports.new.spaces _ (λ k x. refl) c.in_ok-make_exports.ensures.step in
    rw (p.1, p.2) (elements_end c.args.config.now c.make_exports.new.spaces.tables _ (λ none. subst AreNullable (sym tables) (c.requires.nullable none)) c.in_err-elems.ensures.refused)
