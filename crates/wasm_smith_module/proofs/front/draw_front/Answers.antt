use Rattle.std.proofs.Common.{◌≡◌, length, map, refl, ap, sym, ◌∙◌, subst, arith}
use Rattle.wasm_smith_definitions.proofs.FilledLaws.{filled_step}
use Rattle.wasm_smith_definitions.proofs.FrameLaws.{kept_by}
use Rattle.wasm_smith_definitions.specs.OwnItems.{OwnValue}
use Rattle.wasm_smith_externs.specs.Wanted.{of_tag}
use Rattle.wasm_smith_module.proofs.ImportedLaws.{imports_later}
use Rattle.wasm_smith_module.proofs.OwnKeepLaws.{counts_are, imported_few, own_keep}
use Rattle.wasm_smith_module.specs.Asked.{OwnKeep}
use Rattle.wasm_smith_module.specs.Building.{AreImports}
use Rattle.wasm_smith_shapes.specs.Imports.{import_entry}
use Rattle.wasm_smith_validity.specs.Spaces.{Spaces}
use Rattle.wasm_smith_module.proofs.front.draw_front.Goals as goal

pub of-imported-requires : goal.of-imported-requires
of-imported-requires c =
    let config = c.args.config.now in
    let made = subst (λ k. AreImports config c.args.duplicates k c.args.unstructured.now c.draw_imports.new.spaces c.draw_imports.new.unstructured (map import_entry c.in_ok-imports.imports.items)) c.requires.start c.in_ok-imports.ensures.made in
    record { few = λ kind. let few = imported_few config c.args.duplicates c.args.spaces.now.types c.args.unstructured.now c.draw_imports.new.spaces c.draw_imports.new.unstructured _ c.requires.good c.requires.shapes made kind in omega (arith, few) }

pub draw_tags-requires-clause-few : goal.draw_tags-requires-clause-few
draw_tags-requires-clause-few c =
    let types = ap (λ (k : Spaces). k.types) (imports_later c.args.config.now c.args.spaces.now c.draw_imports.new.spaces _ c.in_ok-imports.ensures.made.step) in
    omega (arith, ap length types, c.requires.few)

pub draw_tags-requires-clause-kept : goal.draw_tags-requires-clause-kept
draw_tags-requires-clause-kept c =
    let config = c.args.config.now in
    let made = subst (λ k. AreImports config c.args.duplicates k c.args.unstructured.now c.draw_imports.new.spaces c.draw_imports.new.unstructured (map import_entry c.in_ok-imports.imports.items)) c.requires.start c.in_ok-imports.ensures.made in
    let keep = own_keep config c.args.duplicates c.args.spaces.now.types c.args.unstructured.now c.draw_imports.new.spaces c.draw_imports.new.unstructured _ c.requires.shapes c.requires.tables made c.requires.good c.requires.types in
    let own = subst (λ (v : OwnValue). OwnKeep config c.draw_imports.new.spaces v) (sym c.requires.own) keep in
    λ features is. rw c.tags.ensures (own.tags features is)

pub draw_functions-requires-clause-few : goal.draw_functions-requires-clause-few
draw_functions-requires-clause-few c =
    let config = c.args.config.now in
    let step = filled_step config _ of_tag _ _ _ c.draw_imports.new.spaces _ c.draw_tags.new.spaces _ c.in_ok-tags.tags.items c.in_ok-tags.ensures.filled in
    let types = kept_by (λ k. k.types) config of_tag c.draw_imports.new.spaces c.draw_tags.new.spaces c.in_ok-tags.tags.items (λ k x. refl) step
    ∙ ap (λ (k : Spaces). k.types) (imports_later config c.args.spaces.now c.draw_imports.new.spaces _ c.in_ok-imports.ensures.made.step) in
    omega (arith, ap length types, c.requires.few)

pub draw_functions-requires-clause-kept : goal.draw_functions-requires-clause-kept
draw_functions-requires-clause-kept c =
    let config = c.args.config.now in
    let made = subst (λ k. AreImports config c.args.duplicates k c.args.unstructured.now c.draw_imports.new.spaces c.draw_imports.new.unstructured (map import_entry c.in_ok-imports.imports.items)) c.requires.start c.in_ok-imports.ensures.made in
    let keep = own_keep config c.args.duplicates c.args.spaces.now.types c.args.unstructured.now c.draw_imports.new.spaces c.draw_imports.new.unstructured _ c.requires.shapes c.requires.tables made c.requires.good c.requires.types in
    let own = subst (λ (v : OwnValue). OwnKeep config c.draw_imports.new.spaces v) (sym c.requires.own) keep in
    let step = filled_step config _ of_tag _ _ _ c.draw_imports.new.spaces _ c.draw_tags.new.spaces _ c.in_ok-tags.tags.items c.in_ok-tags.ensures.filled in
    let types : c.draw_tags.new.spaces.types ≡ c.draw_imports.new.spaces.types = kept_by (λ k. k.types) config of_tag c.draw_imports.new.spaces c.draw_tags.new.spaces c.in_ok-tags.tags.items (λ k x. refl) step in
    rw (c.functions.ensures, types) own.functions

pub returns-clause-drawn : goal.returns-clause-drawn
returns-clause-drawn c = record {
  imported = c.draw_imports.new.spaces;
  after_imports = c.draw_imports.new.unstructured;
  tagged = c.draw_tags.new.spaces;
  after_tags = c.draw_tags.new.unstructured;
  made_imports = c.in_ok-imports.ensures.made;
  counts = counts_are c.draw_imports.new.spaces c.of-imported.result c.of-imported.ensures;
  made_tags = rw (sym c.tags.ensures) c.in_ok-tags.ensures.filled;
  made_funcs = rw (sym c.functions.ensures) c.in_ok-funcs.ensures.filled;
  drawn = rw (sym c.functions.ensures) c.in_ok-funcs.ensures.drawn;
}
