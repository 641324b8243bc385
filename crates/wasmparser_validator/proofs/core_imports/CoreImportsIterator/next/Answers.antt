use Rattle.std.proofs.Common.{◌≡◌, ◌∙◌, ap, option_map, refl, subst, sym}
use Rattle.wasmparser_names.specs.ImportNames.{named_import}
use Rattle.wasmparser_module_state.specs.Entities.{entity_type}
use Rattle.wasmparser_validator.specs.ShownImports.{ImportsLeft, IsImport}
use Rattle.wasmparser_validator.proofs.core_imports.CoreImportsIterator.next.Goals as goal

pub returns-clause-steps : goal.returns-clause-steps
returns-clause-steps c =
    let state = c.self.inside.types.types.now.state in
    let import = c.in_ok-import.import in
    let new : ImportsLeft = record { state = state; left = c.next.new.self } in
    subst (λ (old : ImportsLeft). IsImport old import.module.now import.name.now c.in-Some.ty new × (state ≡ old.state)) c.self.view_is (
      record {
        import = named_import import;
        first = c.in_ok-import.ensures.steps;
        origin_is = refl;
        name_is = refl;
        type_is = ap (option_map (entity_type state.types)) (sym c.in-Some.is) ∙ c.entity.ensures.same;
        ids = c.in-Some.ensures.ids;
      },
      refl,
    )
