use Rattle.std.proofs.Common.{ap, ◌∙◌, arith}
use Rattle.std.proofs.lemmas.Result.{err_from_is_err_and}
use Rattle.wasm_core_types.specs.Features.{feature_set}
use Rattle.wasmparser_type_list.specs.TypeTables.{TypeTables}
use Rattle.wasmparser_module_types.proofs.AddedGroups.{committed_knows, without_module}
use Rattle.wasmparser_module_types.specs.ModuleTypes.{known_types}
use Rattle.wasmparser_module_types.proofs.module_types.ModuleTypes.end_module.Goals as goal

pub returns-in_err-list-clause-refused : goal.returns-in_err-list-clause-refused
returns-in_err-list-clause-refused c =
    let it = c.self.inside in
    let p = err_from_is_err_and c.from_residual.result c.from_residual.ensures.1 in
    rw p.1 (ap (λ (list : TypeTables). known_types (feature_set it.space.features) list it.space.ids.items it.groups) c.commit.ensures.same ∙ c.self.view_is)

pub invariant_of-result : goal.invariant_of-result
invariant_of-result c =
    let it = c.self.inside in
    let knows = c.self.invariant.0 in
    rw (c.replace.ensures.value, c.replace-2.ensures.value)
    (committed_knows (feature_set it.space.features) it.list c.in_ok-list.list it.space.ids.items knows c.in_ok-list.ensures.copy (c.in_ok-list.ensures.agree knows.agree), c.self.invariant.1)

pub invariant_of-self-2 : goal.invariant_of-self-2
invariant_of-self-2 c =
    let it = c.self.inside in
    rw (c.replace.ensures.after, c.replace-2.ensures.after, c.new-none.ensures.features, c.new-none.ensures.ids, c.features.ensures, c.commit.ensures.same)
    (without_module (feature_set it.space.features) it.list it.space.ids.items c.self.invariant.0, omega arith)
