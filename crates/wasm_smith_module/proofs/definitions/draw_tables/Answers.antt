use Rattle.std.proofs.Common.{◌≡◌, refl, sym, ◌∙◌, subst}
use Rattle.std.proofs.lemmas.Result.{err_from_is_err_and}
use Rattle.wasm_smith_definitions.proofs.FrameLaws.{kept_by}
use Rattle.wasm_smith_definitions.specs.Kinds.{of_table}
use Rattle.wasm_smith_validity.specs.ValidGroups.{AllKeepTypeRules}
use Rattle.wasm_smith_module.proofs.GoodLaws.{tables_fine}
use Rattle.wasm_smith_module.proofs.NullLaws.{tables_end}
use Rattle.wasm_smith_module.proofs.definitions.draw_tables.Goals as goal

pub returns-in_err-asked-clause-ended : goal.returns-in_err-asked-clause-ended
returns-in_err-asked-clause-ended c =
    let p = err_from_is_err_and c.from_residual.result c.from_residual.ensures.1 in
    rw (p.1, p.2) (tables_end c.args.config.now c.args.spaces.now.types c.args.own.now _ _ c.tables.ensures c.requires.own c.in_err-asked.ensures.refused)

pub tables-requires-2-clause-ordered : goal.tables-requires-2-clause-ordered
tables-requires-2-clause-ordered c = tables_fine c.args.config.now c.requires.good

pub tables-requires-2-clause-rules : goal.tables-requires-2-clause-rules
tables-requires-2-clause-rules c =
    let types : c.shape_tables.new.spaces.types ≡ c.args.spaces.now.types = kept_by (λ k. k.types) c.args.config.now of_table c.args.spaces.now c.shape_tables.new.spaces _ (λ k x. refl) c.in_ok-asked.ensures.step in
    subst AllKeepTypeRules (sym types) c.requires.rules

pub tables-requires-2-clause-no_own_globals : goal.tables-requires-2-clause-no_own_globals
tables-requires-2-clause-no_own_globals c = kept_by (λ k. k.own_globals) c.args.config.now of_table c.args.spaces.now c.shape_tables.new.spaces _ (λ k x. refl) c.in_ok-asked.ensures.step ∙ c.requires.no_own_globals
