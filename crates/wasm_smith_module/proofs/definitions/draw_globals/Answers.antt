use Rattle.std.proofs.Common.{◌≡◌, refl, sym, subst}
use Rattle.std.proofs.lemmas.Result.{err_from_is_err_and}
use Rattle.wasm_smith_definitions.proofs.FrameLaws.{kept_by}
use Rattle.wasm_smith_definitions.specs.Kinds.{of_global}
use Rattle.wasm_smith_validity.specs.ValidGroups.{AllKeepTypeRules}
use Rattle.wasm_smith_module.proofs.GoodLaws.{globals_fine}
use Rattle.wasm_smith_module.proofs.NullLaws.{globals_end}
use Rattle.wasm_smith_module.proofs.definitions.draw_globals.Goals as goal

pub returns-in_err-asked-clause-ended : goal.returns-in_err-asked-clause-ended
returns-in_err-asked-clause-ended c =
    let p = err_from_is_err_and c.from_residual.result c.from_residual.ensures.1 in
    rw (p.1, p.2) (globals_end c.args.config.now c.args.spaces.now.types c.args.own.now _ _ c.globals.ensures c.requires.own c.in_err-asked.ensures.refused)

pub globals-requires-2-clause-ordered : goal.globals-requires-2-clause-ordered
globals-requires-2-clause-ordered c = globals_fine c.args.config.now c.requires.good

pub globals-requires-2-clause-rules : goal.globals-requires-2-clause-rules
globals-requires-2-clause-rules c =
    let types : c.shape_globals.new.spaces.types ≡ c.args.spaces.now.types = kept_by (λ k. k.types) c.args.config.now of_global c.args.spaces.now c.shape_globals.new.spaces _ (λ k x. refl) c.in_ok-asked.ensures.step in
    subst AllKeepTypeRules (sym types) c.requires.rules
