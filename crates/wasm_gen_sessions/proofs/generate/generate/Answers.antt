use Rattle.std.proofs.lemmas.Result.{IfOk-weaker, IfErr-weaker}
use Rattle.wasm_smith.specs.Config.{sanitized}
use Rattle.wasm_gen_sessions.specs.Asked.{MakesLists, RefusesRightly}
use Rattle.wasm_gen_sessions.specs.Generate.{IsGeneratedFrom, IsCause}
use Rattle.wasm_gen_sessions.proofs.AskedLaws.{Bare, Reach, makes_lists, refuses_rightly}
use Rattle.wasm_gen_sessions.proofs.generate.generate.Goals as goal

pub returns-clause-lists : goal.returns-clause-lists
returns-clause-lists c =
    let config = sanitized c.args.config.now in
    let seed = c.args.seed.now in
    let law : Reach = record { exact = c.reach.ensures.exact; alone = c.reach.ensures.alone; goes_on = c.reach.ensures.funcs_go_on } in
    IfOk-weaker c.drawn_bytes.result (λ bytes. IsGeneratedFrom config seed bytes.items) (λ bytes. MakesLists config seed bytes.items)
    (λ bytes g. makes_lists law config seed bytes.items g) c.drawn_bytes.ensures.generated

pub returns-clause-rightly : goal.returns-clause-rightly
returns-clause-rightly c =
    let config = sanitized c.args.config.now in
    let seed = c.args.seed.now in
    let law : Reach = record { exact = c.reach.ensures.exact; alone = c.reach.ensures.alone; goes_on = c.reach.ensures.funcs_go_on } in
    let bare : Bare = record { limits = c.bare_modules.ensures.limits; lengths = c.bare_modules.ensures.lengths } in
    IfErr-weaker c.drawn_bytes.result (IsCause config seed) (RefusesRightly config seed) (λ e h. refuses_rightly law c.total.ensures bare config seed e h)
    c.drawn_bytes.ensures.refused
