use Rattle.std.proofs.Common.{◌+◌, ◌∷◌, map, drop, ap, ◌∙◌, sym, subst, inl}
use Rattle.std.proofs.lemmas.List.{drop_more}
use Rattle.wasm_smith_definitions.specs.Items.{made_body}
use Rattle.wasm_smith_sections.specs.ModuleEncoding.{SomeByRecursion}
use Rattle.wasm_smith_module.specs.Measured.{IsLongBody}
use Rattle.wasm_smith_module.proofs.passed_limit.has_long_body.Goals as goal

pub returns-then-branch-clause-long : goal.returns-then-branch-clause-long
returns-then-branch-clause-long c = λ same.
    let bodies = c.args.bodies.now in
    let i = c.loop-body.body-index in
    let here = drop_more bodies i c.body-item.result c.loop-body-test.true ∙ ap (λ body. body ∷ drop (i + 1) bodies) (sym c.body-item.is) in
    c.loop-body.invariant.long (subst (λ l. SomeByRecursion IsLongBody (map made_body l)) (sym here) (inl (c.in_ok-is_long_body.ensures.long c.if-branch.true)))
