use Rattle.std.proofs.Common.{◌≤◌, ap, length, subst, ◌∙◌}
use Rattle.wasm_spec.specs.Limits as limits
use Rattle.wasmparser_bodies.specs.KeptLocals.{locals_with}
use Rattle.wasmparser_bodies.proofs.LocalLaws.{counted}
use Rattle.wasmparser_bodies.proofs.locals.Locals.len.Goals as goal

pub returns-clause-count : goal.returns-clause-count
returns-clause-count c = λ params.
    let i = c.self.inside in
    counted params i.first.items i.later i.runs.items i.count c.self.invariant.laid_out ∙ ap (λ k. length (locals_with params k)) c.self.view_is

pub returns-clause-within : goal.returns-clause-within
returns-clause-within c = λ params.
    let i = c.self.inside in
    subst (λ n. n ≤ limits.most limits.Locals) (counted params i.first.items i.later i.runs.items i.count c.self.invariant.laid_out ∙ ap (λ k. length (locals_with params k)) c.self.view_is) c.self.invariant.within
