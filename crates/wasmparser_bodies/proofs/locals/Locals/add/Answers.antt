use Rattle.std.proofs.Common.{◌≡◌, ap, length, ◌∙◌, arith}
use Rattle.wasmparser_bodies.specs.KeptLocals.{locals_with}
use Rattle.wasmparser_bodies.proofs.LocalLaws.{counted}
use Rattle.wasmparser_bodies.proofs.locals.Locals.add.Goals as goal

pub returns-then-from-gt-MAX_WASM_FUNCTION_LOCALS-clause-limit : goal.returns-then-from-gt-MAX_WASM_FUNCTION_LOCALS-clause-limit
returns-then-from-gt-MAX_WASM_FUNCTION_LOCALS-clause-limit c = λ params e.
    let i = c.self.inside in
    let n : c.self.inside.count ≡ length (locals_with params c.args.self.now) = counted params i.first.items i.later i.runs.items i.count c.self.invariant.laid_out ∙ ap (λ k. length (locals_with params k)) c.self.view_is in
    omega (arith, n, c.from.ensures, c.from-2.ensures)

pub returns-in-Ok-clause-within : goal.returns-in-Ok-clause-within
returns-in-Ok-clause-within c = λ params passed.
    let i = c.self.inside in
    let n : c.self.inside.count ≡ length (locals_with params c.args.self.now) = counted params i.first.items i.later i.runs.items i.count c.self.invariant.laid_out ∙ ap (λ k. length (locals_with params k)) c.self.view_is in
    omega (arith, n, passed, c.from.ensures, c.from-2.ensures)

pub returns-in-Err-clause-memory : goal.returns-in-Err-clause-memory
returns-in-Err-clause-memory c = λ params e passed.
    let i = c.self.inside in
    let n : c.self.inside.count ≡ length (locals_with params c.args.self.now) = counted params i.first.items i.later i.runs.items i.count c.self.invariant.laid_out ∙ ap (λ k. length (locals_with params k)) c.self.view_is in
    omega (arith, n, passed, c.from.ensures, c.from-2.ensures)
