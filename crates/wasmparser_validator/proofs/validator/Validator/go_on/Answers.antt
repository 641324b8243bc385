use Rattle.std.proofs.Common.{◌<◌, arith, length, subst, sym}
use Rattle.wasmparser_payloads.specs.Parsing.{piece}
use Rattle.wasmparser_validator.specs.Judges.{judge}
use Rattle.wasmparser_validator.specs.Validators.{ValidatorState}
use Rattle.wasmparser_validator.proofs.JudgeLaws.{body_waited}
use Rattle.wasmparser_validator.proofs.validator.Validator.go_on.Goals as goal

pub overflow_add-self : goal.overflow_add-self
unfolding piece
overflow_add-self c =
    let waited = rw c.in-CodeSectionEntry.is at c.requires in
    let fewer = subst (λ (v : ValidatorState). (judge v).bodies < length (judge v).known.own_functions) (sym c.self.view_is) (body_waited (judge c.args.self.now) c.in-CodeSectionEntry.field-0 waited) in
    let count = rw c.state.ensures.same at c.own_function_count.ensures in
    omega (arith, fewer, count, c.own_function_count.type_inv)
