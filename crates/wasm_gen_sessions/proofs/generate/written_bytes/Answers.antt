use Rattle.std.proofs.Common.{subst}
use Rattle.wasm_smith_module.specs.Measured.{IsPassed}
use Rattle.wasm_smith_validity.specs.Made.{Made}
use Rattle.wasm_gen_sessions.specs.Written.{CanBeStated, PassesNoLimit}
use Rattle.wasm_gen_sessions.proofs.GenerateLaws.{no_limit, past_limit, written}
use Rattle.wasm_gen_sessions.proofs.generate.written_bytes.Goals as goal

pub returns-in-Some-clause-refused : goal.returns-in-Some-clause-refused
returns-in-Some-clause-refused c = λ config made.
    let found = rw c.in-Some.is at c.in_ok-limit.ensures.passed in
    past_limit c.passed.ensures config c.args.made.now c.in-Some.limit made (subst (λ (m : Made). IsPassed m c.in-Some.limit) c.items-items.ensures.items found)

pub returns-clause-written : goal.returns-clause-written
returns-clause-written c = λ config made.
    written c.made_is_generated.ensures config c.args.made.now c.in_ok-to_bytes.field-0.items made
    (subst (λ (m : Made). CanBeStated m) c.items-items.ensures.items c.items_are_small.ensures)
    (subst (λ (m : Made). PassesNoLimit m) c.items-items.ensures.items (no_limit _ (rw c.in_default.is at c.in_ok-limit.ensures.within) (rw c.in_default.is at c.in_ok-limit.ensures.short))) c.in_ok-to_bytes.ensures.written
