use Rattle.std.proofs.Common.{◌≤◌, ◌<◌, ◌∙◌, ◌∷◌, [], ap, refl, rules, subst, tests}
use Rattle.std.proofs.Math.Nat.{not-le_of_lt}
use Rattle.wasm_core_read.specs.Reading.{unsigned_at}
use Rattle.wasm_validity.specs.Context.{with_functions}
use Rattle.wasmparser_entries.specs.Lists.{functions_of}
use Rattle.wasmparser_module_state.proofs.DeclaredItems.{all_declared, each_alone, may_declare, none_declared, one_declared}
use Rattle.wasmparser_module_state.proofs.ReadItems.{all_judged, never_unread, one_broken}
use Rattle.wasmparser_module_state.specs.Judging.{MayDeclare}
use Rattle.wasmparser_module_state.specs.State.{members}
use Rattle.wasmparser_module_state.proofs.elements.add_functions.Goals as goal

pub items-init : goal.items-init
items-init c =
    rw c.into_iter-items.ensures (none_declared (unsigned_at 32) (λ function. function < c.args.count) (λ function. function ∷ []) (functions_of c.args.functions.left) (members c.args.declared.now) _ c.requires.read, refl)

pub returns-in_err-function-clause-judged : goal.returns-in_err-function-clause-judged
returns-in_err-function-clause-judged c =
    let n = rw c.in_err-function.was at c.in-Some.ensures.steps in
    absurd (never_unread _ _ _ _ _ c.items.invariant.0.judged n.0)

pub returns-then-function-count-clause-judged : goal.returns-then-function-count-clause-judged
returns-then-function-count-clause-judged c =
    let n = rw c.in_ok-function.was at c.in-Some.ensures.steps in
    let past : c.args.count ≤ c.in_ok-function.function = search (rules, tests) in
    rw (c.refusal.ensures) (one_broken _ _ _ _ _ _ _ c.items.invariant.0.judged n.0 (λ lt. not-le_of_lt lt past), refl)

pub items-preserved : goal.items-preserved
items-preserved c =
    let n = rw c.in_ok-function.was at c.in-Some.ensures.steps in (
      one_declared (unsigned_at 32) (λ function. function < c.args.count) (λ function. function ∷ []) (functions_of c.args.functions.left) (members c.args.declared.now) (members c.items.declared) (members c.insert.new.self)
          _ _ _ _ c.items.invariant.0 n.0 (search (rules, tests)) c.insert.ensures.added,
      c.insert.ensures.room ∙ c.items.invariant.1,
    )

pub returns-clause-judged : goal.returns-clause-judged
returns-clause-judged c = all_judged _ _ _ _ c.items.invariant.0.judged c.in_default.ensures.steps.0

pub returns-clause-declared : goal.returns-clause-declared
returns-clause-declared c =
    all_declared (unsigned_at 32) (λ function. function < c.args.count) (λ function. function ∷ []) (functions_of c.args.functions.left) (members c.args.declared.now) (members c.items.declared) _ c.items.invariant.0 c.in_default.ensures.steps.0
    ∙ ap (λ functions. with_functions (members c.args.declared.now) functions) (each_alone (functions_of c.args.functions.left))

pub returns-in_err-function-clause-between : goal.returns-in_err-function-clause-between
returns-in_err-function-clause-between c =
    subst (λ functions. MayDeclare functions (members c.args.declared.now) (members c.items.declared)) (each_alone (functions_of c.args.functions.left))
    (may_declare (unsigned_at 32) (λ function. function < c.args.count) (λ function. function ∷ []) (functions_of c.args.functions.left) (members c.args.declared.now) (members c.items.declared) _ c.items.invariant.0)

pub returns-then-function-count-clause-between : goal.returns-then-function-count-clause-between
returns-then-function-count-clause-between c =
    subst (λ functions. MayDeclare functions (members c.args.declared.now) (members c.items.declared)) (each_alone (functions_of c.args.functions.left))
    (may_declare (unsigned_at 32) (λ function. function < c.args.count) (λ function. function ∷ []) (functions_of c.args.functions.left) (members c.args.declared.now) (members c.items.declared) _ c.items.invariant.0)

pub returns-clause-between : goal.returns-clause-between
returns-clause-between c =
    subst (λ functions. MayDeclare functions (members c.args.declared.now) (members c.items.declared)) (each_alone (functions_of c.args.functions.left))
    (may_declare (unsigned_at 32) (λ function. function < c.args.count) (λ function. function ∷ []) (functions_of c.args.functions.left) (members c.args.declared.now) (members c.items.declared) _ c.items.invariant.0)
