use Rattle.std.proofs.Common.{ℕ, Bool, ap, refl, subst, sym, ◌∙◌}
use Rattle.std.specs.List.{flat_map}
use Rattle.std.proofs.lemmas.Result.{err_from_is_err_and}
use Rattle.wasm_core_read.specs.ConstantReading.{expression_at}
use Rattle.wasm_spec.specs.TypeReferences.{val_map}
use Rattle.wasm_validity.specs.ConstantTyping.{IsConstantFor}
use Rattle.wasm_validity.specs.Context.{Context, named_in}
use Rattle.wasmparser_entries.specs.ConstExprs.{expression_of}
use Rattle.wasmparser_constants.proofs.TakingLaws.{refuses_on}
use Rattle.wasmparser_entries.specs.Lists.{expressions_of}
use Rattle.wasmparser_module_types.specs.ModuleTypes.{KnownTypes}
use Rattle.wasmparser_module_state.proofs.DeclaredItems.{all_declared, may_declare, none_declared, one_declared}
use Rattle.wasmparser_module_state.proofs.NamedFunctions.{declares_more, initialiser_also, initialiser_before, stays_so}
use Rattle.wasmparser_module_state.proofs.ReadItems.{all_judged, never_unread, one_broken}
use Rattle.wasmparser_module_state.specs.Judging.{MayDeclare}
use Rattle.wasmparser_module_state.specs.State.{context, features_of, members}
use Rattle.wasmparser_types.specs.Index.{number_of}
use Rattle.wasmparser_types.specs.ValTypes.{val_type}
use Rattle.wasmparser_module_state.proofs.module_state.ModuleState.add_expressions.Goals as goal

pub items-init : goal.items-init
items-init c =
    rw c.into_iter-items.ensures (
      none_declared expression_at (IsConstantFor (features_of c.args.self.now) (context c.args.self.now) (val_map number_of (val_type c.args.ty.now))) named_in (expressions_of c.args.expressions.left) (members c.args.self.now.declared) _ c.requires.read,
      refl,
      refl,
      c.requires.room,
    )

pub returns-in_err-expression-clause-judged : goal.returns-in_err-expression-clause-judged
returns-in_err-expression-clause-judged c =
    let n = rw c.in_err-expression.was at c.in-Some.ensures.steps in
    absurd (never_unread _ _ _ _ _ c.items.invariant.0.judged n.0)

pub returns-in_err-expression-clause-same : goal.returns-in_err-expression-clause-same
returns-in_err-expression-clause-same c = c.items.invariant.1

pub returns-in_err-expression-clause-types : goal.returns-in_err-expression-clause-types
returns-in_err-expression-clause-types c = c.items.invariant.2

pub returns-in_err-expression-clause-room : goal.returns-in_err-expression-clause-room
returns-in_err-expression-clause-room c = c.items.invariant.3

pub returns-clause-judged : goal.returns-clause-judged
returns-clause-judged c = all_judged _ _ _ _ c.items.invariant.0.judged c.in_default.ensures.steps.0

pub returns-clause-declared : goal.returns-clause-declared
returns-clause-declared c =
    all_declared expression_at (IsConstantFor (features_of c.args.self.now) (context c.args.self.now) (val_map number_of (val_type c.args.ty.now))) named_in (expressions_of c.args.expressions.left) (members c.args.self.now.declared)
    (members c.items.self.declared) _ c.items.invariant.0 c.in_default.ensures.steps.0

pub items-preserved : goal.items-preserved
items-preserved c =
    let n = rw c.in_ok-expression.was at c.in-Some.ensures.steps in
    let was = c.in_ok-add_initialiser.ensures in
    let type = val_map number_of (val_type c.args.ty.now) in
    let expression = expression_of c.in_ok-expression.expression.rest in
    let before = context c.args.self.now in
    let so = subst (λ (cx : Context). IsConstantFor (features_of c.items.self) cx type expression) c.items.invariant.1 was.judged in
    let as_first = subst (λ (t : KnownTypes). IsConstantFor t.features (record before { declared = members c.items.self.declared }) type expression) c.items.invariant.2 so in (
      one_declared expression_at (IsConstantFor (features_of c.args.self.now) before type) named_in (expressions_of c.args.expressions.left) (members c.args.self.now.declared) (members c.items.self.declared)
          (members c.add_initialiser.new.self.declared) _ _ _ _ c.items.invariant.0 n.0 (initialiser_also (features_of c.args.self.now) before (members c.items.self.declared) type expression as_first)
          (ap (λ (cx : Context). cx.declared) was.declared),
      declares_more before (context c.items.self) (context c.add_initialiser.new.self) _ c.items.invariant.1 was.declared,
      was.types ∙ c.items.invariant.2,
      was.room,
    )

pub returns-in_err-add_initialiser-clause-judged : goal.returns-in_err-add_initialiser-clause-judged
returns-in_err-add_initialiser-clause-judged c =
    let n = rw c.in_ok-expression.was at c.in-Some.ensures.steps in
    let refuses = c.in_err-add_initialiser.ensures.judged in
    let p = err_from_is_err_and c.from_residual-in_err-add_initialiser.result c.from_residual-in_err-add_initialiser.ensures.1 in
    let type = val_map number_of (val_type c.args.ty.now) in
    let expression = expression_of c.in_ok-expression.expression.rest in
    let before = context c.args.self.now in
    rw (p.1, p.2)
    (refuses_on _ _ _
    (λ not. one_broken _ _ _ _ _ _ _ c.items.invariant.0.judged n.0
    (λ holds. not (subst (λ (cx : Context). IsConstantFor (features_of c.items.self) cx type expression) (sym c.items.invariant.1)
    (subst (λ (t : KnownTypes). IsConstantFor t.features (record before { declared = members c.items.self.declared }) type expression) (sym c.items.invariant.2)
    (initialiser_before (features_of c.args.self.now) before (members c.items.self.declared) type expression holds)))))
    (λ begins. tt) refuses)

pub returns-in_err-add_initialiser-clause-same : goal.returns-in_err-add_initialiser-clause-same
returns-in_err-add_initialiser-clause-same c =
    stays_so (context c.args.self.now) (context c.items.self) (context c.add_initialiser.new.self) c.items.invariant.1 c.in_err-add_initialiser.ensures.refused

pub returns-in_err-expression-clause-between : goal.returns-in_err-expression-clause-between
returns-in_err-expression-clause-between c =
    may_declare expression_at (IsConstantFor (features_of c.args.self.now) (context c.args.self.now) (val_map number_of (val_type c.args.ty.now))) named_in (expressions_of c.args.expressions.left) (members c.args.self.now.declared)
    (members c.items.self.declared) _ c.items.invariant.0

pub returns-clause-between : goal.returns-clause-between
returns-clause-between c =
    may_declare expression_at (IsConstantFor (features_of c.args.self.now) (context c.args.self.now) (val_map number_of (val_type c.args.ty.now))) named_in (expressions_of c.args.expressions.left) (members c.args.self.now.declared)
    (members c.items.self.declared) _ c.items.invariant.0

pub returns-in_err-add_initialiser-clause-between : goal.returns-in_err-add_initialiser-clause-between
returns-in_err-add_initialiser-clause-between c =
    subst (λ (set : ℕ → Bool). MayDeclare (flat_map named_in (expressions_of c.args.expressions.left)) (members c.args.self.now.declared) set) (sym (ap (λ (cx : Context). cx.declared) c.in_err-add_initialiser.ensures.refused))
    (may_declare expression_at (IsConstantFor (features_of c.args.self.now) (context c.args.self.now) (val_map number_of (val_type c.args.ty.now))) named_in (expressions_of c.args.expressions.left) (members c.args.self.now.declared)
    (members c.items.self.declared) _ c.items.invariant.0)
