use Rattle.std.proofs.Common.{◌≡◌, true, [], ◌∷◌, rules, sym, ◌∙◌, subst, tests}
use Rattle.wasm_spec.specs.Features.{Gc, has}
use Rattle.wasm_spec.specs.Types.{I32}
use Rattle.wasm_validity.specs.ConstantTyping.{is_defaultable}
use Rattle.wasmparser_constants.proofs.AggregateLaws.{default_array_effect, default_meant}
use Rattle.wasmparser_constants.proofs.StepLaws.{puts_pushed}
use Rattle.wasmparser_constants.specs.Operands.{meant_type}
use Rattle.wasmparser_constants.specs.Scopes.{context, features_of, known}
use Rattle.wasmparser_constants.specs.Steps.{Steps}
use Rattle.wasmparser_types.specs.ValTypes.{val_type}
use Rattle.wasmparser_constants.proofs.scope.Scope.default_array.Goals as goal

pub returns : goal.returns
returns c =
    let k = known c.args.self.now in
    let gc : has (features_of c.args.self.now) Gc ≡ true = search (rules, tests) in
    let item = meant_type k (val_type c.in-Some-Some.item) in
    let default : is_defaultable item ≡ true = default_meant k (val_type c.in-Some-Some.item) ∙ sym c.is_defaultable.ensures ∙ c.if-not-is_defaultable.false in
    subst (λ e. Steps k c.args.self.now.offset e c.args.operands.now c.push.result c.push.new.self)
    (default_array_effect (features_of c.args.self.now) (context c.args.self.now) c.args.index gc (meant_type k (val_type c.in-Some-Some.ty)) c.in-Some-Some.ensures'.same item c.in-Some-Some.ensures.same default)
    (puts_pushed k c.args.self.now.offset (I32 ∷ []) c.args.operands.now c.take.new.operands c.push.new.self (val_type c.in-Some-Some.ty) c.push.result
    c.in_ok-take.ensures.0 c.in_ok-take.ensures.1 c.in-Some-Some.ensures'.ids c.push.ensures.pushed c.push.ensures.refused)
