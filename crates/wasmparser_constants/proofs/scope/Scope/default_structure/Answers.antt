use Rattle.std.proofs.Common.{◌≡◌, true, false, [], map, refl, rules, sym, ◌∙◌, subst, tests}
use Rattle.wasm_spec.specs.Features.{Gc, has}
use Rattle.wasmparser_constants.proofs.AggregateLaws.{default_effect, defaults_meant}
use Rattle.wasmparser_constants.proofs.StepLaws.{puts_pushed}
use Rattle.wasmparser_constants.specs.Operands.{meant_type}
use Rattle.wasmparser_constants.specs.Scopes.{context, features_of, field_values, known}
use Rattle.wasmparser_constants.specs.Steps.{Steps}
use Rattle.wasmparser_types.specs.ValTypes.{val_type}
use Rattle.wasmparser_constants.proofs.scope.Scope.default_structure.Goals as goal

pub returns-then-not-are_defaultable : goal.returns-then-not-are_defaultable
returns-then-not-are_defaultable c =
    let k = known c.args.self.now in
    let gc : has (features_of c.args.self.now) Gc ≡ true = search (rules, tests) in
    let none : c.are_defaultable.result ≡ false = search (rules, tests) in
    let values = field_values c.in-Some-Some.fields.now in
    let effect-is = default_effect (features_of c.args.self.now) (context c.args.self.now) c.args.index gc (meant_type k (val_type c.in-Some-Some.ty)) c.in-Some-Some.ensures'.same (map (meant_type k) values) false
    c.in-Some-Some.ensures.same (defaults_meant k values ∙ sym c.are_defaultable.ensures ∙ none) in
    rw (c.broken-then-not-are_defaultable.ensures) rw (← effect-is) ((λ stuck. stuck), refl)

pub returns : goal.returns
returns c =
    let k = known c.args.self.now in
    let gc : has (features_of c.args.self.now) Gc ≡ true = search (rules, tests) in
    let all : c.are_defaultable.result ≡ true = search (rules, tests) in
    let values = field_values c.in-Some-Some.fields.now in
    subst (λ e. Steps k c.args.self.now.offset e c.args.operands.now c.push.result c.push.new.self)
    (default_effect (features_of c.args.self.now) (context c.args.self.now) c.args.index gc (meant_type k (val_type c.in-Some-Some.ty)) c.in-Some-Some.ensures'.same (map (meant_type k) values) true
    c.in-Some-Some.ensures.same (defaults_meant k values ∙ sym c.are_defaultable.ensures ∙ all))
    (puts_pushed k c.args.self.now.offset [] c.args.operands.now c.args.operands.now c.push.new.self (val_type c.in-Some-Some.ty) c.push.result
    refl c.requires.known c.in-Some-Some.ensures'.ids c.push.ensures.pushed c.push.ensures.refused)
