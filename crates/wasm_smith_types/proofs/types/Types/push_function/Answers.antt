use Rattle.std.proofs.Common.{◌++◌, ◌∷◌, [], ap, sym, ◌∙◌, true}
use Rattle.wasm_core_types.specs.SubTypes.{composite_type}
use Rattle.wasm_spec.specs.Types as spec
use Rattle.wasm_smith_types.specs.Drawing.{function_at, function_type_at}
use Rattle.wasm_smith_types.specs.Making.{made}
use Rattle.wasm_smith_types.proofs.GroupedLaws.{adds_function, singles_more}
use Rattle.wasm_smith_types.proofs.MakingLaws.{plain_height}
use Rattle.wasm_smith_types.proofs.types.Types.push_function.Goals as goal

pub push-requires-clause-height : goal.push-requires-clause-height
push-requires-clause-height c = plain_height (made c.args.self.now) true (composite_type c.in_ok-composite_type.composite_type)

pub returns-clause-group : goal.returns-clause-group
returns-clause-group c =
    let is = ap (λ (d : _ × _). d.0) c.in_ok-composite_type.ensures.drawn in
    let added =
    c.in_ok-push.ensures.added
    ∙ ap (λ (x : spec.CompositeType _). made c.args.self.now ++ record { is_final = true; supertypes = []; composite_type = x } ∷ []) (sym is) in
    adds_function c.args.offers.now c.args.unstructured.now c.args.self.now c.push.new.self c.push-2.new.self added c.in_ok-push.ensures.sizes c.in_ok-push.ensures.candidates c.in_ok-push-2.ensures.items c.requires.whole

pub returns-clause-added : goal.returns-clause-added
unfolding function_type_at
returns-clause-added c =
    let is = ap (λ (d : _ × _). d.0) c.in_ok-composite_type.ensures.drawn in
    c.in_ok-push.ensures.added
    ∙ ap (λ (x : spec.CompositeType _). made c.args.self.now ++ record { is_final = true; supertypes = []; composite_type = x } ∷ []) (sym is)

pub returns-clause-left : goal.returns-clause-left
unfolding function_type_at
returns-clause-left c = sym (ap (λ (d : _ × _). d.1) c.in_ok-composite_type.ensures.drawn)

pub returns-clause-groups : goal.returns-clause-groups
unfolding function_type_at
returns-clause-groups c =
    let is = ap (λ (d : _ × _). d.0) c.in_ok-composite_type.ensures.drawn in
    let added =
    c.in_ok-push.ensures.added
    ∙ ap (λ (x : spec.CompositeType _). made c.args.self.now ++ record { is_final = true; supertypes = []; composite_type = x } ∷ []) (sym is) in
    singles_more c.args.self.now (record { types = c.push.new.self.types; sizes = c.push-2.new.self; candidates = c.push.new.self.candidates })
    (record { is_final = true; supertypes = []; composite_type = (function_at c.args.offers.now 0 c.args.unstructured.now).0 }) added
    (c.in_ok-push-2.ensures.items ∙ ap (λ ns. ns ++ 1 ∷ []) c.in_ok-push.ensures.sizes) c.requires.whole
