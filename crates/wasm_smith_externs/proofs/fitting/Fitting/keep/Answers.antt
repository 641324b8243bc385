use Rattle.std.proofs.Common.{◌≡◌, List, rules, ap, subst, ◌∙◌}
use Rattle.std.specs.List.{filter}
use Rattle.std.proofs.lemmas.Fn.{filter_same}
use Rattle.wasm_smith_externs.specs.Fitting.{fits}
use Rattle.wasm_smith_externs.specs.declared.fitting.SizedItem.{SizedItem}
use Rattle.wasm_smith_externs.proofs.FittingLaws.{all_fit}
use Rattle.wasm_smith_externs.proofs.fitting.Fitting.keep.Goals as goal

pub returns-then-self-left : goal.returns-then-self-left
returns-then-self-left c =
    subst (λ (items : List SizedItem). items ≡ filter (fits c.args.left) items) c.self.view_is
    (all_fit c.args.left c.self.inside.greatest c.self.inside.items.items c.if-self-left.true c.self.invariant)

pub returns : goal.returns
returns c =
    filter_same _ (fits c.args.left) _ (λ x b f' k. search rules) _ _ c.retain.ensures.filtered
    ∙ ap (filter (fits c.args.left)) c.self.view_is
