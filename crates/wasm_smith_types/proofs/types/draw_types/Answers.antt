use Rattle.std.proofs.Common.{◌-◌, ap, ◌∙◌}
use Rattle.std.proofs.lemmas.Result.{err_from_is_err_and}
use Rattle.wasm_spec.specs.Features.{Features}
use Rattle.wasm_smith_config.specs.Rows.{switches}
use Rattle.wasm_smith_config.proofs.UnionLaws.{grown_by, flags}
use Rattle.wasm_smith_types.specs.Making.{made}
use Rattle.wasm_smith_types.specs.Permitted.{Suits, SuitsValues}
use Rattle.wasm_smith_types.proofs.GivenDraws.{beside_with_gc, beside_without_gc, past_beside_with_gc, past_beside_without_gc}
use Rattle.wasm_smith_types.proofs.GroupedLaws.{small_members}
use Rattle.wasm_smith_types.proofs.OfferingLaws.{offers_suit, values_suit}
use Rattle.wasm_smith_types.proofs.PastLaws.{some_groups}
use Rattle.wasm_smith_types.proofs.types.draw_types.Goals as goal

pub returns-in_err-made-clause-too_many_drawn : goal.returns-in_err-made-clause-too_many_drawn
returns-in_err-made-clause-too_many_drawn c =
    let p = err_from_is_err_and c.from_residual.result c.from_residual.ensures.1 in
    let config = c.args.config.now in
    let fewest = c.saturating_sub-min.ensures ∙ ap (λ n. config.min_types - n) c.requires.given in
    let greatest = c.saturating_sub-max.ensures ∙ ap (λ n. config.max_types - n) c.requires.given in
    rw (p.1, p.2) (λ is. past_beside_with_gc config _ _ fewest greatest c.args.unstructured.now c.args.most c.if-config.true
    (rw c.requires.offered at (c.in_err-made.ensures.too_many_drawn is)))

pub returns-then-config-clause-valid : goal.returns-then-config-clause-valid
returns-then-config-clause-valid c =
    λ features are. (c.in_ok-made.ensures.done features (rw c.requires.offered (offers_suit c.args.config.now features are c.if-config.true))).valid

pub returns-then-config-clause-small : goal.returns-then-config-clause-small
returns-then-config-clause-small c =
    let config = c.args.config.now in
    let features : Features = grown_by 0 (switches config) in
    let suits : Suits features c.args.offered.now = rw c.requires.offered (offers_suit config features (flags config) c.if-config.true) in
    small_members features c.in_ok-made.made (c.in_ok-made.ensures.done features suits)

pub returns-then-config-clause-some : goal.returns-then-config-clause-some
returns-then-config-clause-some c =
    some_groups c.in_ok-made.made.sizes.items (made c.in_ok-made.made) c.in_ok-made.ensures.whole c.in_ok-made.ensures.some

pub returns-then-config-clause-drawn : goal.returns-then-config-clause-drawn
returns-then-config-clause-drawn c =
    let config = c.args.config.now in
    let fewest = c.saturating_sub-min.ensures ∙ ap (λ n. config.min_types - n) c.requires.given in
    let greatest = c.saturating_sub-max.ensures ∙ ap (λ n. config.max_types - n) c.requires.given in
    beside_with_gc config _ _ fewest greatest c.args.unstructured.now _ _ c.if-config.true (rw c.requires.offered at c.in_ok-made.ensures.drawn)

pub returns-in_err-made-2-clause-too_many_drawn : goal.returns-in_err-made-2-clause-too_many_drawn
returns-in_err-made-2-clause-too_many_drawn c =
    let p = err_from_is_err_and c.from_residual-in_err-made-2.result c.from_residual-in_err-made-2.ensures.1 in
    let config = c.args.config.now in
    let fewest = c.saturating_sub-min.ensures ∙ ap (λ n. config.min_types - n) c.requires.given in
    let greatest = c.saturating_sub-max.ensures ∙ ap (λ n. config.max_types - n) c.requires.given in
    rw (p.1, p.2) (λ is. past_beside_without_gc config _ _ fewest greatest c.args.unstructured.now c.args.most c.if-config.false
    (rw c.requires.offered at (c.in_err-made-2.ensures.too_many_drawn is)))

pub returns-clause-valid : goal.returns-clause-valid
returns-clause-valid c = λ features are. (c.in_ok-made-2.ensures.done features (rw c.requires.offered (values_suit c.args.config.now features are))).valid

pub returns-clause-small : goal.returns-clause-small
returns-clause-small c =
    let config = c.args.config.now in
    let features : Features = grown_by 0 (switches config) in
    let suits : SuitsValues features c.args.offered.now = rw c.requires.offered (values_suit config features (flags config)) in
    small_members features c.in_ok-made-2.made (c.in_ok-made-2.ensures.done features suits)

pub returns-clause-some : goal.returns-clause-some
returns-clause-some c =
    some_groups c.in_ok-made-2.made.sizes.items (made c.in_ok-made-2.made) c.in_ok-made-2.ensures.whole c.in_ok-made-2.ensures.some

pub returns-clause-drawn : goal.returns-clause-drawn
returns-clause-drawn c =
    let config = c.args.config.now in
    let fewest = c.saturating_sub-min.ensures ∙ ap (λ n. config.min_types - n) c.requires.given in
    let greatest = c.saturating_sub-max.ensures ∙ ap (λ n. config.max_types - n) c.requires.given in
    beside_without_gc config _ _ fewest greatest c.args.unstructured.now _ _ (made c.in_ok-made-2.made) c.if-config.false c.in_ok-made-2.ensures.singles
    (rw c.requires.offered at c.in_ok-made-2.ensures.drawn)
