use Rattle.std.proofs.Common.{◌≡◌, ap, append-nil, subst, sym, ◌∙◌, ◌+◌, ◌++◌, drop, get_or}
use Rattle.std.proofs.lemmas.List.{drop_all, drop_more}
use Rattle.wasm_smith_definitions.proofs.OwnStepLaws.{known_more, one_moved}
use Rattle.wasm_smith_externs.specs.Wanted.{of_tag}
use Rattle.wasm_smith_externs.proofs.OwnTypeLaws.{tags_step}
use Rattle.wasm_smith_externs.proofs.tags.shape_tags.Goals as goal

pub loop-index-preserved : goal.loop-index-preserved
loop-index-preserved c =
    let i = c.loop-index.index-index in
    let all = c.args.types.now in
    let made = c.loop-index.own.items in
    let first = get_or c.args.types.now i 0 in
    record {
      types = one_moved made _ (drop (i + 1) all) all first (subst (λ left. c.loop-index.own.items ++ left ≡ c.args.types.now) (drop_more all i 0 c.loop-index-test.true) c.loop-index.invariant.types) c.in_ok-push_index.ensures;
      known = known_more of_tag c.args.spaces.now c.loop-index.spaces c.push_tag.new.self made _ first c.loop-index.invariant.known c.in_ok-push_tag.ensures.added c.in_ok-push_index.ensures;
    }

pub returns-clause-step : goal.returns-clause-step
returns-clause-step c = λ config kept.
    let made = c.loop-index.own.items in
    let all = c.args.types.now in
    let same = sym (append-nil made) ∙ sym (ap (λ left. made ++ left) (drop_all c.loop-index.index-index all c.loop-index-test.false)) ∙ c.loop-index.invariant.types in
    tags_step config c.args.spaces.now c.loop-index.spaces made all same c.loop-index.invariant.known kept
