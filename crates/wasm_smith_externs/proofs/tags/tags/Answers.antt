use Rattle.std.proofs.Common.{◌≡◌, inr, true, false, not, ◌&&◌, length, length-append, refl, sym, ap, ◌∙◌, if◌then◌else◌, arith}
use Rattle.std.specs.Prelude.{◌==◌}
use Rattle.std.proofs.lemmas.Bool.{and_parts}
use Rattle.wasm_smith_types.specs.Growing.{grows_at}
use Rattle.wasm_smith_definitions.proofs.StepLaws.{grow_goes_on}
use Rattle.wasm_smith_validity.specs.Spaces.{Spaces}
use Rattle.wasm_smith_definitions.specs.FunctionTypes.{tag_indexes, is_resultless}
use Rattle.wasm_smith_externs.proofs.GrowLaws.{can_grow, too_few}
use Rattle.wasm_smith_definitions.proofs.IndexLaws.{IsPlace, all_places, index_of, some_of}
use Rattle.wasm_smith_externs.proofs.TypeLaws.{tag_allowed}
use Rattle.wasm_smith_externs.specs.Wanted.{wanted_tags}
use Rattle.wasm_smith_externs.proofs.tags.tags.Goals as goal

pub grow-preserved : goal.grow-preserved
grow-preserved c =
    let config = c.args.config.now in
    let indexes = tag_indexes 0 c.grow.spaces.types in
    let count = length c.grow.spaces.tags in
    let can = config.exceptions_enabled && not (length indexes == 0) in
    let more : (if c.args.config.now.exceptions_enabled && not (length (tag_indexes 0 c.grow.spaces.types) == 0) then grows_at c.args.config.now.min_tags c.args.config.now.max_tags (length c.grow.spaces.tags) c.grow.unstructured else (false, c.grow.unstructured)) ≡ (true, c.grows_if.new.unstructured) =
    rw (c.grow.invariant.can, c.count_of.ensures) at c.grow-test.ensures.exact in
    let both = and_parts config.exceptions_enabled (not (length indexes == 0)) (can_grow can config.min_tags config.max_tags count c.grow.unstructured c.grows_if.new.unstructured more) in
    let place = index_of (IsPlace (λ type. is_resultless type.composite_type) c.grow.spaces.types) indexes c.grows_if.new.unstructured c.choose_index-index.new.unstructured c.choose_index-index.result
    (some_of (length indexes) both.1) (all_places (λ type. is_resultless type.composite_type) c.grow.spaces.types)
    (rw (c.deref.ensures.value, c.grow.invariant.indexes) at c.choose_index-index.ensures.drawn) in
    let types = ap (λ (k : Spaces). k.types) c.in_ok-push_tag.ensures.added in
    record {
      indexes = c.grow.invariant.indexes ∙ sym (ap (tag_indexes 0) types);
      can = c.grow.invariant.can ∙ sym (ap (λ ts. c.args.config.now.exceptions_enabled && not (length (tag_indexes 0 ts) == 0)) types);
      taken = omega arith;
      growing = grow_goes_on _ _ _ _ _ _ _ _ _ _ c.choose_index-index.result _ _ _ c.grow.invariant.growing more (rw c.count_of.ensures at (c.grow-test.ensures.room refl))
          (tag_allowed config c.grow.spaces c.choose_index-index.result both.0 place) tt c.in_ok-push_tag.ensures.added (length-append _ _) c.in_ok-push_index.ensures;
    }

pub returns-then-count_of-config-clause-refused : goal.returns-then-count_of-config-clause-refused
returns-then-count_of-config-clause-refused c =
    inr (
      refl,
      too_few (wanted_tags c.args.config.now) c.grow.spaces c.grow.unstructured c.grows_if.new.unstructured (rw (c.grow.invariant.can, c.count_of.ensures) at c.grow-test.ensures.exact)
          (rw c.count_of-2.ensures at c.if-count_of-config.true),
    )
