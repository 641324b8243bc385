use Rattle.std.proofs.Common.{length, refl, ap, ◌∙◌, arith}
use Rattle.std.proofs.lemmas.List.{map-id}
use Rattle.wasm_smith_definitions.proofs.FrameLaws.{kept_by}
use Rattle.wasm_smith_definitions.specs.Steps.{IsStep}
use Rattle.wasm_smith_externs.specs.Wanted.{of_tag}
use Rattle.wasm_smith_module.proofs.front.draw_tags.Goals as goal

pub tags-requires : goal.tags-requires
tags-requires c =
    let config = c.args.config.now in
    let step : IsStep config of_tag c.args.spaces.now c.shape_tags.new.spaces c.in_ok-own.own.items = c.in_ok-own.ensures.step config c.requires.kept in
    record { few = omega (arith, ap length (kept_by (λ k. k.types) config of_tag c.args.spaces.now c.shape_tags.new.spaces c.in_ok-own.own.items (λ k x. refl) step), c.requires.few) }

pub returns-clause-filled : goal.returns-clause-filled
returns-clause-filled c = record {
  own = c.in_ok-own.own.items;
  drawn = c.in_ok-drawn.drawn.items;
  parts = rw c.deref.ensures.value at c.in_ok-all.ensures;
  between = c.shape_tags.new.spaces;
  after = c.args.unstructured.now;
  are = map-id c.in_ok-own.own.items ∙ c.in_ok-own.ensures.types;
  first = c.in_ok-own.ensures.step c.args.config.now c.requires.kept;
  grown = c.in_ok-drawn.ensures.grown;
  alone = λ none. refl;
}
