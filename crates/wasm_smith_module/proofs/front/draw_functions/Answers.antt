use Rattle.std.proofs.Common.{◌≡◌, ◌++◌, [], ℕ, List, length, map, refl, ap, ◌∙◌, subst, arith}
use Rattle.std.proofs.lemmas.List.{map-id}
use Rattle.wasm_smith_definitions.proofs.FrameLaws.{kept_by}
use Rattle.wasm_smith_definitions.specs.FunctionTypes.{function_indexes}
use Rattle.wasm_smith_definitions.specs.Steps.{IsStep}
use Rattle.wasm_smith_externs.specs.Wanted.{functions_at, of_function}
use Rattle.wasm_smith_validity.specs.Spaces.{Spaces, functions_of, spaces_after_all}
use Rattle.wasm_smith_module.proofs.front.draw_functions.Goals as goal

pub functions-requires : goal.functions-requires
functions-requires c =
    let config = c.args.config.now in
    let step : IsStep config of_function c.args.spaces.now c.shape_functions.new.spaces c.in_ok-own.own.items = c.in_ok-own.ensures.step config (λ features is. c.requires.kept) in
    record { few = omega (arith, ap length (kept_by (λ k. k.types) config of_function c.args.spaces.now c.shape_functions.new.spaces c.in_ok-own.own.items (λ k x. refl) step), c.requires.few) }

pub returns-clause-filled : goal.returns-clause-filled
returns-clause-filled c = record {
  own = c.in_ok-own.own.items;
  drawn = c.in_ok-drawn.drawn.items;
  parts = rw c.deref.ensures.value at c.in_ok-all.ensures;
  between = c.shape_functions.new.spaces;
  after = c.args.unstructured.now;
  are = map-id c.in_ok-own.own.items ∙ c.in_ok-own.ensures.types;
  first = c.in_ok-own.ensures.step c.args.config.now (λ features is. c.requires.kept);
  grown = c.in_ok-drawn.ensures.grown;
  alone = λ none. refl;
}

pub returns-clause-drawn : goal.returns-clause-drawn
returns-clause-drawn c none =
    let config = c.args.config.now in
    let step : IsStep config of_function c.args.spaces.now c.shape_functions.new.spaces c.in_ok-own.own.items = c.in_ok-own.ensures.step config (λ features is. c.requires.kept) in
    let own : c.in_ok-own.own.items ≡ [] = c.in_ok-own.ensures.types ∙ none in
    let same : c.shape_functions.new.spaces ≡ c.args.spaces.now = step.known ∙ ap (λ xs. spaces_after_all c.args.spaces.now (map of_function xs)) own in
    let all : c.in_ok-all.all.items ≡ c.in_ok-drawn.drawn.items = (rw c.deref.ensures.value at c.in_ok-all.ensures) ∙ ap (λ xs. xs ++ c.in_ok-drawn.drawn.items) own in
    rw all (subst (λ (k : Spaces). ◌≡◌ {A = List ℕ × List ℕ} (functions_at config (function_indexes 0 k.types) (length (functions_of k)) c.args.unstructured.now) (c.in_ok-drawn.drawn.items, c.functions.new.unstructured)) same c.in_ok-drawn.ensures.drawn)
