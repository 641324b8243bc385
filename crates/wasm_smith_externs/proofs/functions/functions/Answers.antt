use Rattle.std.proofs.Common.{◌≡◌, ◌<◌, ℕ, List, inr, true, false, not, length, length-append, [], ◌∷◌, arith, refl, sym, ap, ◌∙◌, vec_len, if◌then◌else◌}
use Rattle.std.specs.Prelude.{◌==◌}
use Rattle.wasm_smith_types.specs.Growing.{grows_at}
use Rattle.wasm_smith_definitions.proofs.StepLaws.{grow_begins, grow_goes_on}
use Rattle.wasm_smith_validity.specs.Spaces.{Spaces, functions_of}
use Rattle.wasm_smith_definitions.specs.FunctionTypes.{function_indexes, is_function}
use Rattle.wasm_smith_externs.proofs.GrowLaws.{can_grow, too_few, functions_begin, functions_go_on, functions_end, one_more_function}
use Rattle.wasm_smith_definitions.proofs.IndexLaws.{IsPlace, all_places, index_of, some_of}
use Rattle.wasm_smith_externs.proofs.TypeLaws.{function_allowed}
use Rattle.wasm_smith_externs.specs.Wanted.{wanted_functions}
use Rattle.wasm_smith_externs.proofs.functions.functions.Goals as goal

pub grow-init : goal.grow-init
grow-init c = record {
  indexes = rw c.types.ensures at c.in_ok-indexes.ensures;
  types = refl;
  counted = rw c.new-own.ensures.items (omega arith);
  taken = omega arith;
  growing = rw c.new-own.ensures.items (grow_begins _ _ _ _ _ _);
  drawn = functions_begin c.args.config.now (function_indexes 0 c.args.spaces.now.types) (length (functions_of c.args.spaces.now)) c.args.unstructured.now _ c.new-own.ensures.items;
}

pub grow-preserved : goal.grow-preserved
grow-preserved c =
    let config = c.args.config.now in
    let spaces = c.grow.spaces in
    let indexes = function_indexes 0 c.grow.spaces.types in
    let count = length (functions_of c.grow.spaces) in
    let len : vec_len c.in_ok-indexes.indexes ≡ length c.in_ok-indexes.indexes.items = c.in_ok-indexes.indexes.ok.0 in
    let more : (if not (length (function_indexes 0 c.grow.spaces.types) == 0) then grows_at c.args.config.now.min_funcs c.args.config.now.max_funcs (length (functions_of c.grow.spaces)) c.grow.unstructured else (false, c.grow.unstructured)) ≡ (true, c.grows_if.new.unstructured) =
    rw (c.is_empty.ensures, len, c.grow.invariant.indexes, c.count_of.ensures) at c.grow-test.ensures.exact in
    let drawn = rw (c.deref.ensures.value, c.grow.invariant.indexes) at c.choose_index-index.ensures.drawn in
    let place = index_of (IsPlace (λ type. is_function type.composite_type) c.grow.spaces.types) indexes c.grows_if.new.unstructured c.choose_index-index.new.unstructured c.choose_index-index.result
    (some_of (length indexes) (can_grow (not (length indexes == 0)) config.min_funcs config.max_funcs count c.grow.unstructured c.grows_if.new.unstructured more))
    (all_places (λ type. is_function type.composite_type) c.grow.spaces.types) drawn in
    let types = ap (λ (k : Spaces). k.types) c.in_ok-push_function.ensures.added in
    let one = one_more_function c.grow.spaces c.choose_index-index.result in
    let next = ap (λ (k : Spaces). length (functions_of k)) c.in_ok-push_function.ensures.added ∙ one in
    record {
      indexes = c.grow.invariant.indexes ∙ sym (ap (function_indexes 0) types);
      types = types ∙ c.grow.invariant.types;
      counted = omega (arith, next, c.grow.invariant.counted, ap length c.in_ok-push_index.ensures, length-append c.grow.own.items (c.choose_index-index.result ∷ []));
      taken = omega arith;
      growing = grow_goes_on _ _ _ _ _ _ _ _ _ _ c.choose_index-index.result _ _ _ c.grow.invariant.growing more (rw c.count_of.ensures at (c.grow-test.ensures.room refl))
          (function_allowed config c.grow.spaces c.choose_index-index.result place) tt c.in_ok-push_function.ensures.added one c.in_ok-push_index.ensures;
      drawn = functions_go_on config (function_indexes 0 c.args.spaces.now.types) c.grow.own.items c.push_index.new.indexes.items count (length (functions_of c.push_function.new.self)) c.grow.unstructured
          c.grows_if.new.unstructured c.choose_index-index.new.unstructured c.choose_index-index.result _ c.in_ok-push_index.ensures next (rw c.grow.invariant.types at more) (rw c.grow.invariant.types at drawn)
          c.grow.invariant.drawn;
    }

pub returns-clause-drawn : goal.returns-clause-drawn
returns-clause-drawn c =
    let len : vec_len c.in_ok-indexes.indexes ≡ length c.in_ok-indexes.indexes.items = c.in_ok-indexes.indexes.ok.0 in
    let last = rw (c.is_empty.ensures, len, c.grow.invariant.indexes, c.count_of.ensures) at c.grow-test.ensures.exact in
    functions_end c.args.config.now (function_indexes 0 c.args.spaces.now.types) c.grow.own.items (length (functions_of c.grow.spaces)) c.grow.unstructured c.grows_if.new.unstructured _
    (rw c.grow.invariant.types at last) c.grow.invariant.drawn

pub returns-then-count_of-config-clause-refused : goal.returns-then-count_of-config-clause-refused
returns-then-count_of-config-clause-refused c =
    let config = c.args.config.now in
    let len : vec_len c.in_ok-indexes.indexes ≡ length c.in_ok-indexes.indexes.items = c.in_ok-indexes.indexes.ok.0 in
    let last = rw (c.is_empty.ensures, len, c.grow.invariant.indexes, c.count_of.ensures) at c.grow-test.ensures.exact in
    let few : length (functions_of c.grow.spaces) < c.args.config.now.min_funcs = rw c.count_of-2.ensures at c.if-count_of-config.true in
    let drawn = functions_end config (function_indexes 0 c.args.spaces.now.types) c.grow.own.items (length (functions_of c.grow.spaces)) c.grow.unstructured c.grows_if.new.unstructured _
    (rw c.grow.invariant.types at last) c.grow.invariant.drawn in
    let many = ap (λ (d : List ℕ × List ℕ). length d.0) drawn in
    inr (refl, too_few (wanted_functions config) c.grow.spaces c.grow.unstructured c.grows_if.new.unstructured last few, omega (arith, few, many, c.grow.invariant.counted))
