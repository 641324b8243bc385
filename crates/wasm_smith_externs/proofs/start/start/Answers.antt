use Rattle.std.proofs.Common.{◌≡◌, false, length, sym, ◌∙◌, vec_len}
use Rattle.std.specs.Prelude.{◌==◌}
use Rattle.wasm_smith_validity.specs.Rules.{is_unit}
use Rattle.wasm_smith_validity.specs.Spaces.{functions_of, func_type_at}
use Rattle.wasm_smith_externs.specs.Wanted.{start_functions}
use Rattle.wasm_smith_definitions.proofs.IndexLaws.{IsPlace, all_places, index_of, some_unless}
use Rattle.wasm_smith_externs.proofs.TypeLaws.{start_allowed}
use Rattle.wasm_smith_externs.proofs.start.start.Goals as goal

pub returns-clause-step : goal.returns-clause-step
returns-clause-step c =
    let spaces = c.args.spaces.now in
    let functions = c.in_ok-functions.functions in
    let len : vec_len functions ≡ length functions.items = functions.ok.0 in
    let none : (length (start_functions spaces) == 0) ≡ false = rw (len, c.in_ok-functions.ensures) at (sym c.is_empty.ensures ∙ c.if-is_empty.false) in
    start_allowed c.args.config.now spaces c.choose_index.result
    (index_of (IsPlace (λ index. is_unit (func_type_at spaces.types index)) (functions_of spaces)) (start_functions spaces) _ _ c.choose_index.result
    (some_unless (length (start_functions spaces)) none) (all_places (λ index. is_unit (func_type_at spaces.types index)) (functions_of spaces))
    (rw (c.deref.ensures.value, c.in_ok-functions.ensures) at c.choose_index.ensures.drawn))
