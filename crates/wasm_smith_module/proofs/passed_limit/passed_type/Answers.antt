use Rattle.std.proofs.Common.{List, ℕ, ap, sym, ◌∙◌, subst}
use Rattle.std.proofs.lemmas.List.Folds.{flat_map-map}
use Rattle.wasm_core_types.specs.Limits.{limit}
use Rattle.wasm_core_types.specs.SubTypes.{sub_type}
use Rattle.wasm_core_types.specs.declared.types.SubType.{SubType}
use Rattle.wasm_smith_module.proofs.PassedLaws.{next_numbers, no_numbers, these_numbers}
use Rattle.wasm_smith_module.proofs.passed_limit.passed_type.Goals as goal
use Rattle.wasm_smith_module.specs.Measures.{measures_of_type}
use Rattle.wasm_spec.specs.Limits.{Limit}
use Rattle.wasm_validity.specs.Rules.{Passes, are_within}

-- the numbers of a type of the code
abbrev numbers : SubType → List (Limit × ℕ)
numbers ty = measures_of_type (sub_type ty)

pub returns-in-Some-clause-passed : goal.returns-in-Some-clause-passed
returns-in-Some-clause-passed c =
    let types = c.args.types.now in
    let found = c.in-Some.limit in
    subst (Passes (limit found)) (sym (flat_map-map measures_of_type sub_type types))
    (these_numbers numbers types c.loop-ty.ty-index c.ty-item.result c.ty-item.result (limit found) c.loop-ty-test.true c.ty-item.is c.in-Some.ensures.passed
    c.loop-ty.invariant.so_far)

pub loop-ty-preserved : goal.loop-ty-preserved
loop-ty-preserved c = record {
  so_far = next_numbers numbers c.args.types.now c.loop-ty.ty-index c.ty-item.result c.ty-item.result c.loop-ty-test.true c.ty-item.is c.in_default.ensures.within
      c.loop-ty.invariant.so_far;
}

pub returns-clause-within : goal.returns-clause-within
returns-clause-within c =
    let types = c.args.types.now in
    ap are_within (flat_map-map measures_of_type sub_type types) ∙ no_numbers numbers types c.loop-ty.ty-index c.loop-ty-test.false c.loop-ty.invariant.so_far
