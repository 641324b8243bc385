use Rattle.wasm_spec.specs.Groups.{PassesLimit}
use Rattle.wasm_spec.specs.Limits.{Limit}
use Rattle.wasm_spec.specs.Trees.{types_of_group, unrolled}
use Rattle.wasm_spec.proofs.Places.{all_by_place}
use Rattle.wasm_validity_examples.proofs.rule_examples.limits_of_groups.Goals as goal

pub returns-clause-past : goal.returns-clause-past
returns-clause-past c = λ cx group h.
    all_by_place (λ type. (limit : Limit) → ¬ (PassesLimit unrolled type limit)) (types_of_group cx.types group)
    (λ place type at limit passes. h limit (record { place = place; type = type; at = at; passes = passes }))

pub returns-clause-not_kept : goal.returns-clause-not_kept
returns-clause-not_kept c = λ cx group limit passes kept. kept.0.types limit passes
