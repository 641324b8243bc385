use Rattle.std.proofs.Common.{◌≡◌, ◌∙◌, arith, map, sym, length}
use Rattle.std.proofs.lemmas.List.{length-map}
use Rattle.wasm_core_types.specs.Features.{feature_set}
use Rattle.wasm_core_types.specs.SubTypes.{sub_type}
use Rattle.wasm_smith_shapes.proofs.GateLaws.{alone, with_collection, without_collection}
use Rattle.wasm_smith_shapes.proofs.gates.is_allowed_group.Goals as goal

pub returns-then-types-eq1 : goal.returns-then-types-eq1
returns-then-types-eq1 c =
    c.are_allowed_subs.ensures ∙ sym (alone (feature_set c.args.features) (map sub_type c.args.types.now) (omega (arith, length-map c.args.types.now sub_type, c.if-types-eq1.true)))

pub returns-then-gc : goal.returns-then-gc
returns-then-gc c =
    let many : ¬ (length (map sub_type c.args.types.now) ≡ 1) = λ one. c.if-types-eq1.false (omega (arith, length-map c.args.types.now sub_type, one)) in
    c.are_allowed_subs-then-gc.ensures ∙ sym (with_collection (feature_set c.args.features) (map sub_type c.args.types.now) many (sym c.if-gc.ensures))

pub returns-else-gc : goal.returns-else-gc
returns-else-gc c =
    let many : ¬ (length (map sub_type c.args.types.now) ≡ 1) = λ one. c.if-types-eq1.false (omega (arith, length-map c.args.types.now sub_type, one)) in
    c.if-gc.false ∙ sym (without_collection (feature_set c.args.features) (map sub_type c.args.types.now) many (sym c.if-gc.ensures))
