use Rattle.std.proofs.Common.{map}
use Rattle.wasm_core_types.specs.SubTypes.{sub_type}
use Rattle.wasm_smith_validity.proofs.WalkLaws.{seen_get, seen_none}
use Rattle.wasm_smith_shapes.proofs.LinkLaws.{extends_there, final_there, none_there}
use Rattle.wasm_smith_shapes.proofs.groups.matches_above.Goals as goal

pub returns-then-not-above : goal.returns-then-not-above
returns-then-not-above c =
    let is = seen_get sub_type c.args.types.now c.in-Some.supertype c.in-Some-get.above.now c.in-Some-get.ensures.lookup.0 c.in-Some-get.ensures.lookup.1 in
    extends_there (map sub_type c.args.types.now) c.args.type_.now c.in-Some.supertype c.in-Some.is c.in-Some-get.above.now _ is c.if-not-above.true c.composite_matches.ensures

pub returns-else-not-above : goal.returns-else-not-above
returns-else-not-above c =
    let is = seen_get sub_type c.args.types.now c.in-Some.supertype c.in-Some-get.above.now c.in-Some-get.ensures.lookup.0 c.in-Some-get.ensures.lookup.1 in
    (λ no. absurd cc, λ h. absurd (final_there (map sub_type c.args.types.now) c.args.type_.now c.in-Some.supertype c.in-Some.is c.in-Some-get.above.now is c.if-not-above.false h))

pub returns-in-None-get : goal.returns-in-None-get
returns-in-None-get c =
    let out = seen_none sub_type c.args.types.now c.in-Some.supertype c.in-None-get.ensures.lookup.0 in
    (λ no. absurd cc, λ h. absurd (none_there (map sub_type c.args.types.now) c.args.type_.now c.in-Some.supertype c.in-Some.is out h))
