use Rattle.std.proofs.Common.{map}
use Rattle.wasm_core_types.specs.SubTypes.{sub_type}
use Rattle.wasm_smith_validity.proofs.WalkLaws.{seen_get, seen_none}
use Rattle.wasm_smith_shapes.proofs.LinkLaws.{kind_there, no_kind_there}
use Rattle.wasm_smith_shapes.proofs.groups.has_kind_above.Goals as goal

pub returns-in-Some-get : goal.returns-in-Some-get
returns-in-Some-get c =
    let is = seen_get sub_type c.args.types.now c.in-Some.supertype c.in-Some-get.above.now c.in-Some-get.ensures.lookup.0 c.in-Some-get.ensures.lookup.1 in
    kind_there (map sub_type c.args.types.now) c.args.type_.now c.in-Some.supertype c.in-Some.is c.in-Some-get.above.now _ is c.is_of_one_kind.ensures

pub returns-in-None-get : goal.returns-in-None-get
returns-in-None-get c =
    let out = seen_none sub_type c.args.types.now c.in-Some.supertype c.in-None-get.ensures.lookup.0 in
    (λ no. absurd cc, λ h. absurd (no_kind_there (map sub_type c.args.types.now) c.args.type_.now c.in-Some.supertype c.in-Some.is out h))
