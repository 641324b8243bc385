use Rattle.std.proofs.Common.{ap, arith, Some}
use Rattle.wasm_core_types.specs.SubTypes.{sub_type}
use Rattle.wasm_spec.specs.Groups.{no_link}
use Rattle.wasm_smith_validity.proofs.BelowLaws.{height_inside, rest_goes_on, rest_at_top}
use Rattle.wasm_smith_validity.proofs.WalkLaws.{seen_get, seen_none, link_up, at_top}
use Rattle.wasm_smith_types.proofs.candidates.height_of.Goals as goal

pub loop-height-init : goal.loop-height-init
loop-height-init c = record { links = no_link; rest = λ n high. (n, high, omega arith) }

pub loop-height-preserved : goal.loop-height-preserved
loop-height-preserved c =
    let is = seen_get sub_type c.args.types.now c.loop-height.at c.in-Some.type_.now c.in-Some.ensures.lookup.0 c.in-Some.ensures.lookup.1 in
    record {
      links =
          link_up c.args.types.now c.loop-height.height c.args.index c.loop-height.at c.in-Some-supertype_idx.supertype c.in-Some.type_.now c.loop-height.invariant.links is c.in-Some-supertype_idx.is;
      rest =
          rest_goes_on c.args.types.now c.loop-height.height c.args.index c.loop-height.at c.in-Some-supertype_idx.supertype c.in-Some.type_.now c.loop-height.invariant.rest is c.in-Some-supertype_idx.is;
    }

pub returns-in-None-supertype_idx-clause-height : goal.returns-in-None-supertype_idx-clause-height
returns-in-None-supertype_idx-clause-height c =
    let is = seen_get sub_type c.args.types.now c.loop-height.at c.in-Some.type_.now c.in-Some.ensures.lookup.0 c.in-Some.ensures.lookup.1 in
    at_top c.args.types.now c.loop-height.height c.args.index c.loop-height.at c.in-Some.type_.now c.loop-height-test.true c.loop-height.invariant.links is c.in-None-supertype_idx.is

pub returns-in-None-supertype_idx-clause-exact : goal.returns-in-None-supertype_idx-clause-exact
returns-in-None-supertype_idx-clause-exact c = λ n high low.
    let is = seen_get sub_type c.args.types.now c.loop-height.at c.in-Some.type_.now c.in-Some.ensures.lookup.0 c.in-Some.ensures.lookup.1 in
    ap (λ m. Some m)
    (rest_at_top c.args.types.now c.loop-height.height c.args.index c.loop-height.at c.in-Some.type_.now c.loop-height.invariant.rest is c.in-None-supertype_idx.is n high)

pub returns-in-None-clause-exact : goal.returns-in-None-clause-exact
returns-in-None-clause-exact c = λ n high low.
    let out = seen_none sub_type c.args.types.now c.loop-height.at c.in-None.ensures.lookup.0 in
    let (m, here, e) = c.loop-height.invariant.rest n high in
    absurd (height_inside c.args.types.now m c.loop-height.at here out)

pub returns-clause-exact : goal.returns-clause-exact
returns-clause-exact c = λ n high low. let (m, here, e) = c.loop-height.invariant.rest n high in absurd (omega (arith, e, low, c.loop-height-test.false))
