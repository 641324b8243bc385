use Rattle.std.proofs.Common.{arith, refl}
use Rattle.wasm_core_types.specs.SubTypes.{sub_type}
use Rattle.wasm_spec.specs.Groups.{no_link}
use Rattle.wasm_smith_validity.proofs.BelowLaws.{height_inside, rest_goes_on}
use Rattle.wasm_smith_validity.proofs.WalkLaws.{seen_get, seen_none, link_up, top_at}
use Rattle.wasm_smith_shapes.proofs.groups.is_low.Goals as goal

pub loop-init : goal.loop-init
loop-init c = record { links = no_link; rest = λ n high. (n, high, omega arith) }

pub loop-preserved : goal.loop-preserved
loop-preserved c =
    let is = seen_get sub_type c.args.types.now c.loop.at c.in-Some.type_.now c.in-Some.ensures.lookup.0 c.in-Some.ensures.lookup.1 in
    record {
      links =
          link_up c.args.types.now c.loop.counter c.args.index c.loop.at c.in-Some-supertype_idx.supertype c.in-Some.type_.now c.loop.invariant.links is c.in-Some-supertype_idx.is;
      rest =
          rest_goes_on c.args.types.now c.loop.counter c.args.index c.loop.at c.in-Some-supertype_idx.supertype c.in-Some.type_.now c.loop.invariant.rest is c.in-Some-supertype_idx.is;
    }

pub returns-in-None-supertype_idx : goal.returns-in-None-supertype_idx
returns-in-None-supertype_idx c =
    let is = seen_get sub_type c.args.types.now c.loop.at c.in-Some.type_.now c.in-Some.ensures.lookup.0 c.in-Some.ensures.lookup.1 in
    (λ yes. (c.loop.counter, top_at c.args.types.now c.loop.counter c.args.index c.loop.at c.in-Some.type_.now c.loop.invariant.links is c.in-None-supertype_idx.is, omega (arith, c.loop-test.true)), λ high. refl)

pub returns-in-None : goal.returns-in-None
returns-in-None c =
    let out = seen_none sub_type c.args.types.now c.loop.at c.in-None.ensures.lookup.0 in
    (λ no. absurd cc, λ h. let (m, here, e) = c.loop.invariant.rest h.0 h.1 in absurd (height_inside c.args.types.now m c.loop.at here out))

pub returns : goal.returns
returns c = (λ no. absurd cc, λ h. let (m, here, e) = c.loop.invariant.rest h.0 h.1 in absurd (omega (arith, e, h.2, c.loop-test.false)))
