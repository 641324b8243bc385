use Rattle.std.proofs.Common.{inl, refl}
use Rattle.wasm_core_types.specs.SubTypes.{sub_type}
use Rattle.wasm_spec.specs.Subtyping.{same}
use Rattle.wasm_smith_validity.proofs.BelowLaws.{one_up, goes_on, ends_at_top, ends_outside, one_lower, not_so_high}
use Rattle.wasm_smith_validity.proofs.WalkLaws.{seen_get, seen_none}
use Rattle.wasm_smith_validity.proofs.subtyping.is_under.Goals as goal

pub loop-init : goal.loop-init
loop-init c = record { up = λ all. same; left = λ h. h; low = λ all. inl refl }

pub loop-preserved : goal.loop-preserved
loop-preserved c =
    let is = seen_get sub_type c.args.types.now c.loop.at c.in-Some.type_.now c.in-Some.ensures.lookup.0 c.in-Some.ensures.lookup.1 in
    record {
      up = one_up c.args.types.now c.args.low c.loop.at c.in-Some-supertype_idx.supertype c.in-Some.type_.now c.loop.invariant.up is c.in-Some-supertype_idx.is;
      left =
          goes_on c.args.types.now c.args.low c.loop.at c.in-Some-supertype_idx.supertype c.args.high c.in-Some.type_.now c.loop.invariant.left c.if-at-high.false is c.in-Some-supertype_idx.is;
      low =
          λ all. one_lower c.args.types.now c.loop.counter c.loop.at c.in-Some-supertype_idx.supertype c.in-Some.type_.now all
          (c.loop.invariant.low all) is c.in-Some-supertype_idx.is;
    }

pub returns-in-None-supertype_idx : goal.returns-in-None-supertype_idx
returns-in-None-supertype_idx c = λ all.
    let is = seen_get sub_type c.args.types.now c.loop.at c.in-Some.type_.now c.in-Some.ensures.lookup.0 c.in-Some.ensures.lookup.1 in
    (λ no. absurd cc, λ h. absurd (ends_at_top c.args.types.now c.args.low c.loop.at c.args.high c.in-Some.type_.now c.loop.invariant.left c.if-at-high.false is c.in-None-supertype_idx.is h))

pub returns-in-None : goal.returns-in-None
returns-in-None c = λ all.
    let is = seen_none sub_type c.args.types.now c.loop.at c.in-None.ensures.lookup.0 in
    (λ no. absurd cc, λ h. absurd (ends_outside c.args.types.now c.args.low c.loop.at c.args.high c.loop.invariant.left c.if-at-high.false is h))

pub returns : goal.returns
returns c = λ all. (λ no. absurd cc, λ h. absurd (not_so_high c.args.types.now c.loop.counter c.loop.at c.loop-test.false (c.loop.invariant.low all)))
