use Rattle.std.proofs.Common.{◌≡◌, Some, None, sym, ap, ◌∙◌}
use Rattle.wasm_core_types.specs.SubTypes.{sub_type}
use Rattle.wasm_smith_validity.proofs.WalkLaws.{seen_get}
use Rattle.wasm_smith_types.proofs.candidates.candidate_at.Goals as goal

pub returns-clause-candidate : goal.returns-clause-candidate
returns-clause-candidate c = record {
  type = sub_type c.in_ok-type_.type_.now;
  is = seen_get sub_type c.args.types.now c.args.index c.in_ok-type_.type_.now c.in_ok-type_.ensures.lookup.0 c.in_ok-type_.ensures.lookup.1;
  is_open = c.if-type_.false;
  height = c.in_ok-height.ensures.height.0;
  low = c.in_ok-height.ensures.height.1;
}

pub returns-in_err-height-clause-exact : goal.returns-in_err-height-clause-exact
returns-in_err-height-clause-exact c =
    λ type height at is_open high low. let e : None ≡ Some height = sym c.in_err-height.was ∙ c.height_of.ensures.exact height high low in absurd cc

pub returns-clause-exact : goal.returns-clause-exact
returns-clause-exact c = λ type height at is_open high low.
    let e : Some c.in_ok-height.height ≡ Some height = sym c.in_ok-height.was ∙ c.height_of.ensures.exact height high low in
    let one : c.in_ok-height.height ≡ height = cc in
    ap (λ h. Some (record { index = c.args.index; height = h })) one
