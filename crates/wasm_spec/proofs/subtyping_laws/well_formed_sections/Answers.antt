use Rattle.std.proofs.Common.{[]}
use Rattle.wasm_spec.specs.Groups.{KeepsGroupRules, IsWellFormedGroup}
use Rattle.wasm_spec.proofs.SectionLimits.{well_formed_limits, rules_and_limits, no_limit_passed}
use Rattle.wasm_spec.proofs.SectionRules.{section_rules, section_matches, group_rules}
use Rattle.wasm_spec.proofs.SectionTypes.{groups_each}
use Rattle.wasm_spec.proofs.subtyping_laws.well_formed_sections.Goals as goal

pub returns : goal.returns
returns c = record {
  rules = λ features groups index type h at. section_rules features groups h index type at;
  group_rules = group_rules;
  matches = λ features groups i j a b h at at' below. section_matches features groups h i j a b at at' below;
  well_formed = λ features groups. (
    λ h. (groups_each (IsWellFormedGroup features) (KeepsGroupRules features) (λ before group k. k.rules) [] groups h, well_formed_limits features groups [] tt h),
    λ h. rules_and_limits features groups [] h.0 h.1,
  );
  limits = λ features groups index type limit h at. no_limit_passed features groups h index type limit at;
}
