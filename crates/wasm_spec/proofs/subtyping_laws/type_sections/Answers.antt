use Rattle.std.proofs.Common.{[]}
use Rattle.std.specs.List.{slice_get, flat_map}
use Rattle.wasm_spec.specs.Groups.{KeepsGroupRules, IsWellFormedGroup}
use Rattle.wasm_spec.specs.Syntax.{members}
use Rattle.wasm_spec.specs.Trees.{section_types, type_at, unrolled}
use Rattle.wasm_spec.proofs.Carried.{carried, carried_back, limits_carried_back}
use Rattle.wasm_spec.proofs.GroupTrees.{section_count}
use Rattle.wasm_spec.proofs.SectionTypes.{section_keeps, section_closed, section_one_to_one, groups_in_range, past_the_end, more_types, groups_split, groups_joined}
use Rattle.wasm_spec.proofs.subtyping_laws.type_sections.Goals as goal

pub returns : goal.returns
returns c = record {
  count = section_count;
  types = section_keeps;
  closed = section_closed;
  along = λ groups range. carried (type_at (section_types groups)) (slice_get (flat_map members groups)) unrolled (section_keeps groups range);
  limits_back = λ groups range. limits_carried_back (type_at (section_types groups)) (slice_get (flat_map members groups)) unrolled (section_keeps groups range) (section_closed groups range);
  one_to_one = section_one_to_one;
  back = λ groups range one. carried_back (type_at (section_types groups)) (slice_get (flat_map members groups)) unrolled (section_keeps groups range) (section_closed groups range) (section_one_to_one groups range one);
  in_range = λ features groups h. groups_in_range features [] groups h;
  past_the_end = past_the_end;
  more_types = λ groups group. more_types [] groups group;
  more_groups = λ features groups group. (λ h. groups_split (IsWellFormedGroup features) [] groups group h, λ h. groups_joined (IsWellFormedGroup features) [] groups group h.0 h.1);
  more_rules = λ features groups group. (λ h. groups_split (KeepsGroupRules features) [] groups group h, λ h. groups_joined (KeepsGroupRules features) [] groups group h.0 h.1);
}
