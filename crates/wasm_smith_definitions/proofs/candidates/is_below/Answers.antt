use Rattle.std.proofs.Common.{map}
use Rattle.wasm_core_types.specs.SubTypes.{sub_type}
use Rattle.wasm_smith_validity.proofs.GroupLaws.{linked_of_rules}
use Rattle.wasm_smith_definitions.proofs.candidates.is_below.Goals as goal

pub returns-in-Ref-high : goal.returns-in-Ref-high
returns-in-Ref-high c = λ rules. rw (c.in-Ref.is, c.in-Ref-high.is) (c.is_ref_below.ensures (linked_of_rules (map sub_type c.args.types.now) rules))
