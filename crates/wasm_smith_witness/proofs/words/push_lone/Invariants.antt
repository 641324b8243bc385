use Rattle.std.proofs.Common.{◌≡◌, ◌++◌, drop, map}
use Rattle.wasm_core_types.specs.SubTypes.{sub_type}
use Rattle.wasm_smith_witness.specs.Words.{lone_word}
use Rattle.wasm_smith_witness.proofs.words.push_lone.Given as goal

abbrev pub invariant-loop-type_ : goal.invariant-loop-type_
invariant-loop-type_ l = l.out.items ++ lone_word l.config (map sub_type (drop l.type_-index l.group)) ≡ l.fn.out.items ++ lone_word l.config (map sub_type l.group)
