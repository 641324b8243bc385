use Rattle.std.proofs.Common.{◌≡◌, ◌++◌, drop, map}
use Rattle.wasm_core_types.specs.SubTypes.{sub_type}
use Rattle.wasm_smith_types.specs.Drawing.{asked_after}
use Rattle.wasm_smith_witness.specs.Words.{members_word}
use Rattle.wasm_smith_witness.proofs.words.push_members.Given as goal

abbrev pub invariant-loop-type_ : goal.invariant-loop-type_
invariant-loop-type_ l = record {
  so_far : l.out.items ++ members_word l.config l.bound l.asks (map sub_type (drop l.type_-index l.types)) ≡ l.fn.out.items ++ members_word l.config l.bound l.asked (map sub_type l.types);
  asks : asked_after l.asks (map sub_type (drop l.type_-index l.types)) ≡ asked_after l.asked (map sub_type l.types);
}
