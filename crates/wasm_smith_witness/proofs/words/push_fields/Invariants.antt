use Rattle.std.proofs.Common.{◌≡◌, ◌++◌, drop}
use Rattle.wasm_core_types.specs.CoreTypes.{field_type}
use Rattle.wasm_smith_witness.specs.Words.{each_word, field_word}
use Rattle.wasm_smith_witness.proofs.words.push_fields.Given as goal

abbrev pub invariant-loop-field : goal.invariant-loop-field
invariant-loop-field l = l.out.items ++ each_word (λ x. field_word l.config l.bound (field_type x)) (drop l.field-index l.fields) ≡ l.fn.out.items ++ each_word (λ x. field_word l.config l.bound (field_type x)) l.fields
