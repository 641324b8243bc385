use Rattle.std.proofs.Common.{◌≡◌, ◌++◌, drop}
use Rattle.wasm_core_types.specs.CoreTypes.{val_type}
use Rattle.wasm_smith_witness.specs.Words.{each_word, value_word}
use Rattle.wasm_smith_witness.proofs.words.push_values.Given as goal

abbrev pub invariant-loop-type_ : goal.invariant-loop-type_
invariant-loop-type_ l = l.out.items ++ each_word (λ x. value_word l.config l.bound (val_type x)) (drop l.type_-index l.types) ≡ l.fn.out.items ++ each_word (λ x. value_word l.config l.bound (val_type x)) l.types
