use Rattle.std.proofs.Common.{◌≡◌, ◌++◌, drop}
use Rattle.wasm_smith_witness.specs.Functions.{place_in, place_word}
use Rattle.wasm_smith_witness.specs.Words.{each_word}
use Rattle.wasm_smith_witness.proofs.words.push_functions.Given as goal

abbrev pub invariant-loop-index : goal.invariant-loop-index
invariant-loop-index l = l.out.items ++ each_word (λ index. place_word l.types (place_in l.types index)) (drop l.index-index l.funcs) ≡ l.fn.out.items ++ each_word (λ index. place_word l.types (place_in l.types index)) l.funcs
