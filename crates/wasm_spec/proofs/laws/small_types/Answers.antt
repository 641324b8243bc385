use Rattle.std.proofs.Common.{true, List, [], ◌∷◌, map, inr, refl, arith}
use Rattle.wasm_spec.specs.Bytes.{IsItems}
use Rattle.wasm_spec.specs.TypeGrammar.{heap_code, IsValType}
use Rattle.wasm_spec.specs.Types.{AbstractHeapType, NoCont, NoExn, NoFunc, NoExtern, None, Func, Extern, Any, Eq, I31, Struct, Array, Exn, Cont, Abstract, Ref}
use Rattle.wasm_spec.proofs.Encodings.{small}
use Rattle.wasm_spec.proofs.laws.small_types.Goals as goal

-- each byte is a nullable reference
bare : (heaps : List AbstractHeapType) → IsItems IsValType (map heap_code heaps) (map (λ heap. Ref true (Abstract heap)) heaps)
bare [] = refl
bare (heap ∷ heaps) = (heap_code heap ∷ [], map heap_code heaps, refl, inr refl, bare heaps)

pub returns : goal.returns
returns c = record {
  function = (
    0x03 ∷ 0x7f ∷ 0x7c ∷ 0x7b ∷ 0x02 ∷ 0x7e ∷ 0x7d ∷ [],
    refl,
    (
      0x03 ∷ 0x7f ∷ 0x7c ∷ 0x7b ∷ [],
      0x02 ∷ 0x7e ∷ 0x7d ∷ [],
      refl,
      (0x03 ∷ [], 0x7f ∷ 0x7c ∷ 0x7b ∷ [], refl, small 3 (omega arith), (0x7f ∷ [], 0x7c ∷ 0x7b ∷ [], refl, refl, (0x7c ∷ [], 0x7b ∷ [], refl, refl, (0x7b ∷ [], [], refl, refl, refl)))),
      (0x02 ∷ [], 0x7e ∷ 0x7d ∷ [], refl, small 2 (omega arith), (0x7e ∷ [], 0x7d ∷ [], refl, refl, (0x7d ∷ [], [], refl, refl, refl))),
    ),
  );
  references = bare (NoCont ∷ NoExn ∷ NoFunc ∷ NoExtern ∷ None ∷ Func ∷ Extern ∷ Any ∷ Eq ∷ I31 ∷ Struct ∷ Array ∷ Exn ∷ Cont ∷ []);
}
