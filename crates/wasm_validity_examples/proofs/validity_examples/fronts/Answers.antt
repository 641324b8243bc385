use Rattle.std.proofs.Common.{◌≡◌, ◌+◌, ℕ, zero, suc, Bool, List, [], ◌∷◌, ◌++◌, length, replicate, inl, inr, refl, arith, ap, sym, ◌∙◌, ◌<◌, subst, append_assoc, append-nil, length-append}
use Rattle.std.proofs.lemmas.List.{length-replicate}
use Rattle.std.specs.List.{flat_map}
use Rattle.std.proofs.lemmas.Bool.{lt-ltb}
use Rattle.wasm_spec.specs.Bytes.{IsItems, IsU32}
use Rattle.wasm_spec.specs.Features.{CompactImports, has}
use Rattle.wasm_spec.specs.Grammar.{header}
use Rattle.wasm_spec.specs.Limits.{Memories, Params}
use Rattle.wasm_spec.specs.Syntax.{FunctionSection, MemorySection, TypeSection}
use Rattle.wasm_spec.specs.TypeGrammar.{IsRecGroup, IsResultType, IsValType}
use Rattle.wasm_spec.specs.Types.{I32, Single, ValType}
use Rattle.wasm_spec.proofs.Encodings.{none, small, function_section}
use Rattle.wasm_spec_examples.specs.Examples.{at_least}
use Rattle.wasm_spec_examples.specs.TypeExamples.{of_params, takes}
use Rattle.wasm_validity.specs.Context.{Context, after, at_first}
use Rattle.wasm_validity.specs.Entries.{IsItem, OfFunction, OfMemory, OfType}
use Rattle.wasm_validity.specs.Fronts.{HasItems, complete, within}
use Rattle.wasm_validity.specs.Rules.{PassLimit}
use Rattle.wasm_validity_examples.proofs.SmallSections.{many_params}
use Rattle.wasm_validity_examples.proofs.validity_examples.fronts.Goals as goal

memories : (compact : Bool) (n : ℕ) → IsItems (IsItem compact 5) (flat_map (λ n. 0x00 ∷ n ∷ []) (replicate n 0x00)) (replicate n (OfMemory (at_least 0)))
memories compact zero = refl
memories compact (suc n) = (
  0x00 ∷ 0x00 ∷ [],
  flat_map (λ n. 0x00 ∷ n ∷ []) (replicate n 0x00),
  refl,
  (refl, (0x00 ∷ [], refl, (0x00 ∷ [], [], refl, (omega arith, omega arith, refl), ([], [], refl, refl, refl)))),
  memories compact n,
)

-- so many memories are one too many
many_memories : (n : ℕ) (cx : Context) → length cx.memories + suc n ≡ 101 → PassLimit Memories cx (replicate (suc n) (OfMemory (at_least 0)))
many_memories zero cx e = inl (inl (refl, lt-ltb 100 (suc (length cx.memories)) (omega (arith, e))))
many_memories (suc n) cx e =
    inr (inr (many_memories n (after cx (OfMemory (at_least 0))) (omega (arith, e, length-append cx.memories (at_least 0 ∷ [])))))

-- the encoding of a function of so many numbers, and of their count
abbrev numbers_encoding : ℕ → List ℕ → List ℕ
numbers_encoding n count = 0x60 ∷ (count ++ (replicate n 0x7f ++ 0x00 ∷ []))

numbers : (n : ℕ) → IsItems IsValType (replicate n 0x7f) (replicate n I32)
numbers zero = refl
numbers (suc n) = (0x7f ∷ [], replicate n 0x7f, refl, refl, numbers n)

function_type : (n : ℕ) (count : List ℕ) → IsU32 count n → IsRecGroup (numbers_encoding n count) (Single (of_params n))
function_type n count h =
    let counted = subst (λ m. IsU32 count m) (sym (length-replicate n I32)) h in
    let params : IsResultType (count ++ replicate n 0x7f) (replicate n I32) = (count, replicate n 0x7f, refl, counted, numbers n) in
    inr (refl, refl, (count ++ (replicate n 0x7f ++ 0x00 ∷ []), refl, (count ++ replicate n 0x7f, 0x00 ∷ [], sym (append_assoc count (replicate n 0x7f) (0x00 ∷ [])), params, none IsValType)))

numbers_length : (n : ℕ) (count : List ℕ) → length (numbers_encoding n count) ≡ length count + n + 2
numbers_length n count =
    let codes : List ℕ = replicate n 0x7f in
    let many : length codes ≡ n = length-replicate n 0x7f in
    omega (arith, length-append count (codes ++ 0x00 ∷ []), length-append codes (0x00 ∷ []), many)

-- a section of one type, of a function that takes so many numbers
one_function_type : (compact : Bool) (n size : ℕ) (size_encoding count rest : List ℕ) → IsU32 size_encoding size → IsU32 count n → size ≡ length count + n + 3
    → HasItems compact (header ++ (0x01 ∷ (size_encoding ++ (0x01 ∷ 0x60 ∷ (count ++ (replicate n 0x7f ++ (0x00 ∷ rest))))))) (OfType (Single (of_params n)) ∷ [])
one_function_type compact n size size_encoding count rest sized counted same =
    let codes : List ℕ = replicate n 0x7f in
    let joined : count ++ (codes ++ (0x00 ∷ rest)) ≡ (count ++ (codes ++ 0x00 ∷ [])) ++ rest =
    ap (λ l. count ++ l) (sym (append_assoc codes (0x00 ∷ []) rest)) ∙ sym (append_assoc count (codes ++ 0x00 ∷ []) rest) in
    record {
      before = [];
      complete = record { sections = []; front = []; rest = 0x01 ∷ (size_encoding ++ (0x01 ∷ 0x60 ∷ (count ++ (codes ++ (0x00 ∷ rest))))); begins = refl; holds = refl; ordered = tt; say = refl };
      like = TypeSection [];
      comes_after = omega arith;
      items = OfType (Single (of_params n)) ∷ [];
      begun = record {
        stated = 1;
        size = size;
        size_encoding = size_encoding;
        count_encoding = 0x01 ∷ [];
        encoding = numbers_encoding n count;
        rest = rest;
        begins = ap (λ l. 0x01 ∷ (size_encoding ++ (0x01 ∷ 0x60 ∷ l))) joined;
        sized = sized;
        inside = omega (arith, same, numbers_length n count);
        framed = omega (arith, same, numbers_length n count);
        counted = small 1 (omega arith);
        among = omega arith;
        holds = (numbers_encoding n count, [], sym (append-nil (numbers_encoding n count)), (refl, function_type n count counted), refl);
      };
      say = refl;
    }

many_numbers : (n : ℕ) → 1000 < n → PassLimit Params at_first (OfType (Single (of_params n)) ∷ [])
many_numbers n many =
    let params : List (ValType ℕ) = replicate n I32 in
    let as_many : length params ≡ n = length-replicate n I32 in
    inr (inl (many_params (takes params) (omega (arith, many, as_many))))

two_bytes_of_size : IsU32 (0xee ∷ 0x07 ∷ []) 1006
two_bytes_of_size = (omega arith, omega arith, omega arith, 7, refl, (omega arith, omega arith, refl))

two_bytes_of_count : IsU32 (0xe9 ∷ 0x07 ∷ []) 1001
two_bytes_of_count = (omega arith, omega arith, omega arith, 7, refl, (omega arith, omega arith, refl))

pub returns : goal.returns
returns c = record {
  past = λ features rest. record {
    entries = replicate 101 (OfMemory (at_least 0));
    begins = within (record {
      before = [];
      complete = record { sections = []; front = []; rest = 0x05 ∷ 0xcb ∷ 0x01 ∷ 0x65 ∷ (flat_map (λ n. 0x00 ∷ n ∷ []) (replicate 101 0x00) ++ rest); begins = refl; holds = refl; ordered = tt; say = refl };
      like = MemorySection [];
      comes_after = omega arith;
      items = replicate 101 (OfMemory (at_least 0));
      begun = record {
        stated = 101;
        size = 203;
        size_encoding = 0xcb ∷ 0x01 ∷ [];
        count_encoding = 0x65 ∷ [];
        encoding = flat_map (λ n. 0x00 ∷ n ∷ []) (replicate 101 0x00);
        rest = rest;
        begins = refl;
        sized = (omega arith, omega arith, omega arith, 1, refl, (omega arith, omega arith, refl));
        inside = omega arith;
        framed = omega arith;
        counted = small 101 (omega arith);
        among = omega arith;
        holds = memories (has features CompactImports) 101;
      };
      say = refl;
    });
    passes = many_memories 100 at_first (omega arith);
  };
  past_by_type = λ features rest. record {
    entries = OfType (Single (of_params 1001)) ∷ [];
    begins = within (one_function_type (has features CompactImports) 1001 1006 (0xee ∷ 0x07 ∷ []) (0xe9 ∷ 0x07 ∷ []) rest two_bytes_of_size two_bytes_of_count (omega arith));
    passes = many_numbers 1001 (omega arith);
  };
  invalid = λ features rest. record {
    entries = OfFunction 0 ∷ [];
    begins = complete (record {
      sections = FunctionSection (0 ∷ []) ∷ [];
      front = 0x03 ∷ 0x02 ∷ 0x01 ∷ 0x00 ∷ [];
      rest = rest;
      begins = refl;
      holds = (0x03 ∷ 0x02 ∷ 0x01 ∷ 0x00 ∷ [], [], refl, function_section (has features CompactImports), refl);
      ordered = (omega arith, tt);
      say = refl;
    });
    breaks = λ k. let f = k.0 in absurd cc;
  };
  invalid_item = λ features rest. record {
    entries = OfFunction 0 ∷ [];
    begins = within (record {
      before = [];
      complete = record { sections = []; front = []; rest = 0x03 ∷ 0x03 ∷ 0x02 ∷ 0x00 ∷ 0xff ∷ rest; begins = refl; holds = refl; ordered = tt; say = refl };
      like = FunctionSection [];
      comes_after = omega arith;
      items = OfFunction 0 ∷ [];
      begun = record {
        stated = 2;
        size = 3;
        size_encoding = 0x03 ∷ [];
        count_encoding = 0x02 ∷ [];
        encoding = 0x00 ∷ [];
        rest = 0xff ∷ rest;
        begins = refl;
        sized = small 3 (omega arith);
        inside = omega arith;
        framed = omega arith;
        counted = small 2 (omega arith);
        among = omega arith;
        holds = (0x00 ∷ [], [], refl, (refl, small 0 (omega arith)), refl);
      };
      say = refl;
    });
    breaks = λ k. let f = k.0 in absurd cc;
  };
}
