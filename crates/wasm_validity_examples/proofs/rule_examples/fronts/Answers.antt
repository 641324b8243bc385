use Rattle.std.proofs.Common.{◌≡◌, ◌+◌, ◌++◌, ◌<◌, ◌≤◌, ℕ, List, [], ◌∷◌, false, length, arith, refl, ap, ◌∙◌}
use Rattle.std.proofs.lemmas.List.{length-append}
use Rattle.wasm_spec.specs.Bytes.{IsU32, IsItems}
use Rattle.wasm_spec.specs.Grammar.{AreOrdered, ComesAfter, last_of, last_place, place_of}
use Rattle.wasm_spec.specs.Syntax.{Section, TagSection}
use Rattle.wasm_spec_examples.specs.Examples.{at_least}
use Rattle.wasm_validity.specs.Entries.{IsItem, OfMemory}
use Rattle.wasm_validity.specs.Fronts.{BeginsWithItems}
use Rattle.wasm_validity_examples.proofs.rule_examples.fronts.Goals as goal

-- a small number is read off the byte that stands first
small : (b : ℕ) (bytes encoding rest : List ℕ) (n : ℕ) → b < 128 → b ∷ bytes ≡ encoding ++ rest → IsU32 encoding n → (n ≡ b) × (length encoding ≡ 1)
small b bytes [] rest n h e u = absurd u
small b bytes (x ∷ []) rest n h e u = let same : b ≡ x = cc in (omega (arith, same, u.2), refl)
small b bytes (x ∷ y ∷ ys) rest n h e u = let same : b ≡ x = cc in absurd (omega (arith, same, u.0, h))

-- what follows the first byte
after_first : (b : ℕ) (bytes encoding rest : List ℕ) → length encoding ≡ 1 → b ∷ bytes ≡ encoding ++ rest → bytes ≡ rest
after_first b bytes [] rest h e = absurd cc
after_first b bytes (x ∷ []) rest h e = cc
after_first b bytes (x ∷ y ∷ ys) rest h e = absurd (omega (arith, h))

-- an item takes a byte
takes_one : (encoding : List ℕ) → IsItems (IsItem false 5) encoding (OfMemory (at_least 1) ∷ []) → 1 ≤ length encoding
takes_one [] h = absurd (no_bytes h.0 h.1 h.2 h.3)
  where
    no_bytes : (first others : List ℕ) → [] ≡ first ++ others → IsItem false 5 first (OfMemory (at_least 1)) → ⊥
    no_bytes [] others e item = let f = item.1.1 in absurd cc
    no_bytes (x ∷ xs) others e item = absurd cc
takes_one (x ∷ xs) h = omega arith

pub returns-clause-one : goal.returns-clause-one
returns-clause-one c = record {
  stated = 2;
  size = 5;
  size_encoding = 5 ∷ [];
  count_encoding = 2 ∷ [];
  encoding = 0 ∷ 1 ∷ [];
  rest = 255 ∷ 255 ∷ [];
  begins = refl;
  sized = (omega arith, omega arith, refl);
  inside = omega arith;
  framed = omega arith;
  counted = (omega arith, omega arith, refl);
  among = omega arith;
  holds = (0 ∷ 1 ∷ [], [], refl, (refl, (1 ∷ [], refl, (1 ∷ [], [], refl, (omega arith, omega arith, refl), ([], [], refl, refl, refl)))), refl);
}

pub returns-clause-none : goal.returns-clause-none
returns-clause-none c = record {
  stated = 2;
  size = 5;
  size_encoding = 5 ∷ [];
  count_encoding = 2 ∷ [];
  encoding = [];
  rest = 0 ∷ 1 ∷ 255 ∷ 255 ∷ [];
  begins = refl;
  sized = (omega arith, omega arith, refl);
  inside = omega arith;
  framed = omega arith;
  counted = (omega arith, omega arith, refl);
  among = omega arith;
  holds = refl;
}

-- the numbers of a section with single bytes for its size and its count
record Numbers (size count : ℕ) (others : List ℕ) (b : BeginsWithItems false 5 (5 ∷ size ∷ count ∷ others) (OfMemory (at_least 1) ∷ [])) : Type 0 where
  size_is : b.size ≡ size
  count_is : b.stated ≡ count
  one : length b.count_encoding ≡ 1
  left : length others ≡ length b.encoding + length b.rest

numbers : (size count : ℕ) (others : List ℕ) (b : BeginsWithItems false 5 (5 ∷ size ∷ count ∷ others) (OfMemory (at_least 1) ∷ [])) → size < 128 → count < 128 → Numbers size count others b
numbers size count others b hs hc =
    let tail : size ∷ count ∷ others ≡ b.size_encoding ++ (b.count_encoding ++ (b.encoding ++ b.rest)) = cc b.begins in
    let first = small size (count ∷ others) b.size_encoding _ b.size hs tail b.sized in
    let next : count ∷ others ≡ b.count_encoding ++ (b.encoding ++ b.rest) = after_first size (count ∷ others) b.size_encoding _ first.1 tail in
    let second = small count others b.count_encoding _ b.stated hc next b.counted in
    let last : others ≡ b.encoding ++ b.rest = after_first count others b.count_encoding _ second.1 next in
    record { size_is = first.0; count_is = second.0; one = second.1; left = ap length last ∙ length-append b.encoding b.rest }

pub returns-clause-cut : goal.returns-clause-cut
returns-clause-cut c = λ b. let n = numbers 6 2 _ b (omega arith) (omega arith) in omega (arith, n.size_is, n.one, n.left, b.framed)

pub returns-clause-outside : goal.returns-clause-outside
returns-clause-outside c = λ b. let n = numbers 1 1 _ b (omega arith) (omega arith) in omega (arith, n.size_is, n.one, b.inside, takes_one b.encoding b.holds)

pub returns-clause-not_stated : goal.returns-clause-not_stated
returns-clause-not_stated c = λ b. let n = numbers 3 0 _ b (omega arith) (omega arith) in omega (arith, n.count_is, b.among)

pub returns-clause-tags : goal.returns-clause-tags
returns-clause-tags c = record {
  before = [];
  complete = record { sections = []; front = []; rest = 13 ∷ 1 ∷ 1 ∷ []; begins = refl; holds = refl; ordered = tt; say = refl };
  like = TagSection [];
  comes_after = omega arith;
  items = [];
  begun = record {
    stated = 1;
    size = 1;
    size_encoding = 1 ∷ [];
    count_encoding = 1 ∷ [];
    encoding = [];
    rest = [];
    begins = refl;
    sized = (omega arith, omega arith, refl);
    inside = omega arith;
    framed = omega arith;
    counted = (omega arith, omega arith, refl);
    among = omega arith;
    holds = refl;
  };
  say = refl;
}

one_more : (last : ℕ) (sections : List Section) (s : Section) → AreOrdered last sections → ComesAfter (last_of last sections) (place_of s) → AreOrdered last (sections ++ s ∷ [])
one_more last [] s ordered after = (after, tt)
one_more last (x ∷ sections) s ordered after = (ordered.0, one_more (last_place last (place_of x)) sections s ordered.1 after)

pub returns-clause-in_order : goal.returns-clause-in_order
returns-clause-in_order c = λ compact bytes entries h. one_more 0 h.complete.sections h.like h.complete.ordered h.comes_after
