-- Parts of a section that bytes begin with.
use Rattle.std.proofs.Common.{◌≡◌, ◌+◌, ◌^◌, ◌<◌, ◌≤◌, ℕ, Bool, List, [], ◌∷◌, ◌++◌, length, refl, arith, ap, sym, append-nil, length-append}
use Rattle.wasm_spec.proofs.Encodings.{small}
use Rattle.wasm_spec.proofs.WrongEncodings.{number_is, tails}
use Rattle.wasm_validity.specs.Entries.{Entry, IsItem}
use Rattle.wasm_validity.specs.Fronts.{BeginsWithItems}

-- a section of less than 128 bytes that states two items, and the first of them
pub one_item : (compact : Bool) (id size : ℕ) (bytes rest : List ℕ) (item : Entry) → size < 2 ^ 7 → 1 + length bytes ≤ size → size ≤ 1 + (length bytes + length rest)
    → IsItem compact id bytes item → BeginsWithItems compact id (id ∷ size ∷ 0x02 ∷ (bytes ++ rest)) (item ∷ [])
one_item compact id size bytes rest item few inside framed is = record {
  stated = 2;
  size = size;
  size_encoding = size ∷ [];
  count_encoding = 0x02 ∷ [];
  encoding = bytes;
  rest = rest;
  begins = refl;
  sized = small size few;
  inside = omega (arith, inside);
  framed = omega (arith, framed);
  counted = small 2 (omega arith);
  among = omega arith;
  holds = (bytes, [], sym (append-nil bytes), is, refl);
}

-- what the size and the count of a section are, where each is a single byte
pub record Stated (compact : Bool) (id size count : ℕ) (others : List ℕ) (items : List Entry) (b : BeginsWithItems compact id (id ∷ size ∷ count ∷ others) items) : Type 0 where
  pub size_is : b.size ≡ size
  pub count_is : b.stated ≡ count
  pub left : others ≡ b.encoding ++ b.rest
  pub one : length b.count_encoding ≡ 1

one_byte : (bytes rest others : List ℕ) (b : ℕ) → b ∷ others ≡ bytes ++ rest → rest ≡ others → length bytes ≡ 1
one_byte bytes rest others b e same = omega (arith, ap length e, length-append bytes rest, ap length same)

pub stated : (compact : Bool) (id size count : ℕ) (others : List ℕ) (items : List Entry) (b : BeginsWithItems compact id (id ∷ size ∷ count ∷ others) items) → size < 2 ^ 7 → count < 2 ^ 7
    → Stated compact id size count others items b
stated compact id size count others items b few_bytes few =
    let after_id : size ∷ count ∷ others ≡ b.size_encoding ++ (b.count_encoding ++ (b.encoding ++ b.rest)) = tails id id _ (b.size_encoding ++ (b.count_encoding ++ (b.encoding ++ b.rest))) b.begins in
    let first = number_is b.size_encoding (b.count_encoding ++ (b.encoding ++ b.rest)) (count ∷ others) size b.size b.sized few_bytes after_id in
    let next = number_is b.count_encoding (b.encoding ++ b.rest) others count b.stated b.counted few (sym first.1) in
    record { size_is = first.0; count_is = next.0; left = sym next.1; one = one_byte b.count_encoding (b.encoding ++ b.rest) others count (sym first.1) next.1 }
