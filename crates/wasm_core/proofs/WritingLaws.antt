-- What is written is read back.
use Rattle.std.proofs.Common.{◌≡◌, ℕ, ◌<◌, ◌-◌, ◌^◌, pos, negsuc, List, ◌++◌, length, Some, ap, ◌∙◌, append_assoc}
use Rattle.wasm_spec.specs.Shortest.{unsigned_encoding, signed_encoding, framed_encoding}
use Rattle.wasm_spec.proofs.NumberLaws.{unsigned_spelled, positive_spelled, negative_spelled}
use Rattle.wasm_core_read.specs.Reading.{unsigned_at, signed_at}
use Rattle.wasm_core_read.proofs.ReadingLaws.{unsigned_again, signed_again}
-- The lists of views, under the name of this crate.
pub use Rattle.wasm_core_write.proofs.TypeLists.{list_mapped, val_types, sub_types}

-- a number that is written is read back
pub read_back : (bits n : ℕ) (rest : List ℕ) → n < 2 ^ bits → unsigned_at bits (unsigned_encoding n ++ rest) ≡ Some (n, rest)
read_back bits n rest fits = unsigned_again bits (unsigned_encoding n) n rest (unsigned_spelled bits n fits)

pub positive_back : (bits m : ℕ) (rest : List ℕ) → m < 2 ^ (bits - 1) → signed_at bits (signed_encoding (pos m) ++ rest) ≡ Some (pos m, rest)
positive_back bits m rest fits = signed_again bits (signed_encoding (pos m)) (pos m) rest (positive_spelled bits m fits)

pub negative_back : (bits m : ℕ) (rest : List ℕ) → m < 2 ^ (bits - 1) → signed_at bits (signed_encoding (negsuc m) ++ rest) ≡ Some (negsuc m, rest)
negative_back bits m rest fits = signed_again bits (signed_encoding (negsuc m)) (negsuc m) rest (negative_spelled bits m fits)

-- and so is the size of a content
pub size_back : (content rest : List ℕ) → length content < 2 ^ 32 → unsigned_at 32 (framed_encoding content ++ rest) ≡ Some (length content, content ++ rest)
unfolding framed_encoding
size_back content rest fits = ap (unsigned_at 32) (append_assoc (unsigned_encoding (length content)) content rest) ∙ read_back 32 (length content) (content ++ rest) fits
