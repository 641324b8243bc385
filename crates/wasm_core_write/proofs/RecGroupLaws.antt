-- The bytes of a type section tell its entries.
use Rattle.std.proofs.Common.{◌≡◌, ℕ, ◌+◌, List, [], ◌∷◌, ◌++◌, length, Some, refl, ap, ◌∙◌, arith, length-append}
use Rattle.std.specs.List.{flat_map, sum_by}
use Rattle.std.proofs.lemmas.List.Sums.{sum_by-cons}
use Rattle.wasm_spec.specs.Shortest.{unsigned_encoding, list_encoding, framed_encoding}
use Rattle.wasm_spec.specs.TypeEncodings.{sub_encoding, group_encoding}
use Rattle.wasm_spec.proofs.Decoding.{Reader, ◌>>=◌, Decodes, apart, unsigned_at, unsigned_decodes, list_at, list_decodes}
use Rattle.wasm_spec.proofs.TypeDecoding.{sub_at, sub_decodes, group_or, no_group}
use Rattle.wasm_spec.specs.Types.{RecGroup, Single, Group}
use Rattle.wasm_spec.specs.TypeEncodings.{rec_group_encoding, rec_groups_encoding}

grouped : Reader (RecGroup ℕ)
grouped bytes = list_at sub_at bytes >>= λ x. Some (Group x.0, x.1)

single : Reader (RecGroup ℕ)
single bytes = sub_at bytes >>= λ x. Some (Single x.0, x.1)

entry_at : Reader (RecGroup ℕ)
entry_at bytes = group_or grouped single bytes

entry_decodes : Decodes rec_group_encoding entry_at
unfolding rec_group_encoding group_encoding entry_at group_or grouped single
entry_decodes (Single type) rest = no_group grouped single type rest ∙ (rw (sub_decodes type rest) refl)
entry_decodes (Group types) rest = rw (list_decodes sub_encoding sub_at sub_decodes types rest) refl

pub same : (xs ys : List (RecGroup ℕ)) → framed_encoding (rec_groups_encoding xs) ≡ framed_encoding (rec_groups_encoding ys) → xs ≡ ys
unfolding framed_encoding
same xs ys e =
    let contents = (apart unsigned_encoding unsigned_at unsigned_decodes (length (rec_groups_encoding xs)) (length (rec_groups_encoding ys)) (rec_groups_encoding xs) (rec_groups_encoding ys) e).1 in
    (apart rec_groups_encoding (list_at entry_at) (list_decodes rec_group_encoding entry_at entry_decodes) xs ys [] [] (ap (λ (l : List ℕ). l ++ []) contents)).0

encodings_length : {A : Type 0} (bytes : A → List ℕ) (xs : List A) → length (flat_map bytes xs) ≡ sum_by (λ x. length (bytes x)) xs
encodings_length bytes [] = refl
encodings_length bytes (x ∷ xs) = rw (sum_by-cons (λ y. length (bytes y)) x xs, ← encodings_length bytes xs) (length-append (bytes x) (flat_map bytes xs))

pub parts : (xs : List (RecGroup ℕ)) → length (rec_groups_encoding xs) ≡ length (unsigned_encoding (length xs)) + sum_by (λ x. length (rec_group_encoding x)) xs
unfolding list_encoding
parts xs = omega (arith, length-append (unsigned_encoding (length xs)) (flat_map rec_group_encoding xs), encodings_length rec_group_encoding xs)
