-- Encodings one after the other, as a loop writes them.
use Rattle.std.proofs.Common.{◌≡◌, ℕ, zero, suc, ◌+◌, ◌<◌, ◌≤◌, List, [], ◌∷◌, ◌++◌, length, get_or, drop, refl, sym, ap, ◌∙◌, arith, append_assoc, length-append, add-one}
use Rattle.std.proofs.lemmas.List.{append-nil, length-map}
use Rattle.std.proofs.Math.Seq.{drop-cons}
use Rattle.wasm_spec.specs.Shortest.{unsigned_encoding, list_encoding, framed_encoding}
use Rattle.std.specs.List.{flat_map}

encoding_of_rest : {A : Type 0} (bytes : A → List ℕ) (xs : List A) (i : ℕ) (x : A) → i < length xs → x ≡ get_or xs i x → flat_map bytes (drop i xs) ≡ bytes x ++ flat_map bytes (drop (i + 1) xs)
encoding_of_rest bytes xs i x p e = rw (drop-cons xs i x p, ← e, add-one) refl

-- an item has been written
pub writes_item : {A : Type 0} (bytes : A → List ℕ) (xs : List A) (i : ℕ) (x : A) (front : List ℕ) → i < length xs → x ≡ get_or xs i x → (front ++ bytes x) ++ flat_map bytes (drop (i + 1) xs) ≡ front ++ flat_map bytes (drop i xs)
writes_item bytes xs i x front p e = rw (encoding_of_rest bytes xs i x p e, append_assoc) refl

pub length_of_rest : {A : Type 0} (bytes : A → List ℕ) (xs : List A) (i : ℕ) (x : A) → i < length xs → x ≡ get_or xs i x → length (flat_map bytes (drop i xs)) ≡ length (bytes x) + length (flat_map bytes (drop (i + 1) xs))
length_of_rest bytes xs i x p e = rw (encoding_of_rest bytes xs i x p e) (length-append (bytes x) (flat_map bytes (drop (i + 1) xs)))

pub nothing_left : {A : Type 0} (bytes : A → List ℕ) (xs : List A) (i : ℕ) → length xs ≤ i → flat_map bytes (drop i xs) ≡ []
nothing_left bytes [] zero p = refl
nothing_left bytes [] (suc i) p = refl
nothing_left bytes (x ∷ xs) zero p = absurd (omega arith)
nothing_left bytes (x ∷ xs) (suc i) p = nothing_left bytes xs i (omega arith)

-- all items have been written
pub all_written : {A : Type 0} (bytes : A → List ℕ) (xs : List A) (i : ℕ) (front : List ℕ) → length xs ≤ i → front ++ flat_map bytes (drop i xs) ≡ front
all_written bytes xs i front p = rw (nothing_left bytes xs i p) (append-nil front)

pub ruleset list_steps = (writes_item, length_of_rest, nothing_left, all_written, append_assoc, length-append)

pub list_length : {A : Type 0} (bytes : A → List ℕ) (xs : List A) → length (list_encoding bytes xs) ≡ length (unsigned_encoding (length xs)) + length (flat_map bytes xs)
unfolding list_encoding
list_length bytes xs = length-append (unsigned_encoding (length xs)) (flat_map bytes xs)

-- the encodings of items and of one after them
pub one_more : {A : Type 0} (bytes : A → List ℕ) (xs : List A) (x : A) → flat_map bytes (xs ++ x ∷ []) ≡ flat_map bytes xs ++ bytes x
one_more bytes [] x = append-nil (bytes x)
one_more bytes (y ∷ ys) x = ap (λ (l : List ℕ). bytes y ++ l) (one_more bytes ys x) ∙ (simp append_assoc)

pub ruleset sizes = (list_length, one_more, length-append, length-map)

pub framed_length : (content : List ℕ) → length (framed_encoding content) ≡ length content + length (unsigned_encoding (length content))
unfolding framed_encoding
framed_length content = omega (arith, length-append (unsigned_encoding (length content)) content)

pub framed_parts : (content front : List ℕ) → (front ++ unsigned_encoding (length content)) ++ content ≡ front ++ framed_encoding content
unfolding framed_encoding
framed_parts content front = simp append_assoc

pub ruleset framed_steps = (framed_length, framed_parts)

-- the length of an encoding in parts, and the parts as one encoding
pub ruleset parts = (length-append, append_assoc)

item_of_encodings : {A : Type 0} (bytes : A → List ℕ) (xs : List A) (i : ℕ) (x : A) → i < length xs → x ≡ get_or xs i x → length (bytes x) ≤ length (flat_map bytes xs)
item_of_encodings bytes [] i x p e = absurd (omega arith)
item_of_encodings bytes (y ∷ ys) zero x p e = rw e (omega (arith, length-append (bytes y) (flat_map bytes ys)))
item_of_encodings bytes (y ∷ ys) (suc i) x p e = omega (arith, length-append (bytes y) (flat_map bytes ys), item_of_encodings bytes ys i x (omega arith) e)

-- no item is longer than the list
pub item_within : {A : Type 0} (bytes : A → List ℕ) (xs : List A) (i : ℕ) (x : A) → i < length xs → x ≡ get_or xs i x → length (bytes x) ≤ length (list_encoding bytes xs)
unfolding list_encoding
item_within bytes xs i x p e = omega (arith, length-append (unsigned_encoding (length xs)) (flat_map bytes xs), item_of_encodings bytes xs i x p e)

pub ruleset item_steps = (item_within)
