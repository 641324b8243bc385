-- Lists that operators borrow from the input, read again.
use Rattle.std.proofs.Common.{◌≡◌, ◌-◌, ◌<◌, ℕ, zero, suc, List, [], ◌∷◌, Option, Some, None, refl, sym, ap, ◌∙◌, length, take, arith, cond, eqb, Bool, true, false, inl, inr, ◌⊎◌}
use Rattle.std.proofs.lemmas.Bool.Decides.{eqb_tells}
use Rattle.wasm_core_read.specs.Reading.{◌>>=◌, unsigned_at, seen_at}
use Rattle.wasm_core_read.specs.TypeReading.{items_at, list_at, val_type_at}
use Rattle.wasm_core_read.proofs.Forms.{some_is, reads_unsigned}
use Rattle.wasm_core_read.proofs.ListForms.{reads_list, list_count}
use Rattle.wasm_core_read.proofs.TypeForms.{reads_val_type}
use Rattle.wasm_spec.specs.Bytes.{AreBytes, IsU32, IsList}
use Rattle.wasm_spec.specs.TypeGrammar.{IsValType}
use Rattle.wasm_spec.specs.Types.{ValType}
use Rattle.wasm_spec.specs.TypeReferences.{val_map}
use Rattle.wasmparser_types.specs.Index.{Index}
use Rattle.wasmparser_readers.specs.PackedReading.{packed_index, packed_val_at}
use Rattle.wasmparser_readers.proofs.MappedReading.{given}
use Rattle.wasmparser_readers.proofs.ModuleLaws.{val_unread}
use Rattle.wasmparser_readers.proofs.PackedLaws.{val_is}
use Rattle.wasmparser_readers.specs.Passing.{rest_of}
use Rattle.wasmparser_readers.proofs.PassingLaws.{reads_again}
use Rattle.wasmparser_operators.specs.BorrowedLists.{labels_of, AreLabels, types_of, AreTypes, begins_with_one, some_labels, AreSoMany}
use Rattle.wasmparser_operators.specs.OperatorReading.{Packed, is_small, are_kept, kept_type_at, types_at}

-- ---- counts

pub labels_counted : (bytes : List ℕ) (n : ℕ) (rest : List ℕ) → AreLabels bytes → unsigned_at 32 bytes ≡ Some (n, rest) → n ≡ length (labels_of bytes)
labels_counted bytes n rest are e =
    let c = list_count (unsigned_at 32) bytes (labels_of bytes) [] are.0 in
    ap (λ (x : ℕ × List ℕ). x.0) (some_is (n, rest) (length (labels_of bytes), c.0) (sym e ∙ c.1))

pub labels_uncounted : (bytes : List ℕ) → AreLabels bytes → unsigned_at 32 bytes ≡ None → length (labels_of bytes) ≡ 0
labels_uncounted bytes are e = let c = list_count (unsigned_at 32) bytes (labels_of bytes) [] are.0 in let f = sym e ∙ c.1 in absurd cc

pub labels_left : (bytes : List ℕ) (n : ℕ) (rest : List ℕ) → AreLabels bytes → unsigned_at 32 bytes ≡ Some (n, rest) → (some_labels n rest ≡ labels_of bytes) × AreSoMany n rest
unfolding list_at
labels_left bytes n rest are e =
    let all : items_at (unsigned_at 32) n rest ≡ Some (labels_of bytes, []) = sym (rw e refl) ∙ are.0 in
    let value : some_labels n rest ≡ labels_of bytes = rw all refl in
    (value, all ∙ ap (λ (l : List ℕ). Some (l, [])) (sym value))

pub no_labels_left : (bytes : List ℕ) → AreLabels bytes → unsigned_at 32 bytes ≡ None → ⊥
no_labels_left bytes are e = let c = list_count (unsigned_at 32) bytes (labels_of bytes) [] are.0 in let f = sym e ∙ c.1 in absurd cc

pub ruleset label_counts = (labels_counted, labels_uncounted, labels_left, no_labels_left)

pub types_counted : (bytes : List ℕ) (n : ℕ) (rest : List ℕ) → AreTypes bytes → unsigned_at 32 bytes ≡ Some (n, rest) → n ≡ length (types_of bytes)
types_counted bytes n rest are e =
    let c = list_count val_type_at bytes (types_of bytes) [] are.0 in
    ap (λ (x : ℕ × List ℕ). x.0) (some_is (n, rest) (length (types_of bytes), c.0) (sym e ∙ c.1))

pub types_uncounted : (bytes : List ℕ) → AreTypes bytes → unsigned_at 32 bytes ≡ None → length (types_of bytes) ≡ 0
types_uncounted bytes are e = let c = list_count val_type_at bytes (types_of bytes) [] are.0 in let f = sym e ∙ c.1 in absurd cc

pub ruleset type_counts = (types_counted, types_uncounted)

-- ---- label by label

pub none_left : (count : ℕ) (bytes : List ℕ) → count ≡ 0 → some_labels count bytes ≡ []
unfolding items_at
none_left count bytes e = rw e refl

abbrev first_and : ℕ → Option (List ℕ × List ℕ) → Option (List ℕ × List ℕ)
first_and v read = read >>= λ others. Some (v ∷ others.0, others.1)

pub label_first : (count : ℕ) (bytes : List ℕ) (v : ℕ) (rest : List ℕ) → 0 < count → AreSoMany count bytes → unsigned_at 32 bytes ≡ Some (v, rest) → (some_labels count bytes ≡ v ∷ some_labels (count - 1) rest) × AreSoMany (count - 1) rest
unfolding items_at
label_first zero bytes v rest lt are e = absurd (omega (arith, lt))
label_first (suc n) bytes v rest lt are e =
    let k : suc n - 1 ≡ n = omega arith in
    let one : items_at (unsigned_at 32) (suc n) bytes ≡ first_and v (items_at (unsigned_at 32) n rest) = rw e refl in
    rw k (by_read (items_at (unsigned_at 32) n rest) refl (sym one ∙ are))
  where
    by_read : (read : Option (List ℕ × List ℕ)) → items_at (unsigned_at 32) n rest ≡ read → first_and v read ≡ Some (some_labels (suc n) bytes, [])
        → (some_labels (suc n) bytes ≡ v ∷ some_labels n rest) × AreSoMany n rest
    by_read None f g = absurd cc
    by_read (Some x) f g =
        let same = some_is (v ∷ x.0, x.1) (some_labels (suc n) bytes, []) g in
        let value : some_labels n rest ≡ x.0 = rw f refl in
        let ended : x.1 ≡ [] = ap (λ (y : List ℕ × List ℕ). y.1) same in (
          sym (ap (λ (y : List ℕ × List ℕ). y.0) same) ∙ ap (λ (l : List ℕ). v ∷ l) (sym value),
          f ∙ ap (λ (l : List ℕ). Some (x.0, l)) ended ∙ ap (λ (l : List ℕ). Some (l, [])) (sym value),
        )

pub label_missing : (count : ℕ) (bytes : List ℕ) → 0 < count → AreSoMany count bytes → unsigned_at 32 bytes ≡ None → ⊥
unfolding items_at
label_missing zero bytes lt are e = omega (arith, lt)
label_missing (suc n) bytes lt are e =
    let none : items_at (unsigned_at 32) (suc n) bytes ≡ None = rw e refl in
    let f = sym none ∙ are in
    absurd cc

pub ruleset label_steps = (none_left, label_first, label_missing)

-- ---- reading again

pub labels_whole : (bytes rest : List ℕ) → AreBytes bytes → rest_of (list_at (unsigned_at 32) bytes) ≡ Some rest → list_at (unsigned_at 32) bytes ≡ Some (labels_of (take (length bytes - length rest) bytes), rest)
labels_whole bytes rest are e = (reads_again (IsList IsU32) (list_at (unsigned_at 32)) (reads_list IsU32 (unsigned_at 32) (reads_unsigned 32)) [] bytes rest are e).0

pub labels_part : (bytes rest : List ℕ) → AreBytes bytes → rest_of (list_at (unsigned_at 32) bytes) ≡ Some rest
    → list_at (unsigned_at 32) (take (length bytes - length rest) bytes) ≡ Some (labels_of (take (length bytes - length rest) bytes), [])
labels_part bytes rest are e = (reads_again (IsList IsU32) (list_at (unsigned_at 32)) (reads_list IsU32 (unsigned_at 32) (reads_unsigned 32)) [] bytes rest are e).1

pub ruleset labels_again = (labels_whole, labels_part)

pub types_whole : (bytes rest : List ℕ) → AreBytes bytes → rest_of (list_at val_type_at bytes) ≡ Some rest → list_at val_type_at bytes ≡ Some (types_of (take (length bytes - length rest) bytes), rest)
types_whole bytes rest are e = (reads_again (IsList IsValType) (list_at val_type_at) (reads_list IsValType val_type_at reads_val_type) [] bytes rest are e).0

pub types_part : (bytes rest : List ℕ) → AreBytes bytes → rest_of (list_at val_type_at bytes) ≡ Some rest
    → list_at val_type_at (take (length bytes - length rest) bytes) ≡ Some (types_of (take (length bytes - length rest) bytes), [])
types_part bytes rest are e = (reads_again (IsList IsValType) (list_at val_type_at) (reads_list IsValType val_type_at reads_val_type) [] bytes rest are e).1

pub ruleset types_again = (types_whole, types_part)

-- ---- types that are passed, and lists of one

pub type_passed : (bytes : List ℕ) (v : ValType Index) (rest : List ℕ) → packed_val_at bytes ≡ Some (v, rest) → rest_of (val_type_at bytes) ≡ Some rest
type_passed bytes v rest e = by_read (val_type_at bytes) (sym (val_is bytes) ∙ e)
  where
    by_read : (read : Option (ValType ℕ × List ℕ)) → (read >>= λ a. given (val_map packed_index a.0) a.1) ≡ given v rest → rest_of read ≡ Some rest
    by_read None h = absurd cc
    by_read (Some a) h = ap (λ (q : ValType Index × List ℕ). Some q.1) (some_is (val_map packed_index a.0, a.1) (v, rest) h)

pub ruleset type_passes = (val_unread, type_passed)

same_number : (a b : ℕ) → eqb a b ≡ true → a ≡ b
same_number a b e = elim (eqb_tells a b) [ inl (t, same) ↦ same | inr (t, other) ↦ let f = sym e ∙ t in absurd cc ]

either : (b : Bool) → (b ≡ true) ⊎ (b ≡ false)
either true = inl refl
either false = inr refl

abbrev one_of : ValType ℕ → List ℕ → Option (List (ValType ℕ) × List ℕ)
one_of type rest = given (type ∷ []) rest

one_type : (bytes : List ℕ) (n : ℕ) (after : List ℕ) → begins_with_one (unsigned_at 32 bytes) ≡ true → unsigned_at 32 bytes ≡ Some (n, after) → types_at Packed bytes ≡ seen_at (λ type. type ∷ []) (kept_type_at Packed) after
unfolding types_at kept_type_at list_at items_at
one_type bytes n after one e =
    let is : n ≡ 1 = same_number n 1 (rw e at one) in
    rw (e, is) (by_read (val_type_at after))
  where
    by_read : (read : Option (ValType ℕ × List ℕ)) → ((read >>= λ first. one_of first.0 first.1) >>= λ a. cond (are_kept Packed a.0) (Some a) None)
        ≡ ((read >>= λ a. cond (is_small a.0) (Some a) None) >>= λ a. one_of a.0 a.1)
    by_read None = refl
    by_read (Some x) = elim (either (is_small x.0)) [ inl t ↦ rw t refl | inr t ↦ rw t refl ]

pub one_unread : (bytes : List ℕ) → begins_with_one (unsigned_at 32 bytes) ≡ true → unsigned_at 32 bytes ≡ None → types_at Packed bytes ≡ None
one_unread bytes one e = let f = rw e at one in absurd cc

pub one_type_unread : (bytes : List ℕ) (n : ℕ) (after : List ℕ) → begins_with_one (unsigned_at 32 bytes) ≡ true → unsigned_at 32 bytes ≡ Some (n, after) → kept_type_at Packed after ≡ None → types_at Packed bytes ≡ None
one_type_unread bytes n after one e none = one_type bytes n after one e ∙ rw none refl

pub one_type_read : (bytes : List ℕ) (n : ℕ) (after : List ℕ) (v : ValType ℕ) (rest : List ℕ) → begins_with_one (unsigned_at 32 bytes) ≡ true → unsigned_at 32 bytes ≡ Some (n, after) → kept_type_at Packed after ≡ Some (v, rest)
    → types_at Packed bytes ≡ Some (v ∷ [], rest)
one_type_read bytes n after v rest one e some = one_type bytes n after one e ∙ rw some refl

pub list_unread : (bytes : List ℕ) → list_at val_type_at bytes ≡ None → types_at Packed bytes ≡ None
unfolding types_at
list_unread bytes e = rw e refl

pub list_read : (bytes : List ℕ) (vs : List (ValType ℕ)) (rest : List ℕ) → begins_with_one (unsigned_at 32 bytes) ≡ false → list_at val_type_at bytes ≡ Some (vs, rest) → types_at Packed bytes ≡ Some (vs, rest)
unfolding types_at
list_read bytes vs rest many e = rw e (by_items vs (list_count val_type_at bytes vs rest e))
  where
    by_items : (vs : List (ValType ℕ)) → ((after : List ℕ) × (unsigned_at 32 bytes ≡ Some (length vs, after))) → cond (are_kept Packed vs) (given vs rest) None ≡ given vs rest
    by_items [] c = refl
    by_items (v ∷ []) c = let f = rw c.1 at many in absurd cc
    by_items (v ∷ w ∷ ws) c = refl

pub list_of_others : (bytes : List ℕ) (vs : List (ValType ℕ)) (rest : List ℕ) → begins_with_one (unsigned_at 32 bytes) ≡ false → list_at val_type_at bytes ≡ Some (vs, rest) → ¬ (length vs ≡ 1)
list_of_others bytes vs rest many e one = let c = list_count val_type_at bytes vs rest e in let f = rw (c.1, one) at many in absurd cc

pub ruleset select_types = (one_unread, one_type_unread, one_type_read, list_unread, list_read, list_of_others)
