-- Passing over items one after the other, and reading again what was passed.
use Rattle.std.proofs.Common.{◌≡◌, ℕ, suc, ◌-◌, ◌+◌, ◌≤◌, ◌<◌, List, [], ◌∷◌, ◌++◌, Option, Some, None, refl, sym, ap, subst, ◌∙◌, length, take, arith, length-append}
use Rattle.std.proofs.lemmas.List.{append-nil}
use Rattle.wasm_core_read.specs.Laws.{ReadsExactly}
use Rattle.wasm_core_read.specs.Reading.{◌>>=◌, ReadingOf, unsigned_at}
use Rattle.wasm_core_read.specs.TypeReading.{items_at, list_at}
use Rattle.wasm_core_read.proofs.Forms.{some_is}
use Rattle.wasm_spec.specs.Bytes.{AreBytes}
use Rattle.wasmparser_readers.specs.Passing.{rest_of, read_or}

-- ---- a list, item by item

pub count_unread : {A : Type 0} (item_at : ReadingOf A) (bytes : List ℕ) → unsigned_at 32 bytes ≡ None → list_at item_at bytes ≡ None
unfolding list_at
count_unread item_at bytes e = rw e refl

pub begins : {A : Type 0} (item_at : ReadingOf A) (bytes rest : List ℕ) (count : ℕ) → unsigned_at 32 bytes ≡ Some (count, rest) → rest_of (items_at item_at (count - 0) rest) ≡ rest_of (list_at item_at bytes)
unfolding list_at
begins item_at bytes rest count h =
    let k : count - 0 ≡ count = omega arith in
    rw (k, h) refl

-- what is left after the others is left after the first and the others
others_left : {A : Type 0} (v : A) (read : Option (List A × List ℕ)) → rest_of (read >>= λ others. Some (v ∷ others.0, others.1)) ≡ rest_of read
others_left v None = refl
others_left v (Some read) = refl

pub goes_on : {A : Type 0} (item_at : ReadingOf A) (count i : ℕ) (bytes after : List ℕ) (total : Option (List ℕ)) → i < count → rest_of (item_at bytes) ≡ Some after
    → rest_of (items_at item_at (count - i) bytes) ≡ total → rest_of (items_at item_at (count - (i + 1)) after) ≡ total
unfolding items_at
goes_on {A = A} item_at count i bytes after total lt h so_far =
    let k : count - i ≡ suc (count - (i + 1)) = omega arith in
    by_read (item_at bytes) h (rw k at so_far)
  where
    by_read : (read : Option (A × List ℕ)) → rest_of read ≡ Some after
        → rest_of (read >>= λ first. items_at item_at (count - (i + 1)) first.1 >>= λ others. Some (first.0 ∷ others.0, others.1)) ≡ total
        → rest_of (items_at item_at (count - (i + 1)) after) ≡ total
    by_read None e f = absurd cc
    by_read (Some read) e f =
        let r : read.1 ≡ after = some_is read.1 after e in
        ap (λ (l : List ℕ). rest_of (items_at item_at (count - (i + 1)) l)) (sym r) ∙ sym (others_left read.0 (items_at item_at (count - (i + 1)) read.1)) ∙ f

nothing_left : {A : Type 0} (read : Option (A × List ℕ)) → rest_of read ≡ None → read ≡ None
nothing_left None e = refl
nothing_left (Some read) e = absurd cc

pub ends : {A : Type 0} (item_at : ReadingOf A) (count i : ℕ) (bytes all : List ℕ) → i < count → item_at bytes ≡ None
    → rest_of (items_at item_at (count - i) bytes) ≡ rest_of (list_at item_at all) → list_at item_at all ≡ None
unfolding items_at
ends item_at count i bytes all lt h so_far =
    let k : count - i ≡ suc (count - (i + 1)) = omega arith in
    let one : rest_of (items_at item_at (count - i) bytes) ≡ None = rw (k, h) refl in
    nothing_left (list_at item_at all) (sym so_far ∙ one)

pub is_done : {A : Type 0} (item_at : ReadingOf A) (count i : ℕ) (bytes all : List ℕ) → count ≤ i → rest_of (items_at item_at (count - i) bytes) ≡ rest_of (list_at item_at all) → rest_of (list_at item_at all) ≡ Some bytes
unfolding items_at
is_done item_at count i bytes all le so_far =
    let k : count - i ≡ 0 = omega arith in
    let one : rest_of (items_at item_at (count - i) bytes) ≡ Some bytes = rw k refl in
    sym so_far ∙ one

-- what a loop over a count cites
pub ruleset pass_loop = (count_unread, begins, goes_on, ends, is_done)

-- ---- what was passed reads as it did

front_is : (front rest : List ℕ) → take (length (front ++ rest) - length rest) (front ++ rest) ≡ front
front_is [] [] = refl
front_is [] (b ∷ rest) = let k : length (b ∷ rest) - length (b ∷ rest) ≡ 0 = omega arith in rw k refl
front_is (b ∷ front) rest =
    let k : length ((b ∷ front) ++ rest) - length rest ≡ suc (length (front ++ rest) - length rest) = omega (arith, length-append front rest) in
    rw k (ap (λ (l : List ℕ). b ∷ l) (front_is front rest))

pub reads_again : {A : Type 0} (IsA : List ℕ → A → Type 0) (a_at : ReadingOf A) → ReadsExactly IsA a_at → (default : A) (bytes rest : List ℕ) → AreBytes bytes → rest_of (a_at bytes) ≡ Some rest
    → (a_at bytes ≡ Some (read_or default (a_at (take (length bytes - length rest) bytes)), rest)) × (a_at (take (length bytes - length rest) bytes) ≡ Some (read_or default (a_at (take (length bytes - length rest) bytes)), []))
reads_again {A = A} IsA a_at exact default bytes rest are h = by_read (a_at bytes) refl h
  where
    by_read : (read : Option (A × List ℕ)) → a_at bytes ≡ read → rest_of read ≡ Some rest
        → (a_at bytes ≡ Some (read_or default (a_at (take (length bytes - length rest) bytes)), rest)) × (a_at (take (length bytes - length rest) bytes) ≡ Some (read_or default (a_at (take (length bytes - length rest) bytes)), []))
    by_read None e f = absurd cc
    by_read (Some read) e f =
        let r : read.1 ≡ rest = some_is read.1 rest f in
        let x = exact.found bytes read.0 read.1 are e in
        let whole : bytes ≡ x.0 ++ rest = x.1 ∙ ap (λ (l : List ℕ). x.0 ++ l) r in
        let part : take (length bytes - length rest) bytes ≡ x.0 = ap (λ (l : List ℕ). take (length l - length rest) l) whole ∙ front_is x.0 rest in
        let again : a_at (take (length bytes - length rest) bytes) ≡ Some (read.0, []) = ap a_at (part ∙ sym (append-nil x.0)) ∙ exact.again x.0 read.0 [] x.2 in
        let value : read_or default (a_at (take (length bytes - length rest) bytes)) ≡ read.0 = rw again refl in
        (e ∙ ap (λ (l : List ℕ). Some (read.0, l)) r ∙ ap (λ (v : A). Some (v, rest)) (sym value), again ∙ ap (λ (v : A). Some (v, [])) (sym value))
