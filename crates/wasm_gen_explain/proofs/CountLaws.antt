-- Counting what the items of a list are.
use Rattle.std.proofs.Common.{◌≡◌, ℕ, suc, ◌-◌, ◌+◌, ◌≤◌, ◌<◌, List, ◌∷◌, Option, Some, None, refl, sym, ap, ◌∙◌, arith}
use Rattle.wasm_core_read.specs.Reading.{◌>>=◌, ReadingOf, seen_at, unsigned_at}
use Rattle.wasm_core_read.specs.TypeReading.{items_at, list_at}
use Rattle.wasm_core_read.proofs.ReadingLaws.{some_is}
use Rattle.wasm_gen_explain.specs.Imports.{counted}

-- the count so far, and that of further items
abbrev pub counting : {A : Type 0} → (A → ℕ) → ℕ → Option (List A × List ℕ) → Option (ℕ × List ℕ)
counting count so_far None = None
counting count so_far (Some read) = Some (so_far + counted count read.0, read.1)

abbrev count_of : {A : Type 0} → (A → ℕ) → Option (A × List ℕ) → Option (ℕ × List ℕ)
count_of count read = read >>= λ x. Some (count x.0, x.1)

whole : {A : Type 0} (count : A → ℕ) (read : Option (List A × List ℕ)) → count_of (counted count) read ≡ counting count 0 read
whole count None = refl
whole count (Some read) = let e : counted count read.0 ≡ 0 + counted count read.0 = omega arith in ap (λ (k : ℕ). Some (k, read.1)) e

pub count_unread : {A : Type 0} (item_at : ReadingOf A) (bytes : List ℕ) → unsigned_at 32 bytes ≡ None → list_at item_at bytes ≡ None
unfolding list_at
count_unread item_at bytes e = rw e refl

pub begins : {A : Type 0} (count : A → ℕ) (item_at : ReadingOf A) (bytes rest : List ℕ) (n : ℕ) → unsigned_at 32 bytes ≡ Some (n, rest) → counting count 0 (items_at item_at (n - 0) rest) ≡ counting count 0 (list_at item_at bytes)
unfolding list_at
begins count item_at bytes rest n h =
    let k : n - 0 ≡ n = omega arith in
    rw (k, h) refl

-- the first item and the others count as much as all
others_counted : {A : Type 0} (count : A → ℕ) (so_far : ℕ) (item : A) (read : Option (List A × List ℕ)) → counting count (so_far + count item) read ≡ counting count so_far (read >>= λ others. Some (item ∷ others.0, others.1))
others_counted count so_far item None = refl
others_counted count so_far item (Some read) =
    let e : so_far + count item + counted count read.0 ≡ so_far + (count item + counted count read.0) = omega arith in
    ap (λ (k : ℕ). Some (k, read.1)) e

pub goes_on : {A : Type 0} (count : A → ℕ) (item_at : ReadingOf A) (n i so_far v : ℕ) (bytes after : List ℕ) (total : Option (ℕ × List ℕ)) → i < n → seen_at count item_at bytes ≡ Some (v, after)
    → counting count so_far (items_at item_at (n - i) bytes) ≡ total → counting count (so_far + v) (items_at item_at (n - (i + 1)) after) ≡ total
unfolding items_at
goes_on {A = A} count item_at n i so_far v bytes after total lt h holds =
    let k : n - i ≡ suc (n - (i + 1)) = omega arith in
    by_read (item_at bytes) h (rw k at holds)
  where
    by_read : (read : Option (A × List ℕ)) → count_of count read ≡ Some (v, after)
        → counting count so_far (read >>= λ first. items_at item_at (n - (i + 1)) first.1 >>= λ others. Some (first.0 ∷ others.0, others.1)) ≡ total
        → counting count (so_far + v) (items_at item_at (n - (i + 1)) after) ≡ total
    by_read None e f = absurd cc
    by_read (Some read) e f =
        let r = some_is (count read.0, read.1) (v, after) e in
        ap (λ (p : ℕ × List ℕ). counting count (so_far + p.0) (items_at item_at (n - (i + 1)) p.1)) (sym r) ∙ others_counted count so_far read.0 (items_at item_at (n - (i + 1)) read.1) ∙ f

none_counted : {A : Type 0} (count : A → ℕ) (read : Option (List A × List ℕ)) → counting count 0 read ≡ None → read ≡ None
none_counted count None e = refl
none_counted count (Some read) e = absurd cc

pub ends : {A : Type 0} (count : A → ℕ) (item_at : ReadingOf A) (n i so_far : ℕ) (bytes all : List ℕ) → i < n → seen_at count item_at bytes ≡ None
    → counting count so_far (items_at item_at (n - i) bytes) ≡ counting count 0 (list_at item_at all) → seen_at (counted count) (list_at item_at) all ≡ None
unfolding items_at
ends {A = A} count item_at n i so_far bytes all lt h holds =
    let k : n - i ≡ suc (n - (i + 1)) = omega arith in
    let one : counting count so_far (items_at item_at (n - i) bytes) ≡ None = rw k (by_read (item_at bytes) h) in
    rw (none_counted count (list_at item_at all) (sym holds ∙ one)) refl
  where
    by_read : (read : Option (A × List ℕ)) → count_of count read ≡ None
        → counting count so_far (read >>= λ first. items_at item_at (n - (i + 1)) first.1 >>= λ others. Some (first.0 ∷ others.0, others.1)) ≡ None
    by_read None e = refl
    by_read (Some read) e = absurd cc

pub is_done : {A : Type 0} (count : A → ℕ) (item_at : ReadingOf A) (n i so_far : ℕ) (bytes all : List ℕ) → n ≤ i → counting count so_far (items_at item_at (n - i) bytes) ≡ counting count 0 (list_at item_at all)
    → seen_at (counted count) (list_at item_at) all ≡ Some (so_far, bytes)
unfolding items_at
is_done count item_at n i so_far bytes all le holds =
    let k : n - i ≡ 0 = omega arith in
    let none : so_far + 0 ≡ so_far = omega arith in
    whole count (list_at item_at all) ∙ sym holds ∙ rw k (ap (λ (v : ℕ). Some (v, bytes)) none)

-- (cited by a loop that counts)
pub ruleset count_loop = (count_unread, begins, goes_on, ends, is_done)
