-- Reading items one after the other, as a loop does.
use Rattle.std.proofs.Common.{◌≡◌, ℕ, suc, ◌-◌, ◌+◌, ◌≤◌, ◌<◌, List, [], ◌∷◌, ◌++◌, Option, Some, None, refl, sym, ap, ◌∙◌, append_assoc, arith}
use Rattle.std.proofs.lemmas.List.{append-nil, map_push}
use Rattle.wasm_core_read.specs.Reading.{◌>>=◌, unsigned_at}
use Rattle.wasm_core_read.specs.TypeReading.{items_at, list_at}

-- what was read before, and what is still read
abbrev pub with_front : {A : Type 0} → List A → Option (List A × List ℕ) → Option (List A × List ℕ)
with_front front read = read >>= λ x. Some (front ++ x.0, x.1)

no_front : {A : Type 0} (read : Option (List A × List ℕ)) → with_front [] read ≡ read
no_front (Some x) = refl
no_front None = refl

regroup : {A : Type 0} (front : List A) (v : A) (read : Option (List A × List ℕ)) → with_front front (read >>= λ x. Some (v ∷ x.0, x.1)) ≡ with_front (front ++ v ∷ []) read
regroup front v (Some x) = ap (λ vs. Some (vs, x.1)) (simp append_assoc)
regroup front v None = refl

pub begins : {A : Type 0} (item_at : List ℕ → Option (A × List ℕ)) (bytes rest : List ℕ) (count : ℕ) → unsigned_at 32 bytes ≡ Some (count, rest) → with_front [] (items_at item_at (count - 0) rest) ≡ list_at item_at bytes
unfolding list_at
begins item_at bytes rest count h =
    let k : count - 0 ≡ count = omega arith in
    rw (k, h) (no_front (items_at item_at count rest))

pub goes_on : {A : Type 0} (item_at : List ℕ → Option (A × List ℕ)) (front : List A) (count i : ℕ) (bytes : List ℕ) (v : A) (after : List ℕ) (total : Option (List A × List ℕ)) → i < count → item_at bytes ≡ Some (v, after)
    → with_front front (items_at item_at (count - i) bytes) ≡ total → with_front (front ++ v ∷ []) (items_at item_at (count - (i + 1)) after) ≡ total
unfolding items_at
goes_on item_at front count i bytes v after total lt h so_far =
    let k : count - i ≡ suc (count - (i + 1)) = omega arith in
    let one : with_front front (items_at item_at (count - i) bytes) ≡ with_front (front ++ v ∷ []) (items_at item_at (count - (i + 1)) after) = rw (k, h) (regroup front v (items_at item_at (count - (i + 1)) after)) in
    sym one ∙ so_far

pub ends : {A : Type 0} (item_at : List ℕ → Option (A × List ℕ)) (front : List A) (count i : ℕ) (bytes : List ℕ) (total : Option (List A × List ℕ)) → i < count → item_at bytes ≡ None
    → with_front front (items_at item_at (count - i) bytes) ≡ total → total ≡ None
unfolding items_at
ends item_at front count i bytes total lt h so_far =
    let k : count - i ≡ suc (count - (i + 1)) = omega arith in
    let one : with_front front (items_at item_at (count - i) bytes) ≡ None = rw (k, h) refl in
    sym so_far ∙ one

pub is_done : {A : Type 0} (item_at : List ℕ → Option (A × List ℕ)) (front : List A) (count i : ℕ) (bytes : List ℕ) (total : Option (List A × List ℕ)) → count ≤ i → with_front front (items_at item_at (count - i) bytes) ≡ total → total ≡ Some (front, bytes)
unfolding items_at
is_done item_at front count i bytes total le so_far =
    let k : count - i ≡ 0 = omega arith in
    let one : with_front front (items_at item_at (count - i) bytes) ≡ Some (front, bytes) = rw k (ap (λ vs. Some (vs, bytes)) (append-nil front)) in
    sym so_far ∙ one

-- what a loop over a count cites
pub ruleset list_loop = (begins, goes_on, ends, is_done, map_push)
