-- The bytes that draws take, and where growing ends.
use Rattle.std.proofs.Common.{◌≡◌, ℕ, ◌+◌, ◌-◌, ◌<◌, ◌≤◌, Bool, true, false, List, length, take, drop, Option, Some, None, ap, sym, arith, nat_lt, nat_le, if◌then◌else◌}
use Rattle.std.proofs.lemmas.Bool.{lt-ltb}
use Rattle.std.proofs.lemmas.List.{length-take, length-drop}
use Rattle.wasm_smith_types.specs.Growing.{grows_at, grows_from}
use Rattle.wasm_smith_unstructured.specs.Draws.{bytes_at}

-- bytes that were taken, with those that are left, are those that there were
pub bytes_taken : (n : ℕ) (front s t : List ℕ) → bytes_at n s ≡ (Some front, t) → length front + length t ≡ length s
unfolding bytes_at
bytes_taken n front s t e = by_test (nat_le n (length s)) e
  where
    by_test : (b : Bool) → ◌≡◌ {A = Option (List ℕ) × List ℕ} (if b then (Some (take n s), drop n s) else (None, s)) (Some front, t) → length front + length t ≡ length s
    by_test true is =
        let first : Some (take n s) ≡ Some front = ap (λ (p : Option (List ℕ) × List ℕ). p.0) is in
        let front_is : take n s ≡ front = cc in
        let left : drop n s ≡ t = ap (λ (p : Option (List ℕ) × List ℕ). p.1) is in
        rw (sym front_is, sym left) (omega (arith, length-take n s, length-drop n s))
    by_test false is = absurd (let first : None ≡ Some front = ap (λ (p : Option (List ℕ) × List ℕ). p.0) is in cc)

-- ---- growing

true_is_not_false : true ≡ false → ⊥
true_is_not_false e = cc

goes_on : (least most count : ℕ) (s t : List ℕ) → least ≤ most → count < least → grows_at least most count s ≡ (false, t) → ⊥
unfolding grows_at grows_from
goes_on least most count s t le few last =
    let room : nat_lt 0 (most - count) ≡ true = lt-ltb 0 (most - count) (omega arith) in
    let owed : nat_lt 0 (least - count) ≡ true = lt-ltb 0 (least - count) (omega arith) in
    let both : (true, s) ≡ (false, t) = rw (room, owed) at last in
    let is : true ≡ false = ap (λ (p : Bool × List ℕ). p.0) both in true_is_not_false is

-- if growing ends below the minimum, no item can be made
pub none_made : (can possible : Bool) (least most count : ℕ) (s t : List ℕ) → can ≡ possible → least ≤ most → (if can then grows_at least most count s else (false, s)) ≡ (false, t) → count < least → possible ≡ false
none_made true possible least most count s t is le last few = absurd (goes_on least most count s t le few last)
none_made false possible least most count s t is le last few = sym is
