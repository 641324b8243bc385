-- So many bytes.
use Rattle.std.proofs.Common.{◌≡◌, ℕ, ◌+◌, ◌≤◌, true, leb, List, [], length, take, drop, Some, refl, ap, arith, length-drop}
use Rattle.std.proofs.lemmas.Bool.{le-leb, leb-true}
use Rattle.std.proofs.lemmas.Option.{cond_some}
use Rattle.std.proofs.lemmas.List.{length-take}
use Rattle.std.proofs.Math.Seq.{take-length, drop-length}
use Rattle.wasm_core_read.specs.Reading.{bytes_at}

pub all_bytes : (bs : List ℕ) → bytes_at (length bs) bs ≡ Some (bs, [])
unfolding bytes_at
all_bytes bs =
    let t : leb (length bs) (length bs) ≡ true = le-leb (length bs) (length bs) (omega arith) in
    rw (t, take-length bs, drop-length bs) refl

pub bytes_length : (n : ℕ) (bs x rest : List ℕ) → bytes_at n bs ≡ Some (x, rest) → (length x ≡ n) × (n + length rest ≡ length bs)
unfolding bytes_at
bytes_length n bs x rest e =
    let p = cond_some (leb n (length bs)) (take n bs, drop n bs) (x, rest) e in
    let le : n ≤ length bs = leb-true n (length bs) p.0 in
    let x-is : take n bs ≡ x = ap (λ (q : List ℕ × List ℕ). q.0) p.1 in
    let rest-is : drop n bs ≡ rest = ap (λ (q : List ℕ × List ℕ). q.1) p.1 in
    (rw (← x-is) (omega (arith, length-take n bs)), rw (← rest-is) (omega (arith, length-drop n bs)))
