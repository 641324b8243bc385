-- The ids of a range.
use Rattle.std.proofs.Common.{◌≡◌, ℕ, suc, zero, ◌+◌, ◌-◌, ◌<◌, ◌≤◌, [], ◌∷◌, length, refl, ap, arith}
use Rattle.std.specs.List.{range_with_len}

pub ids_count : (first count : ℕ) → length (range_with_len first count) ≡ count
ids_count first zero = refl
ids_count first (suc count) = omega (arith, ids_count (first + 1) count)

-- the first one, and the others
pub one_more : (first end : ℕ) → first < end → range_with_len first (end - first) ≡ first ∷ range_with_len (first + 1) (end - (first + 1))
one_more first end less = let left : end - first ≡ suc (end - (first + 1)) = omega (arith, less) in ap (range_with_len first) left

pub none_left : (first end : ℕ) → end ≤ first → range_with_len first (end - first) ≡ []
none_left first end past = let left : end - first ≡ 0 = omega (arith, past) in ap (range_with_len first) left
