-- What a map from keys to groups says.
use Rattle.std.specs.Prelude.{ℕ, List, Option, Vec, map}
use Rattle.std.specs.Cmp.Lexicographic.{slice_cmp}
use Rattle.std.specs.Map.{lookup}
use Rattle.std.specs.Ordering.{is_eq, nat_cmp}
use Rattle.std.specs.declared.alloc.Global.{Global}

-- entries by what their keys hold
abbrev pub keyed : List (Vec ℕ Global × ℕ) → List (List ℕ × ℕ)
keyed entries = map (λ entry. (entry.0.items, entry.1)) entries

-- the group with this key
abbrev pub found : List (List ℕ × ℕ) → List ℕ → Option ℕ
found entries key = lookup (λ other. is_eq (slice_cmp nat_cmp key other)) entries
