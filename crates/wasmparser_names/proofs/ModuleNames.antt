-- Names of modules, as their bytes.
use Rattle.std.proofs.Common.{◌≡◌, ◌≢◌, ◌<◌, ◌≤◌, Bool, true, false, List, [], ◌∷◌, ◌++◌, ℕ, zero, suc, length, map, Some, None, cond, refl, sym, ap, subst, ◌∙◌, arith}
use Rattle.std.specs.Cmp.Lexicographic.{bytes_decides}
use Rattle.std.specs.List.{AllByRecursion, IsDistinct, list_any}
use Rattle.std.specs.Map.{lookup}
use Rattle.std.specs.String.{string_bytes}
use Rattle.std.specs.Global.{Global}
use Rattle.std.specs.declared.string.String.{String as StringIn}
use Rattle.std.specs.Prelude.{IsSome, bytes_eq, nat_eq, slice_get, ◌||◌}
use Rattle.wasmparser_names.specs.KeptExports.{hash_of}
use Rattle.wasmparser_names.specs.declared.name_hasher.NameHasher.{NameHasher}
use Rattle.wasmparser_names.specs.ModuleNames.{AreHashed, with_name}

any_or : (b : Bool) → (b || true) ≡ true
any_or true = refl
any_or false = refl

some_is : (x y : List ℕ) → Some x ≡ Some y → x ≡ y
some_is x y e = cc

is_there : (names : List (List ℕ)) (name : List ℕ) (n : ℕ) → slice_get names n ≡ Some name → list_any (bytes_eq name) names ≡ true
is_there [] name n e = absurd cc
is_there (x ∷ names) name zero e = rw ((bytes_decides name x).1 (sym (some_is x name e))) refl
is_there (x ∷ names) name (suc n) e = rw (is_there names name n e) (any_or (bytes_eq name x))

-- a name that has a number is there
pub numbered_name : (names : List (List ℕ)) (name : List ℕ) (n : ℕ) → slice_get names n ≡ Some name → names ≡ with_name names name
numbered_name names name n e = rw (is_there names name n e) refl

-- one that isn't there is kept
pub new_name : (names : List (List ℕ)) (name : List ℕ) → list_any (bytes_eq name) names ≡ false → names ++ name ∷ [] ≡ with_name names name
new_name names name none = rw none refl

-- where no place is that of a name, it isn't there
pub none_at : (name : List ℕ) (names : List (List ℕ)) → ((n : ℕ) → n < length names → slice_get names n ≢ Some name) → list_any (bytes_eq name) names ≡ false
none_at name [] differ = refl
none_at name (x ∷ names) differ = by (bytes_eq name x) refl (none_at name names (λ n few same. differ (suc n) (omega (arith, few)) same))
  where
    by : (b : Bool) → bytes_eq name x ≡ b → list_any (bytes_eq name) names ≡ false → (b || list_any (bytes_eq name) names) ≡ false
    by true same others = absurd (differ zero (omega arith) (ap (λ name. Some name) (sym ((bytes_decides name x).0 same))))
    by false other others = others

-- a name whose hash has no number isn't there
pub none_hashed : (hasher : NameHasher) (numbers : List (ℕ × ℕ)) (name : List ℕ) (names : List (List ℕ)) → AreHashed hasher numbers names → lookup (nat_eq (hash_of hasher name)) numbers ≡ None
    → list_any (bytes_eq name) names ≡ false
none_hashed hasher numbers name [] all none = refl
none_hashed hasher numbers name (x ∷ names) all none = by (bytes_eq name x) refl (none_hashed hasher numbers name names all.1 none)
  where
    no : IsSome (lookup (nat_eq (hash_of hasher name)) numbers) → ⊥
    no some = let e = subst IsSome none some in absurd cc

    by : (b : Bool) → bytes_eq name x ≡ b → list_any (bytes_eq name) names ≡ false → (b || list_any (bytes_eq name) names) ≡ false
    by true same others = absurd (no (subst (λ name. IsSome (lookup (nat_eq (hash_of hasher name)) numbers)) (sym ((bytes_decides name x).0 same)) all.0))
    by false other others = others

-- ---- one name more

bytes_differ : (x y : List ℕ) → bytes_eq x y ≡ false → bytes_eq y x ≡ false
bytes_differ x y other = by (bytes_eq y x) refl
  where
    by : (b : Bool) → bytes_eq y x ≡ b → b ≡ false
    by true same = sym ((bytes_decides x y).1 (sym ((bytes_decides y x).0 same))) ∙ other
    by false is = refl

-- a new name is distinct from the others
pub still_distinct : (name : List ℕ) (names : List (List ℕ)) → IsDistinct bytes_eq names → list_any (bytes_eq name) names ≡ false → IsDistinct bytes_eq (names ++ name ∷ [])
unfolding IsDistinct
still_distinct name [] distinct none = (tt, tt)
still_distinct name (x ∷ names) distinct none = (all names distinct.0, still_distinct name names distinct.1 (others (bytes_eq name x) none))
  where
    others : (b : Bool) → (b || list_any (bytes_eq name) names) ≡ false → list_any (bytes_eq name) names ≡ false
    others true is = absurd cc
    others false is = is

    first : (b : Bool) → (b || list_any (bytes_eq name) names) ≡ false → b ≡ false
    first true is = absurd cc
    first false is = refl

    all : (rest : List (List ℕ)) → AllByRecursion (λ other. bytes_eq x other ≡ false) rest → AllByRecursion (λ other. bytes_eq x other ≡ false) (rest ++ name ∷ [])
    all [] differ = (bytes_differ name x (first (bytes_eq name x) none), tt)
    all (other ∷ rest) differ = (differ.0, all rest differ.1)

-- some numbers, and one of a hash
abbrev pub Numbers : List (ℕ × ℕ) → ℕ → ℕ → List (ℕ × ℕ) → Type 0
Numbers old hash number new = (other : ℕ) → lookup (nat_eq other) new ≡ cond (nat_eq hash other) (Some number) (lookup (nat_eq other) old)

-- hashes that have numbers still have some
pub still_hashed : (hasher : NameHasher) (old : List (ℕ × ℕ)) (hash number : ℕ) (new : List (ℕ × ℕ)) → Numbers old hash number new → (names : List (List ℕ)) → AreHashed hasher old names → AreHashed hasher new names
still_hashed hasher old hash number new is [] all = tt
still_hashed hasher old hash number new is (x ∷ names) all = (by (nat_eq hash (hash_of hasher x)) (is (hash_of hasher x)), still_hashed hasher old hash number new is names all.1)
  where
    by : (b : Bool) → lookup (nat_eq (hash_of hasher x)) new ≡ cond b (Some number) (lookup (nat_eq (hash_of hasher x)) old) → IsSome (lookup (nat_eq (hash_of hasher x)) new)
    by true found = subst IsSome (sym found) refl
    by false found = subst IsSome (sym found) all.0

-- and so has that of the new name
pub last_hashed : (hasher : NameHasher) (numbers : List (ℕ × ℕ)) (name : List ℕ) (number : ℕ) → lookup (nat_eq (hash_of hasher name)) numbers ≡ Some number
    → (names : List (List ℕ)) → AreHashed hasher numbers names → AreHashed hasher numbers (names ++ name ∷ [])
last_hashed hasher numbers name number found [] all = (subst IsSome (sym found) refl, tt)
last_hashed hasher numbers name number found (x ∷ names) all = (all.0, last_hashed hasher numbers name number found names all.1)

-- ---- strings

abbrev String : Type 0
String = StringIn Global

-- names one after the other, and the one that is kept
pub kept_last : (names : List String) (kept : String) (name : List ℕ) → string_bytes kept ≡ name → map string_bytes (names ++ kept ∷ []) ≡ map string_bytes names ++ name ∷ []
kept_last [] kept name is = ap (λ name. name ∷ []) is
kept_last (x ∷ names) kept name is = ap (λ l. string_bytes x ∷ l) (kept_last names kept name is)

pub last_place : (names : List String) (name : List ℕ) → slice_get (map string_bytes names ++ name ∷ []) (length names) ≡ Some name
last_place [] name = refl
last_place (x ∷ names) name = last_place names name

-- ---- a look at each

pub none_in : (names : List String) (name : List ℕ) (k : ℕ) → length names ≤ k → ((n : ℕ) → n < k → slice_get (map string_bytes names) n ≢ Some name) → list_any (bytes_eq name) (map string_bytes names) ≡ false
none_in names name k all differ = none_at name (map string_bytes names) (λ n few. differ n (omega (arith, few, all, same_length names)))
  where
    same_length : (names : List String) → length (map string_bytes names) ≡ length names
    same_length [] = refl
    same_length (x ∷ names) = ap suc (same_length names)
