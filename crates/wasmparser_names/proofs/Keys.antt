-- What imports are grouped by.
use Rattle.std.proofs.Common.{◌≡◌, ◌<◌, inl, inr, Bool, true, false, List, [], ◌∷◌, ◌++◌, ℕ, zero, suc, length, refl, sym, ◌∙◌, arith}
use Rattle.std.proofs.lemmas.Bool.{and_parts, and_cases, and_left, and_right, eqb-true, cases_order}
use Rattle.std.proofs.lemmas.Bool.Decides.{eqb_tells}
use Rattle.std.specs.Cmp.{IsEquivalence, and_equiv, on_equiv, nat_eq_equiv}
use Rattle.std.specs.Cmp.Lexicographic.{bytes_decides, nat_list_eq_equiv}
use Rattle.std.specs.List.{AllByRecursion, IsDistinct}
use Rattle.std.specs.Prelude.{bytes_eq, nat_eq, slice_get, ◌&&◌}
use Rattle.wasmparser_names.specs.ImportNames.{module_at}
use Rattle.wasmparser_names.specs.declared.import_key.ImportKey.{ImportKey}

-- ---- keys

abbrev pub same_key : ImportKey → ImportKey → Bool
same_key a b = nat_eq a.origin b.origin && bytes_eq a.name.now b.name.now

pub same_keys : IsEquivalence same_key
same_keys = and_equiv (on_equiv (λ k. k.origin) nat_eq_equiv) (on_equiv (λ k. k.name.now) nat_list_eq_equiv)

pub same_parts : (a b : ImportKey) → same_key a b ≡ true → (a.origin ≡ b.origin) × (a.name.now ≡ b.name.now)
same_parts a b same =
    let p = and_parts (nat_eq a.origin b.origin) (bytes_eq a.name.now b.name.now) same in
    (eqb-true a.origin b.origin p.0, (bytes_decides a.name.now b.name.now).0 p.1)

-- ---- names of modules, each of which is kept once

every_name : (P : List ℕ → Type 0) (modules : List (List ℕ)) (n : ℕ) → n < length modules → AllByRecursion P modules → P (module_at modules n)
every_name P [] n few all = absurd (omega (arith, few))
every_name P (name ∷ modules) zero few all = all.0
every_name P (name ∷ modules) (suc n) few all = every_name P modules n (omega (arith, few)) all.1

later_differs : (modules : List (List ℕ)) (m n : ℕ) → IsDistinct bytes_eq modules → m < n → n < length modules → bytes_eq (module_at modules m) (module_at modules n) ≡ false
unfolding IsDistinct
later_differs [] m n apart less few = absurd (omega (arith, few))
later_differs (name ∷ modules) m zero apart less few = absurd (omega (arith, less))
later_differs (name ∷ modules) zero (suc n) apart less few = every_name (λ other. bytes_eq name other ≡ false) modules n (omega (arith, few)) apart.0
later_differs (name ∷ modules) (suc m) (suc n) apart less few = later_differs modules m n apart.1 (omega (arith, less)) (omega (arith, few))

differs : (modules : List (List ℕ)) (m n : ℕ) → IsDistinct bytes_eq modules → m < length modules → n < length modules → nat_eq m n ≡ false → bytes_eq (module_at modules m) (module_at modules n) ≡ false
differs modules m n apart few few' other = elim (cases_order m n) [
  | inl same ↦ absurd (not_same same)
  | inr rest ↦ elim rest [
    | inl less ↦ later_differs modules m n apart less few'
    | inr more ↦ nat_list_eq_equiv.symm (module_at modules m) (module_at modules n) ∙ later_differs modules n m apart more few
  ]
]
  where
    not_same : m ≡ n → ⊥
    not_same same = elim (eqb_tells m n) [ inl (test, is) ↦ let w = sym other ∙ test in absurd cc | inr (test, is) ↦ is same ]

-- the names of other keys differ
pub other_parts : (modules : List (List ℕ)) → IsDistinct bytes_eq modules → (key other : ImportKey) → key.origin < length modules → other.origin < length modules → same_key key other ≡ false
    → (bytes_eq (module_at modules key.origin) (module_at modules other.origin) && bytes_eq key.name.now other.name.now) ≡ false
other_parts modules apart key other known known' differ = elim (and_cases (nat_eq key.origin other.origin) (bytes_eq key.name.now other.name.now) differ) [
  | inl origin ↦ and_left _ _ (differs modules key.origin other.origin apart known known' origin)
  | inr name ↦ and_right _ _ name
]

pub same_bytes : (a b : List ℕ) → (bytes_eq a a && bytes_eq b b) ≡ true
same_bytes a b = rw (nat_list_eq_equiv.refl a, nat_list_eq_equiv.refl b) refl

-- ---- a list of names that grows

pub known_before : (modules more : List (List ℕ)) (n : ℕ) → n < length modules → slice_get (modules ++ more) n ≡ slice_get modules n
known_before [] more n few = absurd (omega (arith, few))
known_before (name ∷ modules) more zero few = refl
known_before (name ∷ modules) more (suc n) few = known_before modules more n (omega (arith, few))
