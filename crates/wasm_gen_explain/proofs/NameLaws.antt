-- Names of operators: a code has one exactly where it is that of an operator.
use Rattle.std.proofs.Common.{◌≡◌, ◌≤◌, ◌<◌, inl, inr, ℕ, zero, suc, ◌-◌, Bool, true, false, not, ◌&&◌, ◌||◌, ◌↔◌, length, List, [], ◌∷◌, refl, sym, ap, subst, ◌∙◌, arith, nat_lt, nat_eq}
use Rattle.std.proofs.lemmas.Bool.{le-ltb, ne_eqb}
use Rattle.std.proofs.lemmas.Bool.Decides.{eqb_tells}
use Rattle.std.specs.List.{list_all, list_any}
use Rattle.wasm_bodies.specs.OperatorGrammar.{IsCode, codes, is_among_codes, is_prefix}
use Rattle.wasm_bodies.specs.OperatorRows.{OperatorCode, Byte, Prefixed, is_same_code}
use Rattle.wasm_core_read.proofs.Forms.{ltb_tells}
use Rattle.wasm_gen_explain.specs.Names.{internal_names, name_at, name_of, range_names, vector_names}
use Rattle.wasm_gen_explain.specs.Operators.{code_name}

both : (a b : Bool) → (a && b) ≡ true → (a ≡ true) × (b ≡ true)
both true b e = (refl, e)
both false b e = absurd cc

-- a test holds of each number below this one
abbrev all_below : (ℕ → Bool) → ℕ → Bool
all_below test zero = true
all_below test (suc n) = test n && all_below test n

below : (test : ℕ → Bool) (n b : ℕ) → all_below test n ≡ true → b < n → test b ≡ true
below test zero b e lt = absurd omega (arith, lt)
below test (suc n) b e lt =
    let p = both (test n) (all_below test n) e in
    elim (ltb_tells b n) [
      | inl (t, less) ↦ below test n b p.1 less
      | inr (t, ge) ↦ let same : n ≡ b = omega (arith, lt, ge) in subst (λ (k : ℕ). test k ≡ true) same p.0
    ]

abbrev is_named : List ℕ → Bool
is_named [] = false
is_named (b ∷ bs) = true

abbrev agree : Bool → Bool → Bool
agree true b = b
agree false b = not b

agree_same : (a b : Bool) → agree a b ≡ true → a ≡ b
agree_same true b e = sym e
agree_same false false e = refl
agree_same false true e = absurd cc

-- a code has a name where an operator has it, and none where none does
abbrev HasName : OperatorCode → Type 0
HasName code = is_among_codes code ≡ is_named (code_name code)

-- ---- bytes

abbrev byte_named : ℕ → Bool
byte_named b = is_prefix b || agree (is_among_codes (Byte b)) (is_named (code_name (Byte b)))

byte_has_name : (b : ℕ) → b < 256 → is_prefix b ≡ false → HasName (Byte b)
byte_has_name b lt e =
    let tested : byte_named b ≡ true = below byte_named 256 b refl lt in
    agree_same (is_among_codes (Byte b)) (is_named (code_name (Byte b))) (rw e at tested)

-- ---- second codes

abbrev second_named : ℕ → ℕ → Bool
second_named prefix n = agree (is_among_codes (Prefixed prefix n)) (is_named (code_name (Prefixed prefix n)))

abbrev is_low : OperatorCode → Bool
is_low (Byte b) = true
is_low (Prefixed prefix n) = nat_lt n 64

none_same : (prefix n : ℕ) (cs : List OperatorCode) → 64 ≤ n → list_all is_low cs ≡ true → list_any (is_same_code (Prefixed prefix n)) cs ≡ false
none_same prefix n [] le e = refl
none_same prefix n (Byte b ∷ cs) le e = none_same prefix n cs le e
none_same prefix n (Prefixed other m ∷ cs) le e =
    let p = both (nat_lt m 64) (list_all is_low cs) e in
    elim (ltb_tells m 64) [
      | inl (t, lt) ↦ rw (ne_eqb n m (omega (arith, lt, le)), none_same prefix n cs le p.1) (by_prefix (nat_eq prefix other))
      | inr (t, ge) ↦ let f = sym t ∙ p.0 in absurd cc
    ]
  where
    by_prefix : (b : Bool) → ((b && false) || false) ≡ false
    by_prefix true = refl
    by_prefix false = refl

none_at : (names : List (List ℕ)) (place : ℕ) → length names ≤ place → name_at names place ≡ []
none_at [] place le = refl
none_at (name ∷ names) zero le = absurd omega (arith, le)
none_at (name ∷ names) (suc place) le = none_at names place (omega (arith, le))

high_unnamed : (prefix n : ℕ) → 64 ≤ n → is_prefix prefix ≡ true → name_of prefix n ≡ []
high_unnamed prefix n le e = elim (eqb_tells prefix 0xfb) [
  | inl (t, same) ↦ rw (t, le-ltb n 26 (omega (arith, le))) (none_at internal_names (n - 26) (omega (arith, le)))
  | inr (t, other) ↦ elim (eqb_tells prefix 0xfc) [
    | inl (u, same) ↦ rw (t, u) (none_at range_names n (omega (arith, le)))
    | inr (u, other) ↦ elim (eqb_tells prefix 0xfd) [
      | inl (v, same) ↦ rw (t, u, v) (none_at vector_names n (omega (arith, le)))
      | inr (v, other) ↦ let f : false ≡ true = rw (t, u, v) at e in absurd cc
    ]
  ]
]

low_has_name : (prefix n : ℕ) → n < 64 → is_prefix prefix ≡ true → second_named prefix n ≡ true
low_has_name prefix n lt e = elim (eqb_tells prefix 0xfb) [
  | inl (t, same) ↦ subst (λ (p : ℕ). second_named p n ≡ true) (sym same) (below (second_named 0xfb) 64 n refl lt)
  | inr (t, other) ↦ elim (eqb_tells prefix 0xfc) [
    | inl (u, same) ↦ subst (λ (p : ℕ). second_named p n ≡ true) (sym same) (below (second_named 0xfc) 64 n refl lt)
    | inr (u, other) ↦ elim (eqb_tells prefix 0xfd) [
      | inl (v, same) ↦ subst (λ (p : ℕ). second_named p n ≡ true) (sym same) (below (second_named 0xfd) 64 n refl lt)
      | inr (v, other) ↦ let f : false ≡ true = rw (t, u, v) at e in absurd cc
    ]
  ]
]

second_has_name : (prefix n : ℕ) → is_prefix prefix ≡ true → HasName (Prefixed prefix n)
second_has_name prefix n e = elim (ltb_tells n 64) [
  | inl (t, lt) ↦ agree_same (is_among_codes (Prefixed prefix n)) (is_named (code_name (Prefixed prefix n))) (low_has_name prefix n lt e)
  | inr (t, ge) ↦ none_same prefix n codes ge refl ∙ ap is_named (sym (high_unnamed prefix n ge e))
]

-- ---- codes

has_name : (encoding : List ℕ) (code : OperatorCode) → IsCode encoding code → HasName code
has_name encoding (Byte b) h = byte_has_name b h.1 h.2
has_name encoding (Prefixed prefix n) h = second_has_name prefix n h.1

named_not_empty : (name : List ℕ) → (is_named name ≡ true) ↔ ¬ (name ≡ [])
named_not_empty [] = (λ e. absurd cc, λ f. absurd (f refl))
named_not_empty (b ∷ bs) = (λ e f. absurd cc, λ f. refl)

pub named_exactly : (encoding : List ℕ) (code : OperatorCode) → IsCode encoding code → (is_among_codes code ≡ true) ↔ ¬ (code_name code ≡ [])
named_exactly encoding code h = subst (λ (b : Bool). (b ≡ true) ↔ ¬ (code_name code ≡ [])) (sym (has_name encoding code h)) (named_not_empty (code_name code))
