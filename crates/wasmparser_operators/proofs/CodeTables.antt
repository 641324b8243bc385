-- Looking up codes in tables.
use Rattle.std.proofs.Common.{◌≡◌, ◌≤◌, ℕ, zero, suc, Bool, true, false, cond, not, ◌&&◌, ◌||◌, eqb, ltb, List, [], ◌∷◌, map, Option, Some, None, is_some, refl, sym, ap, subst, ◌∙◌, inl, inr, ◌⊎◌, arith}
use Rattle.std.proofs.lemmas.Bool.{eq-eqb, ne_eqb}
use Rattle.std.proofs.lemmas.Bool.Decides.{eqb_tells}
use Rattle.std.proofs.lemmas.List.Sums.{AllPass-from_list_all}
use Rattle.std.specs.List.{Contains, list_all, list_any}
use Rattle.wasm_bodies.specs.OperatorRows.{OperatorCode, Byte, Prefixed, is_same_code}
use Rattle.wasm_core_read.proofs.Forms.{some_is, ltb_tells}
use Rattle.wasmparser_operators.specs.CodeTables.{first_of}

both : (a b : Bool) → (a && b) ≡ true → (a ≡ true) × (b ≡ true)
both true b e = (refl, e)
both false b e = absurd cc

same_number : (a b : ℕ) → eqb a b ≡ true → a ≡ b
same_number a b e = elim (eqb_tells a b) [ inl (t, same) ↦ same | inr (t, other) ↦ let f = sym e ∙ t in absurd cc ]

pub same_code : (a b : OperatorCode) → is_same_code a b ≡ true → a ≡ b
same_code (Byte a) (Byte b) e = ap (λ n. Byte n) (same_number a b e)
same_code (Prefixed p a) (Prefixed q b) e = let h = both (eqb p q) (eqb a b) e in rw (same_number p q h.0, same_number a b h.1) refl
same_code (Byte a) (Prefixed q b) e = absurd cc
same_code (Prefixed p a) (Byte b) e = absurd cc

pub self_code : (a : OperatorCode) → is_same_code a a ≡ true
self_code (Byte a) = eq-eqb a a refl
self_code (Prefixed p a) = rw (eq-eqb p p refl, eq-eqb a a refl) refl

either : (b : Bool) → (b ≡ true) ⊎ (b ≡ false)
either true = inl refl
either false = inr refl

-- ---- what is found

pub first_found : {X : Type 0} (key : X → OperatorCode) (xs : List X) (code : OperatorCode) (x : X) → first_of key xs code ≡ Some x → Contains xs x × (key x ≡ code)
first_found key [] code x e = absurd cc
first_found key (y ∷ ys) code x e = elim (either (is_same_code code (key y))) [
  | inl t ↦
      let same : y ≡ x = some_is y x (rw t at e) in
      ((0, omega arith, same), ap key (sym same) ∙ sym (same_code code (key y) t))
  | inr t ↦
      let f = first_found key ys code x (rw t at e) in
      ((suc f.0.0, omega (arith, f.0.1), f.0.2), f.1)
]

pub tells_some : {X : Type 0} (key : X → OperatorCode) (xs : List X) (code : OperatorCode) → is_some (first_of key xs code) ≡ list_any (is_same_code code) (map key xs)
tells_some key [] code = refl
tells_some {X = X} key (x ∷ xs) code = by_test (is_same_code code (key x)) (tells_some key xs code)
  where
    by_test : (t : Bool) → is_some (first_of key xs code) ≡ list_any (is_same_code code) (map key xs)
        → is_some (cond {A = Option X} t (Some x) (first_of key xs code)) ≡ (t || list_any (is_same_code code) (map key xs))
    by_test true e = refl
    by_test false e = e

pub not_some : {X : Type 0} (o : Option X) → is_some o ≡ false → o ≡ None
not_some None e = refl
not_some (Some x) e = absurd cc

-- ---- what is listed is found where no code stands twice

abbrev pub are_told_apart : List OperatorCode → Bool
are_told_apart [] = true
are_told_apart (code ∷ codes) = not (list_any (is_same_code code) codes) && are_told_apart codes

true_or : (a b : Bool) → a ≡ true → (a || b) ≡ true
true_or true b e = refl
true_or false b e = absurd cc

or_true : (a b : Bool) → b ≡ true → (a || b) ≡ true
or_true true b e = refl
or_true false b e = e

listed_code : {X : Type 0} (key : X → OperatorCode) (xs : List X) (x : X) → Contains xs x → list_any (is_same_code (key x)) (map key xs) ≡ true
listed_code key [] x (k, lt, is) = absurd (omega (arith, lt))
listed_code key (y ∷ ys) x (zero, lt, is) =
    true_or (is_same_code (key x) (key y)) (list_any (is_same_code (key x)) (map key ys)) (ap (λ z. is_same_code (key x) (key z)) is ∙ self_code (key x))
listed_code key (y ∷ ys) x (suc k, lt, is) = or_true (is_same_code (key x) (key y)) (list_any (is_same_code (key x)) (map key ys)) (listed_code key ys x (k, omega (arith, lt), is))

pub first_is : {X : Type 0} (key : X → OperatorCode) (xs : List X) (x : X) → are_told_apart (map key xs) ≡ true → Contains xs x → first_of key xs (key x) ≡ Some x
first_is key [] x e (k, lt, is) = absurd (omega (arith, lt))
first_is key (y ∷ ys) x e (zero, lt, is) = rw (ap (λ z. is_same_code (key x) (key z)) is ∙ self_code (key x)) (ap (λ z. Some z) is)
first_is key (y ∷ ys) x e (suc k, lt, is) = elim (either (is_same_code (key x) (key y))) [
  | inl t ↦
      let c : Contains ys x = (k, omega (arith, lt), is) in
      let among = listed_code key ys x c in
      let h = both (not (list_any (is_same_code (key y)) (map key ys))) (are_told_apart (map key ys)) e in
      let same : list_any (is_same_code (key y)) (map key ys) ≡ true = ap (λ z. list_any (is_same_code z) (map key ys)) (sym (same_code (key x) (key y) t)) ∙ among in
      let f = sym h.0 ∙ ap not same in
      absurd cc
  | inr t ↦ rw t (first_is key ys x (both (not (list_any (is_same_code (key y)) (map key ys))) (are_told_apart (map key ys)) e).1 (k, omega (arith, lt), is))
]

-- a test of all of a list holds of what is in it
pub listed : {X : Type 0} (test : X → Bool) (xs : List X) (x : X) → list_all test xs ≡ true → Contains xs x → test x ≡ true
listed test xs x e w = subst (λ y. test y ≡ true) w.2 (AllPass-from_list_all test xs e w.0 x w.1)

-- ---- codes that a table hasn't, by where its codes lie

-- the code is no byte from low to high
abbrev pub misses : ℕ → ℕ → OperatorCode → Bool
misses low high (Byte b) = ltb b low || ltb high b
misses low high (Prefixed p n) = true

differs : (low high b : ℕ) (code : OperatorCode) → low ≤ b → b ≤ high → misses low high code ≡ true → is_same_code (Byte b) code ≡ false
differs low high b (Prefixed p n) l h e = refl
differs low high b (Byte c) l h e = elim (ltb_tells c low) [
  | inl (t, lt) ↦ ne_eqb b c (λ same. absurd (omega (arith, lt, l, same)))
  | inr (t, le) ↦ elim (ltb_tells high c) [
    | inl (u, lt) ↦ ne_eqb b c (λ same. absurd (omega (arith, lt, h, same)))
    | inr (u, le) ↦ let f = rw (t, u) at e in absurd cc
  ]
]

pub gap : {X : Type 0} (key : X → OperatorCode) (xs : List X) (low high b : ℕ) → list_all (λ x. misses low high (key x)) xs ≡ true → low ≤ b → b ≤ high → first_of key xs (Byte b) ≡ None
gap key [] low high b e l h = refl
gap key (x ∷ xs) low high b e l h =
    let p = both (misses low high (key x)) (list_all (λ x. misses low high (key x)) xs) e in
    rw (differs low high b (key x) l h p.0) (gap key xs low high b p.1 l h)
