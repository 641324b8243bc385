-- What has a code outside of the table is no operator.
use Rattle.std.proofs.Common.{Bool, true, false, ◌≡◌, ◌<◌, ◌-◌, ℕ, List, [], ◌∷◌, ◌++◌, length, refl, sym, ap, arith, subst, ◌∙◌}
use Rattle.std.proofs.lemmas.List.Sums.{AllPass-from_list_all}
use Rattle.std.specs.List.{Contains, list_all}
use Rattle.wasm_bodies.specs.OperatorGrammar.{code_of, is_prefix, IsCode, AreImmediates, IsOperator, is_among_codes, IsOtherCode}
use Rattle.wasm_bodies.specs.OperatorRows.{OperatorCode, Byte, Prefixed, scalar_rows, load_rows, store_rows}
use Rattle.wasm_bodies.specs.Operators.{Operator, Scalar, Load, Store}
use Rattle.wasm_spec.proofs.WrongEncodings.{heads, tails}
use Rattle.wasm_spec.specs.Bytes.{IsUnsigned}
use Rattle.wasm_spec.specs.Features.{Features}

-- ---- codes are read in one way

pub number_once : (bits : ℕ) (a b r s : List ℕ) (n m : ℕ) → IsUnsigned bits a n → IsUnsigned bits b m → a ++ r ≡ b ++ s → n ≡ m
number_once bits [] b r s n m h k e = absurd h
number_once bits (x ∷ a) [] r s n m h k e = absurd k
number_once bits (x ∷ []) (y ∷ []) r s n m h k e = h.2 ∙ heads x y r s e ∙ sym k.2
number_once bits (x ∷ []) (y ∷ c ∷ cs) r s n m h k e = absurd (omega (arith, h.0, k.0, heads x y r (c ∷ (cs ++ s)) e))
number_once bits (x ∷ c ∷ cs) (y ∷ []) r s n m h k e = absurd (omega (arith, h.0, k.0, heads x y (c ∷ (cs ++ r)) s e))
number_once bits (x ∷ c ∷ cs) (y ∷ d ∷ ds) r s n m h k e =
    let rest : h.3 ≡ k.3 = number_once (bits - 7) (c ∷ cs) (d ∷ ds) r s h.3 k.3 h.5 k.5 (tails x y (c ∷ (cs ++ r)) (d ∷ (ds ++ s)) e) in
    omega (arith, h.4, k.4, rest, heads x y (c ∷ (cs ++ r)) (d ∷ (ds ++ s)) e)

pub code_once : (a b r s : List ℕ) (c d : OperatorCode) → IsCode a c → IsCode b d → a ++ r ≡ b ++ s → c ≡ d
code_once a b r s (Byte x) (Byte y) h k e =
    let f : x ∷ r ≡ y ∷ s = sym (ap (λ (l : List ℕ). l ++ r) h.0) ∙ e ∙ ap (λ (l : List ℕ). l ++ s) k.0 in
    ap (λ z. Byte z) (heads x y r s f)
code_once a b r s (Byte x) (Prefixed y m) h k e =
    let f : x ∷ r ≡ y ∷ (k.0.0 ++ s) = sym (ap (λ (l : List ℕ). l ++ r) h.0) ∙ e ∙ ap (λ (l : List ℕ). l ++ s) k.0.1 in
    let same : is_prefix x ≡ is_prefix y = ap is_prefix (heads x y r (k.0.0 ++ s) f) in
    absurd cc
code_once a b r s (Prefixed x n) (Byte y) h k e =
    let f : x ∷ (h.0.0 ++ r) ≡ y ∷ s = sym (ap (λ (l : List ℕ). l ++ r) h.0.1) ∙ e ∙ ap (λ (l : List ℕ). l ++ s) k.0 in
    let same : is_prefix x ≡ is_prefix y = ap is_prefix (heads x y (h.0.0 ++ r) s f) in
    absurd cc
code_once a b r s (Prefixed x n) (Prefixed y m) h k e =
    let f : x ∷ (h.0.0 ++ r) ≡ y ∷ (k.0.0 ++ s) = sym (ap (λ (l : List ℕ). l ++ r) h.0.1) ∙ e ∙ ap (λ (l : List ℕ). l ++ s) k.0.1 in
    let same = heads x y (h.0.0 ++ r) (k.0.0 ++ s) f in
    let number = number_once 32 h.0.0 k.0.0 r s n m h.0.2 k.0.2 (tails x y (h.0.0 ++ r) (k.0.0 ++ s) f) in
    rw (same, number) refl

-- ---- the codes of operators

pub listed : {X : Type 0} (test : X → Bool) (xs : List X) (x : X) → list_all test xs ≡ true → Contains xs x → test x ≡ true
listed test xs x e w = subst (λ y. test y ≡ true) w.2 (AllPass-from_list_all test xs e w.0 x w.1)

-- an operator that is written has a code of the table
among : (features : Features) (encoding : List ℕ) (operator : Operator ℕ) → AreImmediates features encoding operator → is_among_codes (code_of operator) ≡ true
among features encoding (Scalar row) h = listed (λ r. is_among_codes r.code) scalar_rows row refl h.1
among features encoding (Load row argument) h = listed (λ r. is_among_codes (Byte r.code)) load_rows row refl h.1
among features encoding (Store row argument) h = listed (λ r. is_among_codes (Byte r.code)) store_rows row refl h.1
among features encoding _ h = refl

pub no_other : (features : Features) (other rest : List ℕ) (operator : Operator ℕ) → IsOtherCode other → IsOperator features (other ++ rest) operator → ⊥
no_other features other rest operator o h =
    let same : o.0 ≡ code_of operator = code_once other h.0 rest h.1 o.0 (code_of operator) o.1 h.3 h.2 in
    let a : is_among_codes o.0 ≡ true = subst (λ c. is_among_codes c ≡ true) (sym same) (among features h.1 operator h.4) in
    absurd cc

-- a code of the table isn't another
pub no_code : (b : ℕ) (other rest others : List ℕ) → b < 256 → is_prefix b ≡ false → is_among_codes (Byte b) ≡ true → IsOtherCode other → other ++ rest ≡ b ∷ others → ⊥
no_code b other rest others byte plain known o e =
    let same : o.0 ≡ Byte b = code_once other (b ∷ []) rest others o.0 (Byte b) o.1 (refl, byte, plain) e in
    let a : is_among_codes o.0 ≡ true = subst (λ c. is_among_codes c ≡ true) (sym same) known in
    absurd cc

-- a code has a byte
pub some_code : (encoding : List ℕ) (code : OperatorCode) → IsCode encoding code → 0 < length encoding
some_code encoding (Byte b) h = omega (arith, ap length h.0)
some_code encoding (Prefixed b n) h = omega (arith, ap length h.0.1)
