-- Expressions of three bytes.
use Rattle.std.proofs.Common.{◌≡◌, ◌<◌, ◌≤◌, ◌-◌, ◌^◌, ◌⊎◌, inl, inr, ℕ, ℤ, pos, negsuc, Bool, true, false, List, [], ◌∷◌, Some, length, refl, sym, ap, subst, ◌∙◌, arith}
use Rattle.std.specs.Prelude.{get_or, nat_eq, nat_le, nat_lt, ◌||◌}
use Rattle.std.proofs.lemmas.Bool.{eqb-true}
use Rattle.std.proofs.lemmas.Bool.Decides.{nat_tests}
use Rattle.wasm_core_read.specs.ConstantReading.{expression_at, operator_at, operators_at}
use Rattle.wasm_core_read.specs.Reading.{bytes_at, last_signed, signed_at, unsigned_at}
use Rattle.wasm_core_read.proofs.Forms.{some_is}
use Rattle.wasm_spec.specs.ConstantGrammar.{end_code}
use Rattle.wasm_spec.specs.Constants.{ConstantOperator, GlobalGet, I32Const, I64Const, RefFunc}
use Rattle.wasmparser_readers.specs.Passing.{rest_of}
use Rattle.wasmparser_entries.specs.ConstExprs.{expression_of, takes_number}

lt_true : (x y : ℕ) → x < y → nat_lt x y ≡ true
lt_true x y less = grind (arith, nat_tests)

le_true : (x y : ℕ) → x ≤ y → nat_le x y ≡ true
le_true x y less = grind (arith, nat_tests)

-- ---- numbers of one byte

unsigned_there : (b : ℕ) (bs : List ℕ) → b < 128 → unsigned_at 32 (b ∷ bs) ≡ Some (b, bs)
unfolding unsigned_at
unsigned_there b bs small = rw (lt_true b 128 small, lt_true b (2 ^ 32) (omega (arith, small))) refl

last_there : (bits b : ℕ) → 64 ≤ 2 ^ (bits - 1) → b < 128 → (z : ℤ) × (last_signed bits b ≡ Some z)
unfolding last_signed
last_there bits b room small = by (nat_lt b 64) refl
  where
    by : (low : Bool) → nat_lt b 64 ≡ low → (z : ℤ) × (last_signed bits b ≡ Some z)
    by true is = (pos b, rw (is, lt_true b (2 ^ (bits - 1)) (grind (arith, nat_tests, is, room))) refl)
    by false is = (negsuc (127 - b), rw (is, lt_true (127 - b) (2 ^ (bits - 1)) (grind (arith, nat_tests, is, room, small))) refl)

signed_there : (bits b : ℕ) (bs : List ℕ) → 64 ≤ 2 ^ (bits - 1) → b < 128 → (z : ℤ) × (signed_at bits (b ∷ bs) ≡ Some (z, bs))
unfolding signed_at
signed_there bits b bs room small =
    let last = last_there bits b room small in
    (last.0, rw (lt_true b 128 small, last.1) refl)

-- ---- operators of two bytes

-- the codes that a number stands after
data IsCode : ℕ → Type 0 where
  of_global : IsCode 0x23
  of_small : IsCode 0x41
  of_large : IsCode 0x42
  of_function : IsCode 0xd2

or_is : (a b : Bool) → (a || b) ≡ true → (a ≡ true) ⊎ (b ≡ true)
or_is true b e = inl refl
or_is false b e = inr e

code_is : (code : ℕ) → takes_number code ≡ true → IsCode code
code_is code takes = first (or_is (nat_eq code 0x23) _ takes)
  where
    this : (n : ℕ) → IsCode n → nat_eq code n ≡ true → IsCode code
    this n is e = subst IsCode (sym (eqb-true code n e)) is

    third : (nat_eq code 0x42 ≡ true) ⊎ (nat_eq code 0xd2 ≡ true) → IsCode code
    third (inl e) = this 0x42 of_large e
    third (inr e) = this 0xd2 of_function e

    second : (nat_eq code 0x41 ≡ true) ⊎ ((nat_eq code 0x42 || nat_eq code 0xd2) ≡ true) → IsCode code
    second (inl e) = this 0x41 of_small e
    second (inr e) = third (or_is (nat_eq code 0x42) (nat_eq code 0xd2) e)

    first : (nat_eq code 0x23 ≡ true) ⊎ ((nat_eq code 0x41 || (nat_eq code 0x42 || nat_eq code 0xd2)) ≡ true) → IsCode code
    first (inl e) = this 0x23 of_global e
    first (inr e) = second (or_is (nat_eq code 0x41) (nat_eq code 0x42 || nat_eq code 0xd2) e)

read_there : (code b : ℕ) (bs : List ℕ) → IsCode code → b < 128 → (v : ConstantOperator) × (operator_at (code ∷ b ∷ bs) ≡ Some (v, bs))
unfolding operator_at
read_there _ b bs of_global small = (GlobalGet b, rw (unsigned_there b bs small) refl)
read_there _ b bs of_small small = let n = signed_there 32 b bs (omega arith) small in (I32Const n.0, rw (n.1) refl)
read_there _ b bs of_large small = let n = signed_there 64 b bs (omega arith) small in (I64Const n.0, rw (n.1) refl)
read_there _ b bs of_function small = (RefFunc b, rw (unsigned_there b bs small) refl)

not_end : (code : ℕ) → IsCode code → nat_eq code end_code ≡ false
not_end _ of_global = refl
not_end _ of_small = refl
not_end _ of_large = refl
not_end _ of_function = refl

-- ---- the expression

pub short_read : (bytes three rest : List ℕ) → 3 ≤ length bytes → get_or bytes 2 0 ≡ 0x0b → get_or bytes 1 0 < 128 → takes_number (get_or bytes 0 0) ≡ true → bytes_at 3 bytes ≡ Some (three, rest)
    → rest_of (expression_at bytes) ≡ Some rest
unfolding bytes_at expression_at operators_at
short_read [] three rest many last small takes e = absurd (omega (arith, many))
short_read (a ∷ []) three rest many last small takes e = absurd (omega (arith, many))
short_read (a ∷ b ∷ []) three rest many last small takes e = absurd (omega (arith, many))
short_read (a ∷ b ∷ c ∷ bs) three rest many last small takes e =
    let is = code_is a takes in
    let read = read_there a b (c ∷ bs) is small in
    let left : bs ≡ rest = ap (λ (x : List ℕ × List ℕ). x.1) (some_is (a ∷ b ∷ c ∷ [], bs) (three, rest) (sym (rw (le_true 3 (length (a ∷ b ∷ c ∷ bs)) many) refl) ∙ e)) in
    rw (not_end a is, read.1, last) (ap (λ (l : List ℕ). Some l) left)

-- ---- its operator

-- what the end follows alone
alone : (bytes : List ℕ) (v : ConstantOperator) (code b : ℕ) → bytes ≡ code ∷ b ∷ 0x0b ∷ [] → nat_eq code end_code ≡ false → operator_at (code ∷ b ∷ 0x0b ∷ []) ≡ Some (v, 0x0b ∷ []) → expression_of bytes ≡ v ∷ []
unfolding expression_at operators_at
alone bytes v code b parts other read = ap expression_of parts ∙ rw (other, read) refl

three : (bytes : List ℕ) (code : ℕ) → length bytes ≡ 3 → get_or bytes 2 0 ≡ 0x0b → get_or bytes 0 0 ≡ code → bytes ≡ code ∷ get_or bytes 1 0 ∷ 0x0b ∷ []
three [] code many last first = absurd (omega (arith, many))
three (a ∷ []) code many last first = absurd (omega (arith, many))
three (a ∷ b ∷ []) code many last first = absurd (omega (arith, many))
three (a ∷ b ∷ c ∷ []) code many last first = rw (first, last) refl
three (a ∷ b ∷ c ∷ d ∷ bs) code many last first = absurd (omega (arith, many))

below : (b : ℕ) → b < 64 → b < 128
below b small = omega (arith, small)

positive_there : (bits b : ℕ) (bs : List ℕ) → 64 ≤ 2 ^ (bits - 1) → b < 64 → signed_at bits (b ∷ bs) ≡ Some (pos b, bs)
unfolding signed_at last_signed
positive_there bits b bs room small = rw (lt_true b 128 (below b small), lt_true b 64 small, lt_true b (2 ^ (bits - 1)) (omega (arith, small, room))) refl

pub short_global : (bytes : List ℕ) → length bytes ≡ 3 → get_or bytes 2 0 ≡ 0x0b → get_or bytes 1 0 < 64 → get_or bytes 0 0 ≡ 0x23 → expression_of bytes ≡ GlobalGet (get_or bytes 1 0) ∷ []
unfolding operator_at
short_global bytes many last small first =
    alone bytes _ 0x23 _ (three bytes 0x23 many last first) refl (rw (unsigned_there (get_or bytes 1 0) (0x0b ∷ []) (below _ small)) refl)

pub short_small : (bytes : List ℕ) → length bytes ≡ 3 → get_or bytes 2 0 ≡ 0x0b → get_or bytes 1 0 < 64 → get_or bytes 0 0 ≡ 0x41 → expression_of bytes ≡ I32Const (pos (get_or bytes 1 0)) ∷ []
unfolding operator_at
short_small bytes many last small first =
    alone bytes _ 0x41 _ (three bytes 0x41 many last first) refl (rw (positive_there 32 (get_or bytes 1 0) (0x0b ∷ []) (omega arith) small) refl)

pub short_large : (bytes : List ℕ) → length bytes ≡ 3 → get_or bytes 2 0 ≡ 0x0b → get_or bytes 1 0 < 64 → get_or bytes 0 0 ≡ 0x42 → expression_of bytes ≡ I64Const (pos (get_or bytes 1 0)) ∷ []
unfolding operator_at
short_large bytes many last small first =
    alone bytes _ 0x42 _ (three bytes 0x42 many last first) refl (rw (positive_there 64 (get_or bytes 1 0) (0x0b ∷ []) (omega arith) small) refl)

pub short_function : (bytes : List ℕ) → length bytes ≡ 3 → get_or bytes 2 0 ≡ 0x0b → get_or bytes 1 0 < 64 → get_or bytes 0 0 ≡ 0xd2 → expression_of bytes ≡ RefFunc (get_or bytes 1 0) ∷ []
unfolding operator_at
short_function bytes many last small first =
    alone bytes _ 0xd2 _ (three bytes 0xd2 many last first) refl (rw (unsigned_there (get_or bytes 1 0) (0x0b ∷ []) (below _ small)) refl)

pub ruleset short_operators = (short_global, short_small, short_large, short_function)
