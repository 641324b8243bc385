-- Expressions, operator by operator.
use Rattle.std.proofs.Common.{◌≡◌, ◌≢◌, ◌≤◌, ◌<◌, ◌-◌, inl, inr, true, false, ℕ, zero, suc, List, [], ◌∷◌, ◌++◌, Option, Some, None, refl, sym, ap, subst, ◌∙◌, length, take, arith, length-append}
use Rattle.std.specs.Prelude.{slice_get}
use Rattle.std.proofs.lemmas.Bool.{ne_eqb}
use Rattle.std.proofs.lemmas.Bool.Decides.{eqb_tells}
use Rattle.wasm_core_read.specs.ConstantReading.{operator_at, operators_at, expression_at}
use Rattle.wasm_core_read.specs.Reading.{◌>>=◌, byte_at}
use Rattle.wasm_core_read.proofs.ConstantForms.{reads_operator, reads_expression}
use Rattle.wasm_core_read.proofs.Forms.{some_is, rest_bytes}
use Rattle.wasm_spec.specs.Bytes.{AreBytes}
use Rattle.wasm_spec.specs.ConstantGrammar.{IsConstantOperator, IsConstantExpression, end_code}
use Rattle.wasm_spec.specs.Constants.{ConstantOperator, ConstantExpression}
use Rattle.wasmparser_readers.specs.Passing.{rest_of, read_or}
use Rattle.wasmparser_readers.proofs.PassingLaws.{reads_again}
use Rattle.wasmparser_entries.specs.ConstExprs.{expression_of, are_none, IsExpression, AreOperators, with_first}

-- ---- the next operator, whatever the bound on their number

-- an operator takes a byte
shorter : (bytes : List ℕ) (v : ConstantOperator) (rest : List ℕ) → AreBytes bytes → operator_at bytes ≡ Some (v, rest) → length rest < length bytes
unfolding operator_at
shorter bytes v rest are e = let x = reads_operator.found bytes v rest are e in by_encoding x.0 x.1 x.2
  where
    by_encoding : (encoding : List ℕ) → bytes ≡ encoding ++ rest → IsConstantOperator encoding v → length rest < length bytes
    by_encoding [] parts is = let f = reads_operator.again [] v [] is in absurd cc
    by_encoding (b ∷ bs) parts is = omega (arith, ap length parts, length-append bs rest)

enough : (f g : ℕ) (bytes : List ℕ) → AreBytes bytes → length bytes ≤ f → length bytes ≤ g → operators_at f bytes ≡ operators_at g bytes
unfolding operators_at
enough zero zero bytes are l m = refl
enough zero (suc g) [] are l m = refl
enough (suc f) zero [] are l m = refl
enough (suc f) (suc g) [] are l m = refl
enough zero (suc g) (b ∷ bs) are l m = absurd (omega (arith, l))
enough (suc f) zero (b ∷ bs) are l m = absurd (omega (arith, m))
enough (suc f) (suc g) (b ∷ bs) are l m = elim (eqb_tells b end_code) [
  | inl (t, same) ↦ rw t refl
  | inr (t, other) ↦ rw t (by_read (λ rest a p q. enough f g rest a p q) (operator_at (b ∷ bs)) refl)
]
  where
    by_read : ((rest : List ℕ) → AreBytes rest → length rest ≤ f → length rest ≤ g → operators_at f rest ≡ operators_at g rest) → (read : Option (ConstantOperator × List ℕ)) → operator_at (b ∷ bs) ≡ read
        → (read >>= λ first. with_first first.0 (operators_at f first.1)) ≡ (read >>= λ first. with_first first.0 (operators_at g first.1))
    by_read ih None e = refl
    by_read ih (Some x) e =
        let less = shorter (b ∷ bs) x.0 x.1 are e in
        let found = reads_operator.found (b ∷ bs) x.0 x.1 are e in
        ap (λ read. with_first x.0 read) (ih x.1 (rest_bytes (b ∷ bs) found.0 x.1 are found.1) (omega (arith, less, l)) (omega (arith, less, m)))

-- ---- steps

pub no_bytes_left : (bytes : List ℕ) → slice_get bytes 0 ≡ None → expression_at bytes ≡ None
unfolding expression_at operators_at
no_bytes_left [] e = refl
no_bytes_left (b ∷ bs) e = absurd cc

pub no_byte_read : (bytes : List ℕ) (b : ℕ) → slice_get bytes 0 ≡ Some b → byte_at bytes ≡ None → expression_at bytes ≡ None
unfolding byte_at
no_byte_read [] b e f = absurd cc
no_byte_read (c ∷ cs) b e f = absurd cc

pub end_read : (bytes : List ℕ) (b : ℕ) (rest : List ℕ) → slice_get bytes 0 ≡ Some 0x0b → byte_at bytes ≡ Some (b, rest) → expression_at bytes ≡ Some ([], rest)
unfolding byte_at expression_at operators_at
end_read [] b rest e f = absurd cc
end_read (c ∷ cs) b rest e f =
    let same : c ≡ 0x0b = some_is c 0x0b e in
    let others : cs ≡ rest = ap (λ (x : ℕ × List ℕ). x.1) (some_is (c, cs) (b, rest) f) in
    rw same (ap (λ (l : List ℕ). Some ([], l)) others)

pub no_operator_read : (bytes : List ℕ) (b : ℕ) → slice_get bytes 0 ≡ Some b → b ≢ 0x0b → operator_at bytes ≡ None → expression_at bytes ≡ None
unfolding expression_at operators_at
no_operator_read [] b e other f = absurd cc
no_operator_read (c ∷ cs) b e other f =
    let same : b ≡ c = sym (some_is c b e) in
    rw (ne_eqb c end_code (subst (λ (x : ℕ). x ≢ 0x0b) same other), f) refl

pub operator_read : (bytes : List ℕ) (b : ℕ) (v : ConstantOperator) (rest : List ℕ) → AreBytes bytes → slice_get bytes 0 ≡ Some b → b ≢ 0x0b → operator_at bytes ≡ Some (v, rest) → expression_at bytes ≡ with_first v (expression_at rest)
unfolding expression_at operators_at
operator_read [] b v rest are e other f = absurd cc
operator_read (c ∷ cs) b v rest are e other f =
    let same : b ≡ c = sym (some_is c b e) in
    let less = shorter (c ∷ cs) v rest are f in
    let found = reads_operator.found (c ∷ cs) v rest are f in
    rw (ne_eqb c end_code (subst (λ (x : ℕ). x ≢ 0x0b) same other), f)
    (ap (λ read. with_first v read) (enough (length cs) (length rest) rest (rest_bytes (c ∷ cs) found.0 rest are found.1) (omega (arith, less)) (omega arith)))

pub ruleset expression_steps = (no_bytes_left, no_byte_read, end_read, no_operator_read, operator_read)

-- ---- passing over an expression

with_first_left : (v : ConstantOperator) (read : Option (ConstantExpression × List ℕ)) → rest_of (with_first v read) ≡ rest_of read
with_first_left v None = refl
with_first_left v (Some x) = refl

pub passed_one : (old new : List ℕ) (v : ConstantOperator) → expression_at old ≡ with_first v (expression_at new) → rest_of (expression_at old) ≡ rest_of (expression_at new)
passed_one old new v e = ap (λ read. rest_of read) e ∙ with_first_left v (expression_at new)

pub passed_end : (old rest total : List ℕ) → expression_at old ≡ Some ([], rest) → rest_of (expression_at old) ≡ rest_of (expression_at total) → rest_of (expression_at total) ≡ Some rest
passed_end old rest total e so_far = sym so_far ∙ ap (λ read. rest_of read) e

pub passed_none : (old total : List ℕ) → expression_at old ≡ None → rest_of (expression_at old) ≡ rest_of (expression_at total) → expression_at total ≡ None
passed_none old total e so_far = by_read (expression_at total) (sym so_far ∙ ap (λ read. rest_of read) e)
  where
    by_read : (read : Option (ConstantExpression × List ℕ)) → rest_of read ≡ None → read ≡ None
    by_read None f = refl
    by_read (Some x) f = absurd cc

pub ruleset pass_steps = (passed_end, passed_none)

-- ---- reading it again

pub reads_whole : (bytes rest : List ℕ) → AreBytes bytes → rest_of (expression_at bytes) ≡ Some rest → expression_at bytes ≡ Some (expression_of (take (length bytes - length rest) bytes), rest)
reads_whole bytes rest are e = (reads_again IsConstantExpression expression_at reads_expression [] bytes rest are e).0

pub part_is : (bytes rest : List ℕ) → AreBytes bytes → rest_of (expression_at bytes) ≡ Some rest → IsExpression (take (length bytes - length rest) bytes)
part_is bytes rest are e = (reads_again IsConstantExpression expression_at reads_expression [] bytes rest are e).1

pub ruleset expression_again = (reads_whole, part_is)

-- ---- operators one by one

pub nothing_of : expression_of [] ≡ []
unfolding expression_at operators_at
nothing_of = refl

pub none_are_left : (bytes : List ℕ) → AreOperators bytes → expression_at bytes ≡ None → bytes ≡ []
none_are_left bytes (inl none) e = none
none_are_left bytes (inr is) e = absurd cc

pub none_of : (bytes : List ℕ) → length bytes ≡ 0 → expression_of bytes ≡ []
none_of [] e = nothing_of
none_of (b ∷ bs) e = absurd (omega (arith, e))

pub none_remain : (bytes : List ℕ) → length bytes ≡ 0 → AreOperators bytes
none_remain [] e = inl refl
none_remain (b ∷ bs) e = absurd (omega (arith, e))

pub end_is_last : (bytes rest : List ℕ) → AreOperators bytes → expression_at bytes ≡ Some ([], rest) → (expression_of bytes ≡ []) × (length rest ≡ 0)
unfolding expression_at operators_at
end_is_last bytes rest (inl none) e = let f = ap expression_at (sym none) ∙ e in absurd cc
end_is_last bytes rest (inr is) e =
    let same = some_is (expression_of bytes, []) ([], rest) (sym is ∙ e) in
    (ap (λ (x : ConstantExpression × List ℕ). x.0) same, ap (λ (x : ConstantExpression × List ℕ). length x.1) (sym same))

pub first_of : (old new : List ℕ) (v : ConstantOperator) → AreOperators old → length new < length old → expression_at old ≡ with_first v (expression_at new) → (expression_of old ≡ v ∷ expression_of new) × AreOperators new
first_of old new v (inl none) less e = absurd (omega (arith, less, ap length none))
first_of old new v (inr is) less e = by_read (expression_at new) refl
  where
    by_read : (read : Option (ConstantExpression × List ℕ)) → expression_at new ≡ read → (expression_of old ≡ v ∷ expression_of new) × AreOperators new
    by_read None f = let g = sym is ∙ e ∙ ap (λ read. with_first v read) f in absurd cc
    by_read (Some x) f =
        let whole : expression_at old ≡ Some (v ∷ x.0, x.1) = e ∙ ap (λ read. with_first v read) f in
        let same = some_is (expression_of old, []) (v ∷ x.0, x.1) (sym is ∙ whole) in
        let value : expression_of new ≡ x.0 = ap (λ read. read_or [] read) f in
        let ended : x.1 ≡ [] = sym (ap (λ (y : ConstantExpression × List ℕ). y.1) same) in (
          ap (λ (y : ConstantExpression × List ℕ). y.0) same ∙ ap (λ (l : ConstantExpression). v ∷ l) (sym value),
          inr (f ∙ ap (λ (l : List ℕ). Some (x.0, l)) ended ∙ ap (λ (l : ConstantExpression). Some (l, [])) (sym value)),
        )

-- ---- whether one is left

none_there : (bytes : List ℕ) → expression_of bytes ≡ [] → true ≡ are_none (expression_of bytes)
none_there bytes e = ap are_none (sym e)

pub ends_here : (bytes : List ℕ) → slice_get bytes 0 ≡ Some 0x0b → true ≡ are_none (expression_of bytes)
unfolding expression_at operators_at
ends_here [] e = absurd cc
ends_here (b ∷ bs) e = rw (some_is b 0x0b e) refl

pub nothing_left : (bytes : List ℕ) → slice_get bytes 0 ≡ None → true ≡ are_none (expression_of bytes)
nothing_left [] e = none_there [] nothing_of
nothing_left (b ∷ bs) e = absurd cc

no_first : (v : ConstantOperator) (others : ConstantExpression) (read : Option (ConstantExpression × List ℕ)) → Some (others, []) ≡ with_first v read → false ≡ are_none others
no_first v others None e = absurd cc
no_first v others (Some x) e = ap (λ (y : ConstantExpression × List ℕ). are_none y.0) (sym (some_is (others, []) (v ∷ x.0, x.1) e))

pub goes_on : (bytes : List ℕ) (b : ℕ) → AreOperators bytes → slice_get bytes 0 ≡ Some b → b ≢ 0x0b → false ≡ are_none (expression_of bytes)
unfolding expression_at operators_at
goes_on [] b is e other = absurd cc
goes_on (c ∷ cs) b (inl empty) e other = absurd cc
goes_on (c ∷ cs) b (inr is) e other =
    let same : b ≡ c = sym (some_is c b e) in
    by_read (operator_at (c ∷ cs)) (sym is ∙ rw (ne_eqb c end_code (subst (λ (x : ℕ). x ≢ 0x0b) same other)) refl)
  where
    by_read : (read : Option (ConstantOperator × List ℕ)) → Some (expression_of (c ∷ cs), []) ≡ (read >>= λ first. with_first first.0 (operators_at (length cs) first.1)) → false ≡ are_none (expression_of (c ∷ cs))
    by_read None e = absurd cc
    by_read (Some x) e = no_first x.0 (expression_of (c ∷ cs)) (operators_at (length cs) x.1) e

pub ruleset last_steps = (ends_here, goes_on, nothing_left)

pub ruleset operator_steps = (nothing_of, none_are_left, none_of, none_remain, end_is_last, first_of)
