-- Which operators the bytes of a small body are.
use Rattle.std.proofs.Common.{◌≡◌, ◌≤◌, ◌<◌, ◌^◌, ℕ, Bool, true, false, not, List, [], ◌∷◌, ◌++◌, length, Contains, refl, sym, subst, ap, ◌∙◌, arith}
use Rattle.std.specs.List.{list_all}
use Rattle.wasm_bodies.proofs.OtherCodes.{code_once, listed, some_code}
use Rattle.wasm_bodies.specs.OperatorGrammar.{AreImmediates, IsCode, IsOperators, code_of, is_prefix}
use Rattle.wasm_bodies.specs.OperatorRows.{AccessRow, Byte, OperatorCode, Prefixed, ScalarRow, is_same_code, load_rows, scalar_rows, store_rows}
use Rattle.wasm_bodies.specs.Operators.{Operator, Call, ElemDrop, End, GlobalGet, Load, MemoryInit, RefFunc, Scalar, Store, StructNewDefault, TableSize, Unreachable}
use Rattle.wasm_spec.proofs.Encodings.{small}
use Rattle.wasm_spec.proofs.WrongEncodings.{joined, number_is, tails}
use Rattle.wasm_spec.specs.Bytes.{IsPair, IsU32}
use Rattle.wasm_spec.specs.Features.{Features}

-- ---- the first operator

-- the first operator has this code, and its immediates and other operators stand in the rest
pub record IsFirst (features : Features) (code : OperatorCode) (rest : List ℕ) (operators : List (Operator ℕ)) : Type 0 where
  pub operator : Operator ℕ
  pub others : List (Operator ℕ)
  pub immediates : List ℕ
  pub after : List ℕ
  pub are : operators ≡ operator ∷ others
  pub has : code_of operator ≡ code
  pub parted : rest ≡ immediates ++ after
  pub holds : AreImmediates features immediates operator
  pub follow : IsOperators features after others

pub first_byte : (features : Features) (b : ℕ) (rest : List ℕ) (operators : List (Operator ℕ)) → b < 256 → is_prefix b ≡ false → IsOperators features (b ∷ rest) operators
    → IsFirst features (Byte b) rest operators
first_byte features b rest [] byte plain h = absurd cc
first_byte features b rest (operator ∷ others) byte plain h =
    let o = h.3 in
    let f : b ∷ rest ≡ o.0 ++ (o.1 ++ h.1) = joined h.0 h.1 o.0 o.1 (b ∷ rest) h.2 o.2 in
    let same : code_of operator ≡ Byte b = code_once o.0 (b ∷ []) (o.1 ++ h.1) rest (code_of operator) (Byte b) o.3 (refl, byte, plain) (sym f) in
    let code : IsCode o.0 (Byte b) = subst (λ c. IsCode o.0 c) same o.3 in
    record {
      operator = operator;
      others = others;
      immediates = o.1;
      after = h.1;
      are = refl;
      has = same;
      parted = tails b b rest (o.1 ++ h.1) (f ∙ ap (λ (l : List ℕ). l ++ (o.1 ++ h.1)) code.0);
      holds = o.4;
      follow = h.4;
    }

pub first_prefixed : (features : Features) (b n : ℕ) (rest : List ℕ) (operators : List (Operator ℕ)) → n < 2 ^ 7 → is_prefix b ≡ true → IsU32 (n ∷ []) n
    → IsOperators features (b ∷ n ∷ rest) operators → IsFirst features (Prefixed b n) rest operators
first_prefixed features b n rest [] few prefix number h = absurd cc
first_prefixed features b n rest (operator ∷ others) few prefix number h =
    let o = h.3 in
    let f : b ∷ n ∷ rest ≡ o.0 ++ (o.1 ++ h.1) = joined h.0 h.1 o.0 o.1 (b ∷ n ∷ rest) h.2 o.2 in
    let same : code_of operator ≡ Prefixed b n =
    code_once o.0 (b ∷ n ∷ []) (o.1 ++ h.1) rest (code_of operator) (Prefixed b n) o.3 ((n ∷ [], refl, number), prefix) (sym f) in
    let code : IsCode o.0 (Prefixed b n) = subst (λ c. IsCode o.0 c) same o.3 in
    let g : n ∷ rest ≡ code.0.0 ++ (o.1 ++ h.1) = tails b b (n ∷ rest) (code.0.0 ++ (o.1 ++ h.1)) (f ∙ ap (λ (l : List ℕ). l ++ (o.1 ++ h.1)) code.0.1) in
    let r = number_is code.0.0 (o.1 ++ h.1) rest n n code.0.2 few g in
    record {
      operator = operator;
      others = others;
      immediates = o.1;
      after = h.1;
      are = refl;
      has = same;
      parted = sym r.1;
      holds = o.4;
      follow = h.4;
    }

-- no bytes are no operators
pub no_operators : (features : Features) (operators : List (Operator ℕ)) → IsOperators features [] operators → operators ≡ []
no_operators features [] h = refl
no_operators features (operator ∷ operators) h =
    let o = h.3 in
    absurd (omega (arith, ap length (joined h.0 h.1 o.0 o.1 [] h.2 o.2), some_code o.0 (code_of operator) o.3, more o.0 (o.1 ++ h.1)))
  where
    more : (a b : List ℕ) → length a ≤ length (a ++ b)
    more [] b = omega arith
    more (x ∷ a) b = omega (arith, more a b)

-- ---- rows of tables

neither : (same : Bool) → same ≡ true → not same ≡ true → ⊥
neither true e n = absurd cc
neither false e n = absurd cc

-- a code that no row of these has
no_row : {X : Type 0} (code_at : X → OperatorCode) (code : OperatorCode) (rows : List X) → list_all (λ r. not (is_same_code (code_at r) code)) rows ≡ true
    → (row : X) → Contains rows row → is_same_code (code_at row) code ≡ true → ⊥
no_row code_at code rows none row among e =
    neither (is_same_code (code_at row) code) e (listed (λ r. not (is_same_code (code_at r) code)) rows row none among)

-- ---- what has a code

abbrev Has : Operator ℕ → OperatorCode → Type 0
Has operator code = is_same_code (code_of operator) code ≡ true

module _ (features : Features) (encoding : List ℕ) where
  is_unreachable : (operator : Operator ℕ) → AreImmediates features encoding operator → Has operator (Byte 0x00) → (operator ≡ Unreachable) × (encoding ≡ [])
  is_unreachable Unreachable h e = (refl, h)
  is_unreachable (Scalar row) h e = absurd (no_row (λ (r : ScalarRow). r.code) (Byte 0x00) scalar_rows refl row h.1 e)
  is_unreachable (Load row argument) h e = absurd (no_row (λ (r : AccessRow). Byte r.code) (Byte 0x00) load_rows refl row h.1 e)
  is_unreachable (Store row argument) h e = absurd (no_row (λ (r : AccessRow). Byte r.code) (Byte 0x00) store_rows refl row h.1 e)
  is_unreachable _ h e = absurd cc

  is_end : (operator : Operator ℕ) → AreImmediates features encoding operator → Has operator (Byte 0x0b) → (operator ≡ End) × (encoding ≡ [])
  is_end End h e = (refl, h)
  is_end (Scalar row) h e = absurd (no_row (λ (r : ScalarRow). r.code) (Byte 0x0b) scalar_rows refl row h.1 e)
  is_end (Load row argument) h e = absurd (no_row (λ (r : AccessRow). Byte r.code) (Byte 0x0b) load_rows refl row h.1 e)
  is_end (Store row argument) h e = absurd (no_row (λ (r : AccessRow). Byte r.code) (Byte 0x0b) store_rows refl row h.1 e)
  is_end _ h e = absurd cc

  is_call : (operator : Operator ℕ) → AreImmediates features encoding operator → Has operator (Byte 0x10) → (n : ℕ) × (operator ≡ Call n) × IsU32 encoding n
  is_call (Call function) h e = (function, refl, h)
  is_call (Scalar row) h e = absurd (no_row (λ (r : ScalarRow). r.code) (Byte 0x10) scalar_rows refl row h.1 e)
  is_call (Load row argument) h e = absurd (no_row (λ (r : AccessRow). Byte r.code) (Byte 0x10) load_rows refl row h.1 e)
  is_call (Store row argument) h e = absurd (no_row (λ (r : AccessRow). Byte r.code) (Byte 0x10) store_rows refl row h.1 e)
  is_call _ h e = absurd cc

  is_global_get : (operator : Operator ℕ) → AreImmediates features encoding operator → Has operator (Byte 0x23) → (n : ℕ) × (operator ≡ GlobalGet n) × IsU32 encoding n
  is_global_get (GlobalGet global) h e = (global, refl, h)
  is_global_get (Scalar row) h e = absurd (no_row (λ (r : ScalarRow). r.code) (Byte 0x23) scalar_rows refl row h.1 e)
  is_global_get (Load row argument) h e = absurd (no_row (λ (r : AccessRow). Byte r.code) (Byte 0x23) load_rows refl row h.1 e)
  is_global_get (Store row argument) h e = absurd (no_row (λ (r : AccessRow). Byte r.code) (Byte 0x23) store_rows refl row h.1 e)
  is_global_get _ h e = absurd cc

  is_ref_func : (operator : Operator ℕ) → AreImmediates features encoding operator → Has operator (Byte 0xd2) → (n : ℕ) × (operator ≡ RefFunc n) × IsU32 encoding n
  is_ref_func (RefFunc function) h e = (function, refl, h)
  is_ref_func (Scalar row) h e = absurd (no_row (λ (r : ScalarRow). r.code) (Byte 0xd2) scalar_rows refl row h.1 e)
  is_ref_func (Load row argument) h e = absurd (no_row (λ (r : AccessRow). Byte r.code) (Byte 0xd2) load_rows refl row h.1 e)
  is_ref_func (Store row argument) h e = absurd (no_row (λ (r : AccessRow). Byte r.code) (Byte 0xd2) store_rows refl row h.1 e)
  is_ref_func _ h e = absurd cc

  is_struct_new_default : (operator : Operator ℕ) → AreImmediates features encoding operator → Has operator (Prefixed 0xfb 1) → (n : ℕ) × (operator ≡ StructNewDefault n) × IsU32 encoding n
  is_struct_new_default (StructNewDefault type) h e = (type, refl, h)
  is_struct_new_default (Scalar row) h e = absurd (no_row (λ (r : ScalarRow). r.code) (Prefixed 0xfb 1) scalar_rows refl row h.1 e)
  is_struct_new_default (Load row argument) h e = absurd (no_row (λ (r : AccessRow). Byte r.code) (Prefixed 0xfb 1) load_rows refl row h.1 e)
  is_struct_new_default (Store row argument) h e = absurd (no_row (λ (r : AccessRow). Byte r.code) (Prefixed 0xfb 1) store_rows refl row h.1 e)
  is_struct_new_default _ h e = absurd cc

  is_memory_init : (operator : Operator ℕ) → AreImmediates features encoding operator → Has operator (Prefixed 0xfc 8) → (n m : ℕ) × (operator ≡ MemoryInit n m) × IsPair IsU32 IsU32 encoding (n, m)
  is_memory_init (MemoryInit segment memory) h e = (segment, memory, refl, h)
  is_memory_init (Scalar row) h e = absurd (no_row (λ (r : ScalarRow). r.code) (Prefixed 0xfc 8) scalar_rows refl row h.1 e)
  is_memory_init (Load row argument) h e = absurd (no_row (λ (r : AccessRow). Byte r.code) (Prefixed 0xfc 8) load_rows refl row h.1 e)
  is_memory_init (Store row argument) h e = absurd (no_row (λ (r : AccessRow). Byte r.code) (Prefixed 0xfc 8) store_rows refl row h.1 e)
  is_memory_init _ h e = absurd cc

  is_table_size : (operator : Operator ℕ) → AreImmediates features encoding operator → Has operator (Prefixed 0xfc 16) → (n : ℕ) × (operator ≡ TableSize n) × IsU32 encoding n
  is_table_size (TableSize table) h e = (table, refl, h)
  is_table_size (Scalar row) h e = absurd (no_row (λ (r : ScalarRow). r.code) (Prefixed 0xfc 16) scalar_rows refl row h.1 e)
  is_table_size (Load row argument) h e = absurd (no_row (λ (r : AccessRow). Byte r.code) (Prefixed 0xfc 16) load_rows refl row h.1 e)
  is_table_size (Store row argument) h e = absurd (no_row (λ (r : AccessRow). Byte r.code) (Prefixed 0xfc 16) store_rows refl row h.1 e)
  is_table_size _ h e = absurd cc

  is_elem_drop : (operator : Operator ℕ) → AreImmediates features encoding operator → Has operator (Prefixed 0xfc 13) → (n : ℕ) × (operator ≡ ElemDrop n) × IsU32 encoding n
  is_elem_drop (ElemDrop segment) h e = (segment, refl, h)
  is_elem_drop (Scalar row) h e = absurd (no_row (λ (r : ScalarRow). r.code) (Prefixed 0xfc 13) scalar_rows refl row h.1 e)
  is_elem_drop (Load row argument) h e = absurd (no_row (λ (r : AccessRow). Byte r.code) (Prefixed 0xfc 13) load_rows refl row h.1 e)
  is_elem_drop (Store row argument) h e = absurd (no_row (λ (r : AccessRow). Byte r.code) (Prefixed 0xfc 13) store_rows refl row h.1 e)
  is_elem_drop _ h e = absurd cc

-- ---- operators in turn

-- this operator comes first, and then those of the rest
abbrev pub ComesFirst : Features → Operator ℕ → List ℕ → List (Operator ℕ) → Type 0
ComesFirst features operator rest operators = (others : List (Operator ℕ)) × (operators ≡ operator ∷ others) × IsOperators features rest others

module _ (features : Features) (rest : List ℕ) (operators : List (Operator ℕ)) where
  alone : (operator : Operator ℕ) (code : OperatorCode) (f : IsFirst features code rest operators) → (f.operator ≡ operator) × (f.immediates ≡ []) → ComesFirst features operator rest operators
  alone operator code f is =
      (f.others, f.are ∙ ap (λ o. o ∷ f.others) is.0, subst (λ l. IsOperators features l f.others) (sym (f.parted ∙ ap (λ (l : List ℕ). l ++ f.after) is.1)) f.follow)

  pub unreachable_first : IsOperators features (0x00 ∷ rest) operators → ComesFirst features Unreachable rest operators
  unreachable_first h =
      let f = first_byte features 0x00 rest operators (omega arith) refl h in
      alone Unreachable (Byte 0x00) f (is_unreachable features f.immediates f.operator f.holds (ap (λ k. is_same_code k (Byte 0x00)) f.has))

  pub end_first : IsOperators features (0x0b ∷ rest) operators → ComesFirst features End rest operators
  end_first h =
      let f = first_byte features 0x0b rest operators (omega arith) refl h in
      alone End (Byte 0x0b) f (is_end features f.immediates f.operator f.holds (ap (λ k. is_same_code k (Byte 0x0b)) f.has))

-- the end alone
pub only_end : (features : Features) (operators : List (Operator ℕ)) → IsOperators features (0x0b ∷ []) operators → operators ≡ End ∷ []
only_end features operators h =
    let f = end_first features [] operators h in
    f.1 ∙ ap (λ l. End ∷ l) (no_operators features f.0 f.2)

-- operators of one small index
module _ (features : Features) (n : ℕ) (rest : List ℕ) (operators : List (Operator ℕ)) (few : n < 2 ^ 7) where
  indexed : (make : ℕ → Operator ℕ) (code : OperatorCode) (f : IsFirst features code (n ∷ rest) operators) → (m : ℕ) × (f.operator ≡ make m) × IsU32 f.immediates m
      → ComesFirst features (make n) rest operators
  indexed make code f is =
      let r = number_is f.immediates f.after rest n is.0 is.2 few f.parted in
      (f.others, f.are ∙ ap (λ o. o ∷ f.others) (is.1 ∙ ap make r.0), subst (λ l. IsOperators features l f.others) r.1 f.follow)

  pub call_first : IsOperators features (0x10 ∷ n ∷ rest) operators → ComesFirst features (Call n) rest operators
  call_first h =
      let f = first_byte features 0x10 (n ∷ rest) operators (omega arith) refl h in
      indexed Call (Byte 0x10) f (is_call features f.immediates f.operator f.holds (ap (λ k. is_same_code k (Byte 0x10)) f.has))

  pub global_get_first : IsOperators features (0x23 ∷ n ∷ rest) operators → ComesFirst features (GlobalGet n) rest operators
  global_get_first h =
      let f = first_byte features 0x23 (n ∷ rest) operators (omega arith) refl h in
      indexed GlobalGet (Byte 0x23) f (is_global_get features f.immediates f.operator f.holds (ap (λ k. is_same_code k (Byte 0x23)) f.has))

  pub ref_func_first : IsOperators features (0xd2 ∷ n ∷ rest) operators → ComesFirst features (RefFunc n) rest operators
  ref_func_first h =
      let f = first_byte features 0xd2 (n ∷ rest) operators (omega arith) refl h in
      indexed RefFunc (Byte 0xd2) f (is_ref_func features f.immediates f.operator f.holds (ap (λ k. is_same_code k (Byte 0xd2)) f.has))

  pub struct_new_default_first : IsOperators features (0xfb ∷ 0x01 ∷ n ∷ rest) operators → ComesFirst features (StructNewDefault n) rest operators
  struct_new_default_first h =
      let f = first_prefixed features 0xfb 0x01 (n ∷ rest) operators (omega arith) refl (small 1 (omega arith)) h in
      indexed StructNewDefault (Prefixed 0xfb 1) f (is_struct_new_default features f.immediates f.operator f.holds (ap (λ k. is_same_code k (Prefixed 0xfb 1)) f.has))

  pub table_size_first : IsOperators features (0xfc ∷ 0x10 ∷ n ∷ rest) operators → ComesFirst features (TableSize n) rest operators
  table_size_first h =
      let f = first_prefixed features 0xfc 0x10 (n ∷ rest) operators (omega arith) refl (small 16 (omega arith)) h in
      indexed TableSize (Prefixed 0xfc 16) f (is_table_size features f.immediates f.operator f.holds (ap (λ k. is_same_code k (Prefixed 0xfc 16)) f.has))

  pub elem_drop_first : IsOperators features (0xfc ∷ 0x0d ∷ n ∷ rest) operators → ComesFirst features (ElemDrop n) rest operators
  elem_drop_first h =
      let f = first_prefixed features 0xfc 0x0d (n ∷ rest) operators (omega arith) refl (small 13 (omega arith)) h in
      indexed ElemDrop (Prefixed 0xfc 13) f (is_elem_drop features f.immediates f.operator f.holds (ap (λ k. is_same_code k (Prefixed 0xfc 13)) f.has))

-- of two
of_zeros : (operator : Operator ℕ) (n m : ℕ) → operator ≡ MemoryInit n m → n ≡ 0 → m ≡ 0 → operator ≡ MemoryInit 0 0
of_zeros operator n m e a b = e ∙ ap (λ x. MemoryInit x m) a ∙ ap (λ x. MemoryInit 0 x) b

pub memory_init_first : (features : Features) (rest : List ℕ) (operators : List (Operator ℕ)) → IsOperators features (0xfc ∷ 0x08 ∷ 0x00 ∷ 0x00 ∷ rest) operators
    → ComesFirst features (MemoryInit 0 0) rest operators
memory_init_first features rest operators h =
    let f = first_prefixed features 0xfc 0x08 (0x00 ∷ 0x00 ∷ rest) operators (omega arith) refl (small 8 (omega arith)) h in
    let is = is_memory_init features f.immediates f.operator f.holds (ap (λ k. is_same_code k (Prefixed 0xfc 8)) f.has) in
    let p = is.3 in
    let a = number_is p.0 (p.1 ++ f.after) (0x00 ∷ rest) 0 is.0 p.3 (omega arith) (joined f.immediates f.after p.0 p.1 (0x00 ∷ 0x00 ∷ rest) f.parted p.2) in
    let b = number_is p.1 f.after rest 0 is.1 p.4 (omega arith) (sym a.1) in
    (f.others, f.are ∙ ap (λ o. o ∷ f.others) (of_zeros f.operator is.0 is.1 is.2 a.0 b.0), subst (λ l. IsOperators features l f.others) b.1 f.follow)
