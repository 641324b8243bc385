-- Operators whose types are kept packed are read as all are, but where an index is too large.
use Rattle.std.proofs.Common.{◌≡◌, ◌≤◌, ◌⊎◌, ℕ, Bool, true, false, cond, List, [], ◌∷◌, Option, Some, None, refl, sym, subst, ◌∙◌, arith, inl, inr}
use Rattle.std.proofs.lemmas.Bool.Decides.{eqb_tells}
use Rattle.std.specs.List.{Any}
use Rattle.wasm_bodies.specs.OperatorRows.{OperatorCode}
use Rattle.wasm_bodies.specs.Operators.{Value, Operator}
use Rattle.wasm_core_read.specs.Reading.{◌>>=◌}
use Rattle.wasm_core_read.specs.TypeReading.{list_at, val_type_at}
use Rattle.wasm_core_read.proofs.Forms.{ltb_tells}
use Rattle.wasm_spec.specs.Features.{Features}
use Rattle.wasm_spec.specs.Types.{Abstract, Concrete, ValType, I32, I64, F32, F64, V128, Ref}
use Rattle.wasmparser_types.specs.Index.{packable}
use Rattle.wasmparser_readers.specs.Answers.{HasLargeIndex}
use Rattle.wasmparser_readers.proofs.MappedReading.{given}
use Rattle.wasmparser_operators.specs.OperatorReading.{All, Packed, is_small, is_kept, are_kept, kept_type_at, begins_index, block_type_at, types_at, Shape, Bare, Number, Numbers, OfTable, OfMemory, Access, OfBlock, OfHeap, OfTypes, Labels, Signed, Float, Sixteen, shape_at, shape_of, shaped_at, coded_at, code_at, kept_operator_at, operator_at, types_in, lone_type, indexes_in, packed_types, packed_indexes}
use Rattle.wasmparser_operators.specs.OperatorAnswers.{is_other}
use Rattle.wasmparser_operators.proofs.OperatorForms.{Fits, shape_fits}

either : (b : Bool) → (b ≡ true) ⊎ (b ≡ false)
either true = inl refl
either false = inr refl

-- a type that isn't kept has an index that is too large
large_type : (type : ValType ℕ) → is_small type ≡ false → Any (λ index. packable ≤ index) (indexes_in (type ∷ []))
large_type I32 e = absurd cc
large_type I64 e = absurd cc
large_type F32 e = absurd cc
large_type F64 e = absurd cc
large_type V128 e = absurd cc
large_type (Ref nullable (Abstract heap)) e = absurd cc
large_type (Ref nullable (Concrete n)) e = elim (ltb_tells n packable) [
  | inl (t, lt) ↦ let f = rw t at e in absurd cc
  | inr (t, le) ↦ (0, n, omega arith, refl, le)
]

-- what is read with types kept packed is what is read of all, or the one that is read of all has a large index in these types
abbrev Agrees : {A : Type 0} → (A → List (ValType ℕ)) → Option (A × List ℕ) → Option (A × List ℕ) → Type 0
Agrees types packed all = (packed ≡ all) ⊎ ((packed ≡ None) × HasLargeIndex (λ a. indexes_in (types a)) all)

abbrev one : ValType ℕ → List (ValType ℕ)
one type = type ∷ []

type_agrees : (bytes : List ℕ) → Agrees one (kept_type_at Packed bytes) (kept_type_at All bytes)
unfolding kept_type_at
type_agrees bytes = by_read (val_type_at bytes)
  where
    by_read : (read : Option (ValType ℕ × List ℕ)) → Agrees one (read >>= λ a. cond (is_kept Packed a.0) (Some a) None) (read >>= λ a. cond (is_kept All a.0) (Some a) None)
    by_read None = inl refl
    by_read (Some a) = elim (either (is_small a.0)) [
      | inl t ↦ inl (rw t refl)
      | inr t ↦ inr (rw t refl, large_type a.0 t)
    ]

lone_agrees : (types : List (ValType ℕ)) (rest : List ℕ) → Agrees lone_type (cond (are_kept Packed types) (given types rest) None) (cond (are_kept All types) (given types rest) None)
lone_agrees [] rest = inl refl
lone_agrees (type ∷ []) rest = elim (either (is_small type)) [
  | inl t ↦ inl (rw t refl)
  | inr t ↦ inr (rw t refl, large_type type t)
]
lone_agrees (type ∷ other ∷ types) rest = inl refl

types_agree : (bytes : List ℕ) → Agrees lone_type (types_at Packed bytes) (types_at All bytes)
unfolding types_at
types_agree bytes = by_read (list_at val_type_at bytes)
  where
    by_read : (read : Option (List (ValType ℕ) × List ℕ)) → Agrees lone_type (read >>= λ a. cond (are_kept Packed a.0) (Some a) None) (read >>= λ a. cond (are_kept All a.0) (Some a) None)
    by_read None = inl refl
    by_read (Some a) = lone_agrees a.0 a.1

-- the same of what is read, seen by a view
seen_agrees : {A B : Type 0} (in_a : A → List (ValType ℕ)) (in_b : B → List (ValType ℕ)) (f : A → B) → ((a : A) → in_b (f a) ≡ in_a a) → (packed all : Option (A × List ℕ)) → Agrees in_a packed all
    → Agrees in_b (packed >>= λ a. given (f a.0) a.1) (all >>= λ a. given (f a.0) a.1)
seen_agrees in_a in_b f same packed all (inl e) = inl (rw e refl)
seen_agrees in_a in_b f same packed None (inr (none, large)) = absurd large
seen_agrees in_a in_b f same packed (Some a) (inr (none, large)) = inr (rw none refl, subst (λ types. Any (λ index. packable ≤ index) (indexes_in types)) (sym (same a.0)) large)

block_agrees : (features : Features) (bytes : List ℕ) → Agrees types_in (block_type_at Packed features bytes) (block_type_at All features bytes)
unfolding block_type_at
block_agrees features [] = inl refl
block_agrees features (b ∷ bs) = elim (eqb_tells b 0x40) [
  | inl (t, same) ↦ inl (rw t refl)
  | inr (t, other) ↦ elim (either (begins_index b)) [
    | inl u ↦ inl (rw (t, u) refl)
    | inr u ↦ rw (t, u) (seen_agrees one types_in (λ type. Value type) (λ type. refl) (kept_type_at Packed (b ∷ bs)) (kept_type_at All (b ∷ bs)) (type_agrees (b ∷ bs)))
  ]
]

shape_agrees : (features : Features) (code : OperatorCode) (shape : Shape) (bytes : List ℕ) → Fits features code shape → Agrees packed_types (shape_at Packed features shape bytes) (shape_at All features shape bytes)
shape_agrees features code (Bare operator) bytes fit = inl refl
shape_agrees features code (Number f) bytes fit = inl refl
shape_agrees features code (Numbers f) bytes fit = inl refl
shape_agrees features code (OfTable f) bytes fit = inl refl
shape_agrees features code (OfMemory f) bytes fit = inl refl
shape_agrees features code (Access f) bytes fit = inl refl
shape_agrees features code (OfBlock f) bytes fit = seen_agrees types_in packed_types f fit.1 (block_type_at Packed features bytes) (block_type_at All features bytes) (block_agrees features bytes)
shape_agrees features code (OfHeap f) bytes fit = inl refl
shape_agrees features code (OfTypes f) bytes fit = seen_agrees lone_type packed_types f fit.1 (types_at Packed bytes) (types_at All bytes) (types_agree bytes)
shape_agrees features code (Labels f) bytes fit = inl refl
shape_agrees features code (Signed bits f) bytes fit = inl refl
shape_agrees features code (Float len f) bytes fit = inl refl
shape_agrees features code (Sixteen f) bytes fit = inl refl

coded_agrees : (features : Features) (code : OperatorCode) (bytes : List ℕ) → Agrees packed_types (coded_at Packed features code bytes) (coded_at All features code bytes)
coded_agrees features code bytes = by_shape (shape_of code) refl
  where
    by_shape : (shape : Option Shape) → shape_of code ≡ shape → Agrees packed_types (shaped_at Packed features shape bytes) (shaped_at All features shape bytes)
    by_shape None e = inl refl
    by_shape (Some shape) e = shape_agrees features code shape bytes (shape_fits features code shape e)

pub operator_agrees : (features : Features) (bytes : List ℕ) → Agrees packed_types (kept_operator_at Packed features bytes) (operator_at features bytes)
unfolding kept_operator_at
operator_agrees features bytes = by_code (code_at bytes)
  where
    by_code : (read : Option (OperatorCode × List ℕ)) → Agrees packed_types (read >>= λ code. coded_at Packed features code.0 code.1) (read >>= λ code. coded_at All features code.0 code.1)
    by_code None = inl refl
    by_code (Some code) = coded_agrees features code.0 code.1

-- ---- what the reader says

pub read_of_kept : (features : Features) (bytes : List ℕ) (v : Operator ℕ) (rest : List ℕ) → kept_operator_at Packed features bytes ≡ Some (v, rest) → operator_at features bytes ≡ Some (v, rest)
read_of_kept features bytes v rest e = elim (operator_agrees features bytes) [
  | inl same ↦ sym same ∙ e
  | inr (none, large) ↦ let f = sym none ∙ e in absurd cc
]

pub unread_of_kept : (features : Features) (bytes : List ℕ) → kept_operator_at Packed features bytes ≡ None → (operator_at features bytes ≡ None) ⊎ HasLargeIndex packed_indexes (operator_at features bytes)
unread_of_kept features bytes e = elim (operator_agrees features bytes) [
  | inl same ↦ inl (sym same ∙ e)
  | inr (none, large) ↦ inr large
]

pub refused : (features : Features) (bytes : List ℕ) → kept_operator_at Packed features bytes ≡ None → is_other (code_at bytes) ≡ false
    → ((operator_at features bytes ≡ None) × (is_other (code_at bytes) ≡ false)) ⊎ HasLargeIndex packed_indexes (operator_at features bytes)
refused features bytes e other = elim (unread_of_kept features bytes e) [ inl none ↦ inl (none, other) | inr large ↦ inr large ]

pub ruleset refusals = (refused)
