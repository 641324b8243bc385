-- Operators that are read as what stands after their code is read: where that doesn't read, none of a whole family does.
use Rattle.std.proofs.Common.{◌≡◌, ◌≤◌, ◌<◌, ◌+◌, ◌==◌, ℕ, true, not, List, [], ◌∷◌, Option, None, is_some, refl, subst, sym, inl, inr, arith}
use Rattle.std.proofs.lemmas.Bool.Decides.{eqb_tells}
use Rattle.std.specs.List.{list_all, list_any}
use Rattle.wasm_bodies.specs.OperatorRows.{Prefixed}
use Rattle.wasm_core_read.specs.Reading.{unsigned_at, pair_at}
use Rattle.wasm_spec.specs.Features.{Features, has, MultiMemory}
use Rattle.wasmparser_operators.specs.CodeTables.{row_of}
use Rattle.wasmparser_operators.specs.OperatorReading.{Kept, block_type_at, coded_at, index_with_at, memory_argument_at, operator_from, shape_of}
use Rattle.wasmparser_operators.proofs.CodeTables.{not_some}
use Rattle.wasmparser_operators.proofs.OtherCodes.{both, counted, counted_from, is_off}

is_none : {X : Type 0} (o : Option X) → not (is_some o) ≡ true → o ≡ None
is_none o e = not_some o (is_off (is_some o) e)

-- nothing is read after a byte of a range
none_at : {X : Type 0} (read : ℕ → Option X) (low n b : ℕ) → list_all (λ k. not (is_some (read k))) (counted_from low n) ≡ true → low ≤ b → b < low + n → read b ≡ None
none_at read low n b e l h = is_none (read b) (counted (λ k. not (is_some (read k))) low n b e l h)

-- nothing is read after a code of a list
none_among : {X : Type 0} (read : ℕ → Option X) (codes : List ℕ) (b : ℕ) → list_all (λ k. not (is_some (read k))) codes ≡ true → list_any (λ k. b == k) codes ≡ true → read b ≡ None
none_among read [] b e among = absurd cc
none_among read (code ∷ codes) b e among =
    let p = both (not (is_some (read code))) (list_all (λ k. not (is_some (read k))) codes) e in
    elim (eqb_tells b code) [
      | inl (t, same) ↦ subst (λ k. read k ≡ None) (sym same) (is_none (read code) p.0)
      | inr (t, other) ↦ none_among read codes b p.1 (rw t at among)
    ]

pub load_unread : (kept : Kept) (features : Features) (b : ℕ) (bytes : List ℕ) → 0x28 ≤ b → b ≤ 0x35 → memory_argument_at features bytes ≡ None → operator_from kept features b bytes ≡ None
unfolding shape_of row_of
load_unread kept features b bytes l h e = none_at (λ k. operator_from kept features k bytes) 0x28 14 b (rw e refl) l (omega (arith, h))

pub store_unread : (kept : Kept) (features : Features) (b : ℕ) (bytes : List ℕ) → 0x36 ≤ b → b ≤ 0x3e → memory_argument_at features bytes ≡ None → operator_from kept features b bytes ≡ None
unfolding shape_of row_of
store_unread kept features b bytes l h e = none_at (λ k. operator_from kept features k bytes) 0x36 9 b (rw e refl) l (omega (arith, h))

pub block_unread : (kept : Kept) (features : Features) (b : ℕ) (bytes : List ℕ) → 0x02 ≤ b → b ≤ 0x04 → block_type_at kept features bytes ≡ None → operator_from kept features b bytes ≡ None
unfolding shape_of row_of
block_unread kept features b bytes l h e = none_at (λ k. operator_from kept features k bytes) 0x02 3 b (rw e refl) l (omega (arith, h))

pub variable_unread : (kept : Kept) (features : Features) (b : ℕ) (bytes : List ℕ) → 0x20 ≤ b → b ≤ 0x26 → unsigned_at 32 bytes ≡ None → operator_from kept features b bytes ≡ None
unfolding shape_of row_of
variable_unread kept features b bytes l h e = none_at (λ k. operator_from kept features k bytes) 0x20 7 b (rw e refl) l (omega (arith, h))

pub memory_size_unread : (kept : Kept) (features : Features) (b : ℕ) (bytes : List ℕ) → 0x3f ≤ b → b ≤ 0x40 → index_with_at (has features MultiMemory) bytes ≡ None → operator_from kept features b bytes ≡ None
unfolding shape_of row_of
memory_size_unread kept features b bytes l h e = none_at (λ k. operator_from kept features k bytes) 0x3f 2 b (rw e refl) l (omega (arith, h))

pub jump_unread : (kept : Kept) (features : Features) (b : ℕ) (bytes : List ℕ) → list_any (λ k. b == k) (0x0c ∷ 0x0d ∷ 0xd5 ∷ 0xd6 ∷ []) ≡ true → unsigned_at 32 bytes ≡ None → operator_from kept features b bytes ≡ None
unfolding shape_of row_of
jump_unread kept features b bytes among e = none_among (λ k. operator_from kept features k bytes) (0x0c ∷ 0x0d ∷ 0xd5 ∷ 0xd6 ∷ []) b (rw e refl) among

pub function_unread : (kept : Kept) (features : Features) (b : ℕ) (bytes : List ℕ) → list_any (λ k. b == k) (0x10 ∷ 0x12 ∷ 0x14 ∷ 0x15 ∷ 0xd2 ∷ []) ≡ true → unsigned_at 32 bytes ≡ None → operator_from kept features b bytes ≡ None
unfolding shape_of row_of
function_unread kept features b bytes among e = none_among (λ k. operator_from kept features k bytes) (0x10 ∷ 0x12 ∷ 0x14 ∷ 0x15 ∷ 0xd2 ∷ []) b (rw e refl) among

pub defined_unread : (kept : Kept) (features : Features) (b : ℕ) (bytes : List ℕ) → list_any (λ k. b == k) (0 ∷ 1 ∷ 6 ∷ 7 ∷ []) ≡ true → unsigned_at 32 bytes ≡ None → coded_at kept features (Prefixed 0xfb b) bytes ≡ None
unfolding shape_of row_of
defined_unread kept features b bytes among e = none_among (λ k. coded_at kept features (Prefixed 0xfb k) bytes) (0 ∷ 1 ∷ 6 ∷ 7 ∷ []) b (rw e refl) among

pub range_unread : (kept : Kept) (features : Features) (b : ℕ) (bytes : List ℕ) → list_any (λ k. b == k) (9 ∷ 11 ∷ 13 ∷ 15 ∷ 16 ∷ 17 ∷ []) ≡ true → unsigned_at 32 bytes ≡ None → coded_at kept features (Prefixed 0xfc b) bytes ≡ None
unfolding shape_of row_of
range_unread kept features b bytes among e = none_among (λ k. coded_at kept features (Prefixed 0xfc k) bytes) (9 ∷ 11 ∷ 13 ∷ 15 ∷ 16 ∷ 17 ∷ []) b (rw e refl) among

pub copy_unread : (kept : Kept) (features : Features) (b : ℕ) (bytes : List ℕ) → list_any (λ k. b == k) (8 ∷ 10 ∷ 12 ∷ 14 ∷ []) ≡ true → pair_at (unsigned_at 32) (unsigned_at 32) bytes ≡ None → coded_at kept features (Prefixed 0xfc b) bytes ≡ None
unfolding shape_of row_of
copy_unread kept features b bytes among e = none_among (λ k. coded_at kept features (Prefixed 0xfc k) bytes) (8 ∷ 10 ∷ 12 ∷ 14 ∷ []) b (rw e refl) among

pub ruleset loads = (load_unread)

pub ruleset stores = (store_unread)

pub ruleset blocks = (block_unread)

pub ruleset variables = (variable_unread)

pub ruleset memory_sizes = (memory_size_unread)

pub ruleset jumps = (jump_unread)

pub ruleset functions = (function_unread)

pub ruleset defined = (defined_unread)

pub ruleset ranges = (range_unread)

pub ruleset copies = (copy_unread)
