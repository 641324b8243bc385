-- How many blocks are open after an operator, by its first byte.
use Rattle.std.proofs.Common.{◌≡◌, ◌≢◌, ◌≤◌, inl, inr, ℕ, ◌+◌, ◌-◌, List, [], ◌∷◌, ◌++◌, Option, Some, None, refl, sym, ap, subst, ◌∙◌, arith}
use Rattle.std.proofs.lemmas.Bool.Decides.{eqb_tells}
use Rattle.std.specs.Prelude.{slice_get}
use Rattle.wasm_bodies.specs.OperatorGrammar.{IsCode, IsOperator, code_of}
use Rattle.wasm_bodies.specs.OperatorRows.{Byte, OperatorCode}
use Rattle.wasm_bodies.specs.Operators.{BlockType, Operator, Block, Loop, If, End}
use Rattle.wasm_core_read.proofs.ReadingLaws.{some_is}
use Rattle.wasm_core_read.specs.Laws.{Begins}
use Rattle.wasm_core_read.specs.Reading.{◌>>=◌}
use Rattle.wasm_spec.proofs.WrongEncodings.{heads}
use Rattle.wasm_spec.specs.Features.{Features}
use Rattle.wasmparser_operators.specs.OperatorReading.{All, block_type_at, code_at, kept_operator_at, operator_at, shape_of}
use Rattle.wasm_gen_explain.specs.Operators.{open_after}
use Rattle.wasm_gen_explain.specs.Searches.{open_from}

-- ---- by the byte

pub opens_block : (b blocks : ℕ) → 2 ≤ b → b ≤ 4 → open_from (Some b) blocks ≡ blocks + 1
opens_block b blocks ge le = elim (eqb_tells b 2) [
  | inl (t, same) ↦ rw t refl
  | inr (t, two) ↦ elim (eqb_tells b 3) [
    | inl (u, same) ↦ rw (t, u) refl
    | inr (u, three) ↦ elim (eqb_tells b 4) [
      | inl (v, same) ↦ rw (t, u, v) refl
      | inr (v, four) ↦ absurd (four (omega (arith, ge, le, two, three)))
    ]
  ]
]

pub ends_block : (b blocks : ℕ) → b ≡ 0x0b → open_from (Some b) blocks ≡ blocks - 1
ends_block b blocks e = rw e refl

pub opens_none : (b blocks : ℕ) → b ≢ 2 → b ≢ 3 → b ≢ 4 → b ≢ 0x0b → open_from (Some b) blocks ≡ blocks
opens_none b blocks two three four last = elim (eqb_tells b 2) [
  | inl (t, same) ↦ absurd (two same)
  | inr (t, other) ↦ elim (eqb_tells b 3) [
    | inl (u, same) ↦ absurd (three same)
    | inr (u, other) ↦ elim (eqb_tells b 4) [
      | inl (v, same) ↦ absurd (four same)
      | inr (v, other) ↦ elim (eqb_tells b 0x0b) [
        | inl (w, same) ↦ absurd (last same)
        | inr (w, other) ↦ rw (t, u, v, w) refl
      ]
    ]
  ]
]

-- (cited by counting blocks)
pub ruleset opened_steps = (opens_block, ends_block, opens_none)

-- ---- by the operator

-- the first byte of an operator whose code is a byte
first_byte : (features : Features) (b c : ℕ) (bs rest : List ℕ) (v : Operator ℕ) → code_of v ≡ Byte c → Begins (IsOperator features) (b ∷ bs) v rest → b ≡ c
first_byte features b c bs rest v e h =
    let code = h.encodes.0 in
    let others = h.encodes.1 in
    let is : code ≡ c ∷ [] = (subst (λ (k : OperatorCode). IsCode code k) e h.encodes.3).0 in
    let whole : b ∷ bs ≡ c ∷ (others ++ rest) = h.parts ∙ ap (λ (l : List ℕ). l ++ rest) (h.encodes.2 ∙ ap (λ (l : List ℕ). l ++ others) is) in
    heads b c bs (others ++ rest) whole

-- an operator that begins with another byte than those of blocks and ends
opens_other : (features : Features) (b : ℕ) (bs rest : List ℕ) (v : Operator ℕ) (blocks : ℕ) → b ≢ 2 → b ≢ 3 → b ≢ 4 → b ≢ 0x0b → Begins (IsOperator features) (b ∷ bs) v rest → blocks ≡ open_after v blocks
unfolding open_after
opens_other features b bs rest (Block type) blocks two three four last h = absurd (two (first_byte features b 2 bs rest (Block type) refl h))
opens_other features b bs rest (Loop type) blocks two three four last h = absurd (three (first_byte features b 3 bs rest (Loop type) refl h))
opens_other features b bs rest (If type) blocks two three four last h = absurd (four (first_byte features b 4 bs rest (If type) refl h))
opens_other features b bs rest End blocks two three four last h = absurd (last (first_byte features b 0x0b bs rest End refl h))
opens_other features b bs rest _ blocks two three four last h = refl

abbrev seen : (BlockType ℕ → Operator ℕ) → BlockType ℕ × List ℕ → Option (Operator ℕ × List ℕ)
seen f read = Some (f read.0, read.1)

-- an operator that is read as one with a block type
opens_read : (f : BlockType ℕ → Operator ℕ) (read : Option (BlockType ℕ × List ℕ)) (v : Operator ℕ) (rest : List ℕ) (blocks : ℕ) → ((type : BlockType ℕ) → open_after (f type) blocks ≡ blocks + 1) → (read >>= seen f) ≡ Some (v, rest)
    → blocks + 1 ≡ open_after v blocks
opens_read f None v rest blocks one e = absurd cc
opens_read f (Some read) v rest blocks one e = sym (one read.0) ∙ ap (λ (x : Operator ℕ × List ℕ). open_after x.0 blocks) (some_is (f read.0, read.1) (v, rest) e)

block_opens : (features : Features) (bs rest : List ℕ) (v : Operator ℕ) (blocks : ℕ) → operator_at features (0x02 ∷ bs) ≡ Some (v, rest) → blocks + 1 ≡ open_after v blocks
unfolding kept_operator_at code_at shape_of open_after
block_opens features bs rest v blocks e = opens_read Block (block_type_at All features bs) v rest blocks (λ type. refl) e

loop_opens : (features : Features) (bs rest : List ℕ) (v : Operator ℕ) (blocks : ℕ) → operator_at features (0x03 ∷ bs) ≡ Some (v, rest) → blocks + 1 ≡ open_after v blocks
unfolding kept_operator_at code_at shape_of open_after
loop_opens features bs rest v blocks e = opens_read Loop (block_type_at All features bs) v rest blocks (λ type. refl) e

if_opens : (features : Features) (bs rest : List ℕ) (v : Operator ℕ) (blocks : ℕ) → operator_at features (0x04 ∷ bs) ≡ Some (v, rest) → blocks + 1 ≡ open_after v blocks
unfolding kept_operator_at code_at shape_of open_after
if_opens features bs rest v blocks e = opens_read If (block_type_at All features bs) v rest blocks (λ type. refl) e

end_closes : (features : Features) (bs rest : List ℕ) (v : Operator ℕ) (blocks : ℕ) → operator_at features (0x0b ∷ bs) ≡ Some (v, rest) → blocks - 1 ≡ open_after v blocks
unfolding kept_operator_at code_at shape_of open_after
end_closes features bs rest v blocks e = ap (λ (x : Operator ℕ × List ℕ). open_after x.0 blocks) (some_is (End, bs) (v, rest) e)

none_read : (features : Features) (rest : List ℕ) (v : Operator ℕ) → ¬ (operator_at features [] ≡ Some (v, rest))
unfolding kept_operator_at code_at
none_read features rest v e = absurd cc

-- the operator that reads opens and ends the blocks that its first byte says
pub opens_by_byte : (features : Features) (bytes rest : List ℕ) (v : Operator ℕ) → operator_at features bytes ≡ Some (v, rest) → Begins (IsOperator features) bytes v rest → (blocks : ℕ) → open_from (slice_get bytes 0) blocks ≡ open_after v blocks
opens_by_byte features [] rest v e h blocks = absurd (none_read features rest v e)
opens_by_byte features (b ∷ bs) rest v e h blocks = elim (eqb_tells b 2) [
  | inl (t, same) ↦ rw t (block_opens features bs rest v blocks (at 2 same))
  | inr (t, two) ↦ elim (eqb_tells b 3) [
    | inl (u, same) ↦ rw (t, u) (loop_opens features bs rest v blocks (at 3 same))
    | inr (u, three) ↦ elim (eqb_tells b 4) [
      | inl (w, same) ↦ rw (t, u, w) (if_opens features bs rest v blocks (at 4 same))
      | inr (w, four) ↦ elim (eqb_tells b 0x0b) [
        | inl (x, same) ↦ rw (t, u, w, x) (end_closes features bs rest v blocks (at 0x0b same))
        | inr (x, last) ↦ rw (t, u, w, x) (opens_other features b bs rest v blocks two three four last h)
      ]
    ]
  ]
]
  where
    at : (c : ℕ) → b ≡ c → operator_at features (c ∷ bs) ≡ Some (v, rest)
    at c same = ap (λ (k : ℕ). operator_at features (k ∷ bs)) (sym same) ∙ e
