use Rattle.std.proofs.Common.{Bool, ◌≡◌, ◌⊎◌, ℕ, true, false, None, Some, List, [], ◌∷◌, refl, sym, subst, inl, inr}
use Rattle.wasm_bodies.specs.Bodies.{Code, Entered, IsBodyOf, LeadsTo, Passes, after_block, block, done, entered, flat, if_else, if_then, loop, simple, start_of}
use Rattle.wasm_bodies.specs.BodyContext.{BodyContext, provided}
use Rattle.wasm_bodies.specs.Effects.{Labels, effect}
use Rattle.wasm_bodies.specs.Operands.{State, fresh}
use Rattle.wasm_bodies.specs.OperatorGates.{is_on}
use Rattle.wasm_bodies.specs.Operators.{BlockType, Block, Drop, Else, End, If, Indexed, Loop, Operator, Unreachable, Value}
use Rattle.wasm_bodies.specs.Signatures.{from_to, gives_one}
use Rattle.wasm_bodies.proofs.Judging.{is_kept, is_typed}
use Rattle.wasm_spec.specs.Features.{default_features}
use Rattle.wasm_spec.specs.Types.{I32, I64}
use Rattle.wasm_spec_examples.specs.BodyExamples.{function_with, straight, then}
use Rattle.wasm_spec_examples.specs.OperatorExamples.{i32, i64}
use Rattle.wasm_spec_examples.specs.TypeExamples.{gives}
use Rattle.wasm_spec_examples.proofs.SmallBodies.{no_drop}
use Rattle.wasm_spec_examples.proofs.block_examples.first_operators.Goals as goal

-- the function of the examples, and its bodies
abbrev cx : BodyContext ℕ
cx = function_with default_features (gives []) []

abbrev whole : (code : Code) → is_typed cx code ≡ true → IsBodyOf cx (flat code (End ∷ []))
whole code e = record { code = code; is_flat = refl; typed = is_kept cx code e }

pub returns-clause-none : goal.returns-clause-none
returns-clause-none c = record { ending = End ∷ []; whole = whole done refl; leads = (refl, refl) }

-- ---- blocks

abbrev with_block : Code
with_block = block (Value I64) (straight (i64 ∷ [])) (straight (Drop ∷ []))

abbrev in_it : Entered ℕ
in_it = record { signature = gives_one I64; below = fresh [] [] }

pub returns-clause-in_block : goal.returns-clause-in_block
returns-clause-in_block c = record {
  ending = End ∷ Drop ∷ End ∷ [];
  whole = whole with_block refl;
  leads = (refl, (in_it, refl, inl (refl, (fresh (I64 ∷ []) [], refl, (refl, refl)))));
}

pub returns-clause-past_block : goal.returns-clause-past_block
returns-clause-past_block c = record {
  ending = Drop ∷ End ∷ [];
  whole = whole with_block refl;
  leads = (refl, (in_it, refl, inr ([], refl, (refl, refl))));
}

abbrev in_other : Entered ℕ
in_other = record { signature = from_to (I32 ∷ []) (I64 ∷ []); below = fresh [] [] }

pub returns-clause-in_loop : goal.returns-clause-in_loop
returns-clause-in_loop c = record {
  ending = Drop ∷ i64 ∷ End ∷ Drop ∷ End ∷ [];
  whole = whole (then (i32 ∷ []) (loop (Indexed 11) (straight (Drop ∷ i64 ∷ [])) (straight (Drop ∷ [])))) refl;
  leads = (refl, (fresh (I32 ∷ []) [], refl, (refl, (in_other, refl, inl (refl, refl)))));
}

-- ---- choices

abbrev with_choice : Code
with_choice = then (i32 ∷ i32 ∷ []) (if_else (Indexed 11) (straight (Drop ∷ i64 ∷ [])) (straight (Drop ∷ i64 ∷ [])) (straight (Drop ∷ [])))

pub returns-clause-in_first_list : goal.returns-clause-in_first_list
returns-clause-in_first_list c = record {
  ending = i64 ∷ Else ∷ Drop ∷ i64 ∷ End ∷ Drop ∷ End ∷ [];
  whole = whole with_choice refl;
  leads = (refl, (fresh (I32 ∷ []) [], refl, (refl, (fresh (I32 ∷ I32 ∷ []) [], refl, (refl, (in_other, refl, inl (refl, (fresh [] [], refl, (refl, refl)))))))));
}

pub returns-clause-in_second_list : goal.returns-clause-in_second_list
returns-clause-in_second_list c = record {
  ending = Drop ∷ i64 ∷ End ∷ Drop ∷ End ∷ [];
  whole = whole with_choice refl;
  leads = (refl, (fresh (I32 ∷ []) [], refl, (refl, (fresh (I32 ∷ I32 ∷ []) [], refl, (refl, (in_other, refl, inr (inl ([], refl, (refl, refl)))))))));
}

pub returns-clause-past_choice : goal.returns-clause-past_choice
returns-clause-past_choice c = record {
  ending = Drop ∷ End ∷ [];
  whole = whole with_choice refl;
  leads = (refl, (fresh (I32 ∷ []) [], refl, (refl, (fresh (I32 ∷ I32 ∷ []) [], refl, (refl, (in_other, refl, inr (inr ([], refl, (refl, refl)))))))));
}

-- ---- what isn't begun

-- code has an operator
no_flat : (code : Code) (operator : Operator ℕ) (others : List (Operator ℕ)) → [] ≡ flat code (operator ∷ others) → ⊥
no_flat done operator others e = absurd cc
no_flat (simple first rest) operator others e = absurd cc
no_flat (block type inner rest) operator others e = absurd cc
no_flat (loop type inner rest) operator others e = absurd cc
no_flat (if_then type inner rest) operator others e = absurd cc
no_flat (if_else type inner other rest) operator others e = absurd cc

same_type : (a b : BlockType ℕ) → Block a ≡ Block b → a ≡ b
same_type a b e = cc

no_loop : (a b : BlockType ℕ) → Block a ≡ Loop b → ⊥
no_loop a b e = absurd cc

no_if : (a b : BlockType ℕ) → Block a ≡ If b → ⊥
no_if a b e = absurd cc

no_state : (on : Bool) (m : State ℕ) → provided on None ≡ Some m → ⊥
no_state true m e = absurd cc
no_state false m e = absurd cc

-- a block that gives a number has a label that takes one
no_label : (labels : Labels ℕ) (s : State ℕ) (code : Code) → LeadsTo cx ([] ∷ []) (fresh [] []) code (Block (Value I64) ∷ []) ([] ∷ labels) s → ⊥
no_label labels s done h = h
no_label labels s (simple first rest) h = opens first h.0 h.1.0 h.1.1
  where
    opens : (first : Operator ℕ) → Block (Value I64) ≡ first → (m : State ℕ) → effect cx ([] ∷ []) (fresh [] []) first ≡ Some m → ⊥
    opens (Block type) same m e = no_state (is_on cx.features (Block type)) m e
    opens _ same m e = absurd cc
no_label labels s (block type inner rest) h =
    let e = same_type (Value I64) type h.0 in
    at h.1.0 (subst (λ t. entered cx (Block t) t (fresh [] []) ≡ Some h.1.0) (sym e) h.1.1) h.1.2
  where
    at : (b : Entered ℕ) → entered cx (Block (Value I64)) (Value I64) (fresh [] []) ≡ Some b → LeadsTo cx (b.signature.results ∷ [] ∷ []) (start_of b) inner [] ([] ∷ labels) s
        ⊎ Passes [] (λ others. flat inner (End ∷ others)) (λ others. LeadsTo cx ([] ∷ []) (after_block b) rest others ([] ∷ labels) s) → ⊥
    at b e (inl l) = let is : in_it ≡ b = cc in let n : [] ∷ labels ≡ (I64 ∷ []) ∷ [] ∷ [] = subst (λ x. [] ∷ labels ≡ x.signature.results ∷ [] ∷ []) (sym is) l.0 in absurd cc
    at b e (inr p) = no_flat inner End p.0 p.1
no_label labels s (loop type inner rest) h = no_loop (Value I64) type h.0
no_label labels s (if_then type inner rest) h = no_if (Value I64) type h.0
no_label labels s (if_else type inner other rest) h = no_if (Value I64) type h.0

pub returns-clause-another_label : goal.returns-clause-another_label
returns-clause-another_label c = λ labels s b. no_label labels s b.whole.code b.leads

-- an end is in no list
no_end : (labels at : Labels ℕ) (before s : State ℕ) (code : Code) → LeadsTo cx labels before code (End ∷ []) at s → ⊥
no_end labels at before s done h = h
no_end labels at before s (simple first rest) h = ends first h.0 h.1.0 h.1.1
  where
    ends : (first : Operator ℕ) → End ≡ first → (m : State ℕ) → effect cx labels before first ≡ Some m → ⊥
    ends End same m e = absurd cc
    ends _ same m e = absurd cc
no_end labels at before s (block type inner rest) h = absurd cc
no_end labels at before s (loop type inner rest) h = absurd cc
no_end labels at before s (if_then type inner rest) h = absurd cc
no_end labels at before s (if_else type inner other rest) h = absurd cc

no_whole : (at : Labels ℕ) (s : State ℕ) (code : Code) → LeadsTo cx ([] ∷ []) (fresh [] []) code (Unreachable ∷ End ∷ []) at s → ⊥
no_whole at s done h = h
no_whole at s (simple first rest) h = no_end ([] ∷ []) at h.1.0 s rest h.1.2
no_whole at s (block type inner rest) h = absurd cc
no_whole at s (loop type inner rest) h = absurd cc
no_whole at s (if_then type inner rest) h = absurd cc
no_whole at s (if_else type inner other rest) h = absurd cc

pub returns-clause-a_whole : goal.returns-clause-a_whole
returns-clause-a_whole c = λ labels s b. no_whole labels s b.whole.code b.leads

pub returns-clause-a_broken_rule : goal.returns-clause-a_broken_rule
returns-clause-a_broken_rule c = λ labels s b. no_drop cx ([] ∷ []) labels b.whole.code [] s b.leads
