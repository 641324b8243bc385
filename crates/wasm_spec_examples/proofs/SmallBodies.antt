-- Bodies of few bytes, and what they are read as.
use Rattle.std.proofs.Common.{Bool, ◌≡◌, ℕ, true, false, not, Some, List, [], ◌∷◌, ◌++◌, length, refl, sym, ap, arith, subst, ◌∙◌, length-append}
use Rattle.wasm_bodies.specs.Bodies.{AreLocals, Code, IsBegun, IsBodyOf, IsRun, Run, LeadsTo, block, done, if_else, if_then, in_function, loop, simple}
use Rattle.wasm_bodies.specs.BodyContext.{BodyContext, ModuleItems}
use Rattle.wasm_bodies.specs.Effects.{Labels, effect}
use Rattle.wasm_bodies.specs.Operands.{State, fresh}
use Rattle.wasm_bodies.specs.OperatorGrammar.{code_of, AreImmediates, IsOperator, IsOperators, IsOtherCode}
use Rattle.wasm_bodies.specs.OperatorRows.{Byte, is_same_code, load_rows, scalar_rows, store_rows}
use Rattle.wasm_bodies.specs.Operators.{Drop, End, Load, Operator, Scalar, Store, Unreachable}
use Rattle.wasm_bodies.proofs.Judging.{is_kept}
use Rattle.wasm_bodies.proofs.OtherCodes.{code_once, listed, no_code, some_code}
use Rattle.wasm_spec.proofs.Encodings.{small}
use Rattle.wasm_spec.proofs.WrongEncodings.{joined, number_is}
use Rattle.wasm_spec.specs.Bytes.{IsItems}
use Rattle.wasm_spec.specs.Features.{Features, default_features}
use Rattle.wasm_spec.specs.Types.{FuncType}
use Rattle.wasm_spec_examples.specs.BodyExamples.{module_items}
use Rattle.wasm_spec_examples.specs.TypeExamples.{takes}
use Rattle.wasm_spec_examples.proofs.SmallOperators.{of_byte}

-- no locals, and the first operators
pub no_locals : AreLocals default_features module_items (takes []) (0x00 ∷ []) []
no_locals = record { declared = (0x00 ∷ [], [], refl, small 0 (omega arith), refl); written = tt; within = λ h. omega (arith, h) }

pub unreachable : IsOperator default_features (0x00 ∷ []) Unreachable
unreachable = of_byte default_features 0x00 [] Unreachable refl (omega arith) refl refl

pub end : IsOperator default_features (0x0b ∷ []) End
end = of_byte default_features 0x0b [] End refl (omega arith) refl refl

abbrev pub unreachable_body : IsBodyOf (in_function default_features module_items (takes []) []) (Unreachable ∷ End ∷ [])
unreachable_body = record { code = simple Unreachable done; is_flat = refl; typed = is_kept (in_function default_features module_items (takes []) []) (simple Unreachable done) refl }

-- ---- what stands after no locals

no_runs : (entries after others : List ℕ) (runs : List Run) → IsItems IsRun entries runs → length runs ≡ 0 → entries ++ after ≡ others → after ≡ others
no_runs entries after others [] i none e = sym (ap (λ (l : List ℕ). l ++ after) i) ∙ e
no_runs entries after others (run ∷ runs) i none e = absurd (omega (arith, none))

pub after_none : {R : Type 0} (features : Features) (items : ModuleItems R) (type : FuncType R) (bytes after others : List ℕ) (runs : List Run) → AreLocals features items type bytes runs
    → 0x00 ∷ others ≡ bytes ++ after → after ≡ others
after_none features items type bytes after others runs locals e =
    let l = locals.declared in
    let n = number_is l.0 (l.1 ++ after) others 0x00 (length runs) l.3 (omega arith) (joined bytes after l.0 l.1 _ e l.2) in
    no_runs l.1 after others runs l.4 n.0 n.1

-- ---- no other code

-- the end of a body is no other code, and one byte isn't two
pub no_other_end : (features : Features) (code other rest : List ℕ) (operators : List (Operator ℕ)) → IsOperators features code operators → IsOtherCode other → code ++ (other ++ rest) ≡ 0x0b ∷ [] → ⊥
no_other_end features code other rest [] i o e = no_code 0x0b other rest [] (omega arith) refl refl o (sym (ap (λ (l : List ℕ). l ++ (other ++ rest)) i) ∙ e)
no_other_end features code other rest (operator ∷ operators) i o e =
    let h = i.3 in
    omega (
      arith,
      ap length e,
      length-append code (other ++ rest),
      length-append other rest,
      some_code other o.0 o.1,
      ap length i.2,
      length-append i.0 i.1,
      ap length h.2,
      length-append h.0 h.1,
      some_code h.0 (code_of operator) h.3,
    )

no_row : (same : Bool) → same ≡ true → not same ≡ true → ⊥
no_row true e n = absurd cc
no_row false e n = absurd cc

-- what has the code of a drop is one
is_drop : (features : Features) (encoding : List ℕ) (operator : Operator ℕ) → AreImmediates features encoding operator → is_same_code (code_of operator) (Byte 0x1a) ≡ true → operator ≡ Drop
is_drop features encoding Drop h e = refl
is_drop features encoding (Scalar row) h e =
    absurd (no_row (is_same_code row.code (Byte 0x1a)) e (listed (λ r. not (is_same_code r.code (Byte 0x1a))) scalar_rows row refl h.1))
is_drop features encoding (Load row argument) h e =
    absurd (no_row (is_same_code (Byte row.code) (Byte 0x1a)) e (listed (λ r. not (is_same_code (Byte r.code) (Byte 0x1a))) load_rows row refl h.1))
is_drop features encoding (Store row argument) h e =
    absurd (no_row (is_same_code (Byte row.code) (Byte 0x1a)) e (listed (λ r. not (is_same_code (Byte r.code) (Byte 0x1a))) store_rows row refl h.1))
is_drop features encoding _ h e = absurd cc

-- no body begins with a drop
pub no_drop : {R : Type 0} (cx : BodyContext R) (labels at : Labels R) (code : Code) (operators : List (Operator ℕ)) (last : State R) → LeadsTo cx labels (fresh [] []) code (Drop ∷ operators) at last → ⊥
no_drop cx labels at done operators last h = h
no_drop {R} cx labels at (simple first rest) operators last h = dropped first h.0 h.1.0 h.1.1
  where
    dropped : (first : Operator ℕ) → Drop ≡ first → (m : State R) → effect cx labels (fresh [] []) first ≡ Some m → ⊥
    dropped Drop same m e = absurd cc
    dropped _ same m e = absurd cc
no_drop cx labels at (block type inner rest) operators last h = absurd cc
no_drop cx labels at (loop type inner rest) operators last h = absurd cc
no_drop cx labels at (if_then type inner rest) operators last h = absurd cc
no_drop cx labels at (if_else type inner other rest) operators last h = absurd cc

-- so nothing stands after one
pub no_other_drop : {R : Type 0} (features : Features) (cx : BodyContext R) (code other rest others : List ℕ) (operators : List (Operator ℕ)) (labels : Labels R) (s : State R) → IsOperators features code operators
    → IsOtherCode other → IsBegun cx operators labels s → code ++ (other ++ rest) ≡ 0x1a ∷ others → ⊥
no_other_drop features cx code other rest others [] labels s i o b e = no_code 0x1a other rest others (omega arith) refl refl o (sym (ap (λ (l : List ℕ). l ++ (other ++ rest)) i) ∙ e)
no_other_drop features cx code other rest others (operator ∷ operators) labels s i o b e =
    let h = i.3 in
    let f = joined code (other ++ rest) i.0 i.1 _ (sym e) i.2 in
    let g = joined i.0 (i.1 ++ (other ++ rest)) h.0 h.1 _ f h.2 in
    let same = code_once h.0 (0x1a ∷ []) (h.1 ++ (i.1 ++ (other ++ rest))) others (code_of operator) (Byte 0x1a) h.3 (refl, omega arith, refl) (sym g) in
    let d = is_drop features h.1 operator h.4 (subst (λ c. is_same_code c (Byte 0x1a) ≡ true) (sym same) refl) in
    no_drop cx (cx.results ∷ []) labels b.whole.code operators s (subst (λ x. LeadsTo cx (cx.results ∷ []) (fresh [] []) b.whole.code (x ∷ operators) labels s) d b.leads)
