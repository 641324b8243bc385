-- Bodies without locals: some that are well typed, and what makes others wrong.
use Rattle.std.proofs.Common.{◌≡◌, ◌≤◌, ℕ, Bool, true, false, List, [], ◌∷◌, length, reverse, None, Some, refl, sym, subst, ap, ◌∙◌, arith}
use Rattle.wasm_bodies.proofs.Judging.{is_kept, is_typed}
use Rattle.wasm_bodies.specs.Bodies.{AreLocals, Code, EndsWith, IsExactly, IsFunctionBody, Judged, Run, block, done, flat, if_else, if_then, in_function, loop, simple}
use Rattle.wasm_bodies.specs.BodyContext.{BodyContext, ModuleItems, provided}
use Rattle.wasm_bodies.specs.Effects.{effect}
use Rattle.wasm_bodies.specs.Operands.{State, each_taken, fresh, nothing_known}
use Rattle.wasm_bodies.specs.OperatorGrammar.{IsOperator, IsOperators}
use Rattle.wasm_bodies.specs.Operators.{Operator, Block, Else, End, If, Loop, Unreachable}
use Rattle.wasm_spec.proofs.Encodings.{small}
use Rattle.wasm_spec.specs.Features.{Features}
use Rattle.wasm_spec.specs.Types.{FuncType, ValType}
use Rattle.wasm_spec_examples.proofs.SmallBodies.{after_none}

-- ---- well typed

pub no_locals : {R : Type 0} (features : Features) (items : ModuleItems R) (type : FuncType R) → length type.params ≤ 50000 → AreLocals features items type (0x00 ∷ []) []
no_locals features items type few = record { declared = (0x00 ∷ [], [], refl, small 0 (omega arith), refl); written = tt; within = λ h. omega (arith, few, h) }

-- a body, from its code
pub body_of : {R : Type 0} (features : Features) (items : ModuleItems R) (type : FuncType R) (code : Code) (encoding : List ℕ) → length type.params ≤ 50000
    → IsOperators features encoding (flat code (End ∷ [])) → is_typed (in_function features items type []) code ≡ true → IsFunctionBody features items type (0x00 ∷ encoding)
body_of features items type code encoding few spelled typed = record {
  runs = [];
  operators = flat code (End ∷ []);
  locals_encoding = 0x00 ∷ [];
  code_encoding = encoding;
  begins = refl;
  locals = no_locals features items type few;
  spelled = spelled;
  typed = record { code = code; is_flat = refl; typed = is_kept (in_function features items type []) code typed };
}

pub unreachable_is : (features : Features) → IsOperator features (0x00 ∷ []) Unreachable
unreachable_is features = (0x00 ∷ [], [], refl, (refl, omega arith, refl), refl)

pub end_is : (features : Features) → IsOperator features (0x0b ∷ []) End
end_is features = (0x0b ∷ [], [], refl, (refl, omega arith, refl), refl)

pub just_end : (features : Features) → IsOperators features (0x0b ∷ []) (End ∷ [])
just_end features = (0x0b ∷ [], [], refl, end_is features, refl)

-- an open list supplies whatever is taken
supplied : {R : Type 0} (items : ModuleItems R) (types : List (ValType R)) → each_taken items types (nothing_known (fresh [] [])) ≡ Some (nothing_known (fresh [] []))
supplied items [] = refl
supplied items (type ∷ types) = supplied items types

pub unreachable_body : {R : Type 0} (features : Features) (items : ModuleItems R) (type : FuncType R) → length type.params ≤ 50000 → IsFunctionBody features items type (0x00 ∷ 0x00 ∷ 0x0b ∷ [])
unreachable_body features items type few =
    body_of features items type (simple Unreachable done) (0x00 ∷ 0x0b ∷ []) few (0x00 ∷ [], 0x0b ∷ [], refl, unreachable_is features, just_end features)
    (rw (supplied items (reverse type.results)) refl)

pub empty_body : {R : Type 0} (features : Features) (items : ModuleItems R) → IsFunctionBody features items (record { params = []; results = [] }) (0x00 ∷ 0x0b ∷ [])
empty_body features items = body_of features items (record { params = []; results = [] }) done (0x0b ∷ []) (omega arith) (just_end features) refl

-- ---- steps

-- from a state on, the operators are the rest of a body
abbrev pub IsRest : {R : Type 0} → BodyContext R → State R → List (Operator ℕ) → Type 0
IsRest cx s operators = (code : Code) × (operators ≡ flat code (End ∷ [])) × EndsWith cx.items cx.results (λ e. Judged cx (cx.results ∷ []) s code e)

-- it opens, parts and ends no list
abbrev pub is_simple : Operator ℕ → Bool
is_simple (Block type) = false
is_simple (Loop type) = false
is_simple (If type) = false
is_simple Else = false
is_simple End = false
is_simple operator = true

is_no_other : (a b : Operator ℕ) (x y : List (Operator ℕ)) → is_simple a ≡ true → is_simple b ≡ false → a ∷ x ≡ b ∷ y → ⊥
is_no_other a b x y plain other e =
    let same : a ≡ b = cc in
    let f : is_simple a ≡ false = ap is_simple same ∙ other in
    absurd cc

-- a simple operator has an effect, and the others go on from there
pub stepped : {R : Type 0} (cx : BodyContext R) (s : State R) (operator : Operator ℕ) (others : List (Operator ℕ)) → is_simple operator ≡ true → IsRest cx s (operator ∷ others)
    → (m : State R) × (effect cx (cx.results ∷ []) s operator ≡ Some m) × IsRest cx m others
stepped {R} cx s operator others plain r = by_code r.0 r.1 r.2
  where
    by_code : (code : Code) → operator ∷ others ≡ flat code (End ∷ []) → EndsWith cx.items cx.results (λ e. Judged cx (cx.results ∷ []) s code e)
        → (m : State R) × (effect cx (cx.results ∷ []) s operator ≡ Some m) × IsRest cx m others
    by_code done e t = absurd (is_no_other operator End others [] plain refl e)
    by_code (simple first rest) e t =
        let same : first ≡ operator = cc in
        let after : others ≡ flat rest (End ∷ []) = cc in
        let j = t.1 in
        (j.0, ap (λ o. effect cx (cx.results ∷ []) s o) (sym same) ∙ j.1, (rest, after, (t.0, j.2, t.2)))
    by_code (block type inner rest) e t = absurd (is_no_other operator (Block type) others _ plain refl e)
    by_code (loop type inner rest) e t = absurd (is_no_other operator (Loop type) others _ plain refl e)
    by_code (if_then type inner rest) e t = absurd (is_no_other operator (If type) others _ plain refl e)
    by_code (if_else type inner other rest) e t = absurd (is_no_other operator (If type) others _ plain refl e)

-- at the end stand exactly the results
pub ended : {R : Type 0} (cx : BodyContext R) (s : State R) → IsRest cx s (End ∷ []) → IsExactly cx.items cx.results s
ended cx s r = by_code r.0 r.1 r.2
  where
    by_code : (code : Code) → End ∷ [] ≡ flat code (End ∷ []) → EndsWith cx.items cx.results (λ e. Judged cx (cx.results ∷ []) s code e) → IsExactly cx.items cx.results s
    by_code done e t = subst (λ l. IsExactly cx.items cx.results l) t.1 t.2
    by_code (simple End rest) e t = let f = t.1.1 in absurd cc
    by_code (simple _ rest) e t = absurd cc
    by_code (block type inner rest) e t = absurd cc
    by_code (loop type inner rest) e t = absurd cc
    by_code (if_then type inner rest) e t = absurd cc
    by_code (if_else type inner other rest) e t = absurd cc

-- there is an end
pub some_operator : {R : Type 0} (cx : BodyContext R) (s : State R) → IsRest cx s [] → ⊥
some_operator cx s r = by_code r.0 r.1
  where
    by_code : (code : Code) → [] ≡ flat code (End ∷ []) → ⊥
    by_code done e = absurd cc
    by_code (simple operator rest) e = absurd cc
    by_code (block type inner rest) e = absurd cc
    by_code (loop type inner rest) e = absurd cc
    by_code (if_then type inner rest) e = absurd cc
    by_code (if_else type inner other rest) e = absurd cc

-- nothing comes of nothing, whatever the condition
pub none_given : {A : Type 0} (condition : Bool) (a : A) → provided condition None ≡ Some a → ⊥
none_given true a e = absurd cc
none_given false a e = absurd cc

-- ---- a body without locals

-- its operators, and the context in which they are judged
pub record IsRead {R : Type 0} (features : Features) (items : ModuleItems R) (type : FuncType R) (bytes : List ℕ) : Type 0 where
  pub runs : List Run
  pub operators : List (Operator ℕ)
  pub spelled : IsOperators features bytes operators
  pub rest : IsRest (in_function features items type runs) (fresh [] []) operators

pub read : {R : Type 0} (features : Features) (items : ModuleItems R) (type : FuncType R) (bytes : List ℕ) → IsFunctionBody features items type (0x00 ∷ bytes) → IsRead features items type bytes
read features items type bytes b = record {
  runs = b.runs;
  operators = b.operators;
  spelled = subst (λ l. IsOperators features l b.operators) (after_none features items type b.locals_encoding b.code_encoding bytes b.runs b.locals b.begins) b.spelled;
  rest = (b.typed.code, b.typed.is_flat, b.typed.typed);
}
