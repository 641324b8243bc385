-- Worked examples of all rows of a table are worked out at once.
use Rattle.std.proofs.Common.{Bool, true, false, not, ◌&&◌, ◌≡◌, ℕ, suc, List, [], ◌∷◌, ◌++◌, refl}
use Rattle.std.specs.List.{AllByRecursion, list_all}
use Rattle.wasm_bodies.specs.OperatorGates.{gate_of}
use Rattle.wasm_bodies.specs.OperatorRows.{ScalarRow, AccessRow, value_type}
use Rattle.wasm_bodies.specs.Operators.{Operator, Unreachable, Scalar, Load, Store}
use Rattle.wasm_bodies.proofs.Judging.{is_typed}
use Rattle.wasm_spec.specs.Features.{Flag, Features, default_features}
use Rattle.wasm_spec.specs.Types.{ValType}
use Rattle.wasm_spec_examples.specs.BodyExamples.{GivesWith, function_with, straight, without}
use Rattle.wasm_spec_examples.specs.OperatorExamples.{i32, i64, constant_of, other_than, operands_of, wrong_operands, access_at, AreAskedFor, IsRightRow, IsRightLoad, IsRightStore}
use Rattle.wasm_spec_examples.specs.TypeExamples.{gives}
use Rattle.wasm_spec_examples.proofs.RightBodies.{right, wrong}

-- whether the operators are the body of a function that gives these results
abbrev is_given : Features → List (ValType ℕ) → List (Operator ℕ) → Bool
is_given features results operators = is_typed (function_with features (gives results) []) (straight operators)

abbrev is_asked_for : List (ValType ℕ) → List (Operator ℕ) → Flag → Bool
is_asked_for results operators flag = is_given default_features results operators && not (is_given (without flag) results operators)

-- ---- parts

both : (a b : Bool) → (a && b) ≡ true → (a ≡ true) × (b ≡ true)
both true b e = (refl, e)
both false b e = absurd cc

is_false : (a : Bool) → not a ≡ true → a ≡ false
is_false true e = absurd cc
is_false false e = refl

all_of : {A : Type 0} (test : A → Bool) (P : A → Type 0) → ((a : A) → test a ≡ true → P a) → (as_ : List A) → list_all test as_ ≡ true → AllByRecursion P as_
all_of test P each [] e = tt
all_of test P each (a ∷ others) e = let b = both (test a) (list_all test others) e in (each a b.0, all_of test P each others b.1)

asked_for : (flags : List Flag) (results : List (ValType ℕ)) (operators : List (Operator ℕ)) → list_all (is_asked_for results operators) flags ≡ true → AreAskedFor flags results operators
asked_for flags results operators =
    all_of (is_asked_for results operators) (λ flag. GivesWith flag results operators)
    (λ flag e. let b = both (is_given default_features results operators) (not (is_given (without flag) results operators)) e in (right b.0, wrong (is_false (is_given (without flag) results operators) b.1))) flags

-- ---- rows

abbrev pub is_right_row : ScalarRow → Bool
is_right_row row =
    is_given default_features (value_type row.gives ∷ []) (operands_of row ++ Scalar row ∷ [])
    && (not (is_given default_features (value_type row.gives ∷ []) (wrong_operands row.takes ++ Scalar row ∷ []))
    && (not (is_given default_features [] (operands_of row ++ Scalar row ∷ []))
    && list_all (is_asked_for (value_type row.gives ∷ []) (Unreachable ∷ Scalar row ∷ [])) (gate_of {R = ℕ} (Scalar row))))

pub right_rows : (rows : List ScalarRow) → list_all is_right_row rows ≡ true → AllByRecursion IsRightRow rows
right_rows = all_of is_right_row IsRightRow (λ row e.
    let a = both _ _ e in
    let b = both _ _ a.1 in
    let d = both _ _ b.1 in
    record {
      right = right a.0;
      wrong = wrong (is_false _ b.0);
      nothing = wrong (is_false _ d.0);
      gated = asked_for (gate_of {R = ℕ} (Scalar row)) (value_type row.gives ∷ []) (Unreachable ∷ Scalar row ∷ []) d.1;
    })

abbrev pub is_right_load : AccessRow → Bool
is_right_load row =
    is_given default_features (value_type row.type ∷ []) (i32 ∷ Load row (access_at row.exponent 0 4294967295) ∷ [])
    && (is_given default_features (value_type row.type ∷ []) (i64 ∷ Load row (access_at 0 1 4294967296) ∷ [])
    && (not (is_given default_features (value_type row.type ∷ []) (i64 ∷ Load row (access_at 0 0 0) ∷ []))
    && (not (is_given default_features (value_type row.type ∷ []) (i32 ∷ Load row (access_at (suc row.exponent) 0 0) ∷ []))
    && (not (is_given default_features (value_type row.type ∷ []) (i32 ∷ Load row (access_at 0 0 4294967296) ∷ []))
    && (not (is_given default_features (value_type row.type ∷ []) (i32 ∷ Load row (access_at 0 2 0) ∷ []))
    && list_all (is_asked_for (value_type row.type ∷ []) (i32 ∷ Load row (access_at 0 0 0) ∷ [])) (gate_of {R = ℕ} (Load row (access_at 0 0 0))))))))

pub right_loads : (rows : List AccessRow) → list_all is_right_load rows ≡ true → AllByRecursion IsRightLoad rows
right_loads = all_of is_right_load IsRightLoad (λ row e.
    let a = both _ _ e in
    let b = both _ _ a.1 in
    let d = both _ _ b.1 in
    let f = both _ _ d.1 in
    let g = both _ _ f.1 in
    let h = both _ _ g.1 in
    record {
      first = right a.0;
      second = right b.0;
      long_address = wrong (is_false _ d.0);
      aligned_past = wrong (is_false _ f.0);
      offset_past = wrong (is_false _ g.0);
      no_memory = wrong (is_false _ h.0);
      gated = asked_for (gate_of {R = ℕ} (Load row (access_at 0 0 0))) (value_type row.type ∷ []) (i32 ∷ Load row (access_at 0 0 0) ∷ []) h.1;
    })

abbrev pub is_right_store : AccessRow → Bool
is_right_store row =
    is_given default_features [] (i32 ∷ constant_of row.type ∷ Store row (access_at row.exponent 0 4294967295) ∷ [])
    && (is_given default_features [] (i64 ∷ constant_of row.type ∷ Store row (access_at 0 1 4294967296) ∷ [])
    && (not (is_given default_features [] (i32 ∷ constant_of (other_than row.type) ∷ Store row (access_at 0 0 0) ∷ []))
    && (not (is_given default_features [] (i32 ∷ constant_of row.type ∷ Store row (access_at (suc row.exponent) 0 0) ∷ []))
    && (not (is_given default_features [] (i32 ∷ constant_of row.type ∷ Store row (access_at 0 0 4294967296) ∷ []))
    && (not (is_given default_features [] (i32 ∷ constant_of row.type ∷ Store row (access_at 0 2 0) ∷ []))
    && list_all (is_asked_for [] (Unreachable ∷ Store row (access_at 0 0 0) ∷ [])) (gate_of {R = ℕ} (Store row (access_at 0 0 0))))))))

pub right_stores : (rows : List AccessRow) → list_all is_right_store rows ≡ true → AllByRecursion IsRightStore rows
right_stores = all_of is_right_store IsRightStore (λ row e.
    let a = both _ _ e in
    let b = both _ _ a.1 in
    let d = both _ _ b.1 in
    let f = both _ _ d.1 in
    let g = both _ _ f.1 in
    let h = both _ _ g.1 in
    record {
      first = right a.0;
      second = right b.0;
      other_type = wrong (is_false _ d.0);
      aligned_past = wrong (is_false _ f.0);
      offset_past = wrong (is_false _ g.0);
      no_memory = wrong (is_false _ h.0);
      gated = asked_for (gate_of {R = ℕ} (Store row (access_at 0 0 0))) [] (Unreachable ∷ Store row (access_at 0 0 0) ∷ []) h.1;
    })
