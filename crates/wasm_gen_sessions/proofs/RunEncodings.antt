-- Locals as runs, and the encodings of these.
use Rattle.std.proofs.Common.{◌≡◌, ℕ, zero, suc, ◌<◌, ◌≤◌, ◌^◌, List, [], ◌∷◌, ◌++◌, length, map, replicate, refl, sym, subst, ap, ◌∙◌, arith, length-append}
use Rattle.std.specs.List.{AllByRecursion, flat_map, sum_by}
use Rattle.std.proofs.lemmas.List.{length-map, length-replicate}
use Rattle.std.proofs.lemmas.List.Sums.{sum_by-cons}
use Rattle.wasm_bodies.specs.Bodies.{Run, IsRun}
use Rattle.wasm_encoder_bodies.specs.Locals.{run_encoding, locals_encoding, expansion, AreApart, AreRunsOf, PassLength}
use Rattle.wasm_spec.specs.Bytes.{IsByte, AreBytes, IsList}
use Rattle.wasm_spec.specs.Types.{ValType}
use Rattle.wasm_spec.specs.Shortest.{unsigned_encoding}
use Rattle.wasm_spec.specs.SmallIndexes.{IsSmallValue}
use Rattle.wasm_spec.specs.TypeEncodings.{val_encoding}
use Rattle.wasm_spec.proofs.UnsignedEncodings.{at_most_five}
use Rattle.wasm_smith_sections.specs.ModuleEncoding.{as_run}
use Rattle.wasm_smith_validity.specs.MadeBodies.{AreMerged}
use Rattle.wasm_gen_sessions.proofs.Forms.{all_append, both, list_is, list_bytes, list_length}
use Rattle.wasm_gen_sessions.proofs.Numbers.{number_is, number_bytes}
use Rattle.wasm_gen_sessions.proofs.Values.{value_is, value_bytes, encoding_length}

-- ---- what runs stand for

abbrev unrolled : List Run → List (ValType ℕ)
unrolled runs = flat_map (λ run. replicate run.count run.type) runs

unrolled_is : (runs : List (ℕ × ValType ℕ)) → unrolled (map as_run runs) ≡ expansion runs
unrolled_is [] = refl
unrolled_is (run ∷ runs) = ap (λ l. replicate run.0 run.1 ++ l) (unrolled_is runs)

first_holds : (P : ValType ℕ → Type 0) (count : ℕ) (type : ValType ℕ) (rest : List (ValType ℕ)) → 0 < count → AllByRecursion P (replicate count type ++ rest) → P type
first_holds P zero type rest some h = absurd (omega (arith, some))
first_holds P (suc count) type rest some h = h.0

rest_holds : (P : ValType ℕ → Type 0) (count : ℕ) (type : ValType ℕ) (rest : List (ValType ℕ)) → AllByRecursion P (replicate count type ++ rest) → AllByRecursion P rest
rest_holds P zero type rest h = h
rest_holds P (suc count) type rest h = rest_holds P count type rest h.1

-- what holds of each of the locals of runs holds of each run's type
runs_hold : (P : ValType ℕ → Type 0) (runs : List Run) → AllByRecursion (λ run. 0 < run.count) runs → AllByRecursion P (unrolled runs)
    → AllByRecursion (λ run. P run.type) runs
runs_hold P [] some h = tt
runs_hold P (run ∷ runs) some h =
    (first_holds P run.count run.type (unrolled runs) some.0 h, runs_hold P runs some.1 (rest_holds P run.count run.type (unrolled runs) h))

counts_are : (runs : List Run) → sum_by (λ run. run.count) runs ≡ length (unrolled runs)
counts_are [] = refl
counts_are (run ∷ runs) = omega (
  arith,
  sum_by-cons (λ (r : Run). r.count) run runs,
  counts_are runs,
  length-append (replicate run.count run.type) (unrolled runs),
  length-replicate run.count run.type,
)

-- no more runs than locals
few_runs : (runs : List Run) → AllByRecursion (λ run. 0 < run.count) runs → length runs ≤ length (unrolled runs)
few_runs [] some = omega arith
few_runs (run ∷ runs) some = omega (
  arith,
  some.0,
  few_runs runs some.1,
  length-append (replicate run.count run.type) (unrolled runs),
  length-replicate run.count run.type,
)

-- and none of them has more
short_runs : (most : ℕ) (runs : List Run) → length (unrolled runs) ≤ most → AllByRecursion (λ run. run.count ≤ most) runs
short_runs most [] few = tt
short_runs most (run ∷ runs) few =
    let parts = length-append (replicate run.count run.type) (unrolled runs) in
    let count = length-replicate run.count run.type in
    (omega (arith, few, parts, count), short_runs most runs (omega (arith, few, parts, count)))

-- ---- runs of equal neighbours

none_empty : (runs : List (ℕ × ValType ℕ)) → AllByRecursion (λ run. 1 ≤ run.0) runs → AllByRecursion (λ run. 0 < run.count) (map as_run runs)
none_empty [] some = tt
none_empty (run ∷ runs) some = (omega (arith, some.0), none_empty runs some.1)

merged : (runs : List (ℕ × ValType ℕ)) → AllByRecursion (λ run. 1 ≤ run.0) runs → AreApart runs → AreMerged (map as_run runs)
merged [] some apart = tt
merged (run ∷ []) some apart = omega (arith, some.0)
merged (run ∷ next ∷ runs) some apart = (omega (arith, some.0), apart.0, merged (next ∷ runs) some.1 apart.1)

pub are_merged : (locals : List (ValType ℕ)) (runs : List (ℕ × ValType ℕ)) → AreRunsOf locals runs → AreMerged (map as_run runs)
are_merged locals runs h = merged runs h.some h.apart

pub locals_are : (locals : List (ValType ℕ)) (runs : List (ℕ × ValType ℕ)) → AreRunsOf locals runs → unrolled (map as_run runs) ≡ locals
locals_are locals runs h = unrolled_is runs ∙ h.expand

-- ---- what can be written

unseen : (most : ℕ) (runs : List (ℕ × ValType ℕ)) → most < 2 ^ 32 → AllByRecursion (λ run. run.count ≤ most) (map as_run runs) → AllByRecursion (λ run. run.0 < 2 ^ 32) runs
unseen most [] fits h = tt
unseen most (run ∷ runs) fits h = (omega (arith, fits, h.0), unseen most runs fits h.1)

-- locals of a short list
pub few_fit : (locals : List (ValType ℕ)) → length locals < 2 ^ 32 → PassLength locals → ⊥
few_fit locals few h =
    let runs = map as_run h.0 in
    let as_many : length (unrolled runs) ≡ length locals = ap length (locals_are locals h.0 h.1) in
    h.2 (record {
      few = omega (arith, few, as_many, length-map h.0 as_run, few_runs runs (none_empty h.0 h.1.some));
      short = unseen (length locals) h.0 few (short_runs (length locals) runs (omega (arith, as_many)));
    })

-- ---- their encodings

abbrev IsSmallRun : Run → Type 0
IsSmallRun run = (run.count ≤ 100) × IsSmallValue run.type

-- the runs of few locals whose references are small
small_runs : (locals : List (ValType ℕ)) (runs : List (ℕ × ValType ℕ)) → AreRunsOf locals runs → AllByRecursion IsSmallValue locals → length locals ≤ 100
    → AllByRecursion IsSmallRun (map as_run runs)
small_runs locals runs h small few =
    let are = locals_are locals runs h in
    both (λ (run : Run). run.count ≤ 100) (λ (run : Run). IsSmallValue run.type) (map as_run runs)
    (short_runs 100 (map as_run runs) (omega (arith, few, ap length are)))
    (runs_hold IsSmallValue (map as_run runs) (none_empty runs h.some) (subst (λ l. AllByRecursion IsSmallValue l) (sym are) small))

few_of_few : (locals : List (ValType ℕ)) (runs : List (ℕ × ValType ℕ)) → AreRunsOf locals runs → length locals ≤ 100 → length (map as_run runs) ≤ 100
few_of_few locals runs h few = omega (arith, few, few_runs (map as_run runs) (none_empty runs h.some), ap length (locals_are locals runs h))

run_is : (run : Run) → IsSmallRun run → IsRun (run_encoding run) run
unfolding run_encoding
run_is run h = (unsigned_encoding run.count, val_encoding run.type, refl, number_is run.count (omega (arith, h.0)), value_is run.type h.1)

pub runs_encoding_is : (locals : List (ValType ℕ)) (runs : List (ℕ × ValType ℕ)) → AreRunsOf locals runs → AllByRecursion IsSmallValue locals → length locals ≤ 100
    → IsList IsRun (locals_encoding (map as_run runs)) (map as_run runs)
runs_encoding_is locals runs h small few =
    list_is IsRun run_encoding IsSmallRun run_is (map as_run runs) (small_runs locals runs h small few) (omega (arith, few_of_few locals runs h few))

run_bytes : (run : Run) → IsSmallRun run → AreBytes (run_encoding run)
unfolding run_encoding
run_bytes run h = all_append IsByte (unsigned_encoding run.count) (val_encoding run.type) (number_bytes run.count (omega (arith, h.0))) (value_bytes run.type h.1)

pub runs_bytes : (locals : List (ValType ℕ)) (runs : List (ℕ × ValType ℕ)) → AreRunsOf locals runs → AllByRecursion IsSmallValue locals → length locals ≤ 100
    → AreBytes (locals_encoding (map as_run runs))
runs_bytes locals runs h small few =
    list_bytes run_encoding IsSmallRun run_bytes (map as_run runs) (small_runs locals runs h small few) (omega (arith, few_of_few locals runs h few))

run_length : (run : Run) → IsSmallRun run → length (run_encoding run) ≤ 11
unfolding run_encoding
run_length run h = omega (arith, length-append (unsigned_encoding run.count) (val_encoding run.type), at_most_five run.count (omega (arith, h.0)), encoding_length run.type h.1)

pub runs_length : (locals : List (ValType ℕ)) (runs : List (ℕ × ValType ℕ)) → AreRunsOf locals runs → AllByRecursion IsSmallValue locals → length locals ≤ 100
    → length (locals_encoding (map as_run runs)) ≤ 1105
runs_length locals runs h small few =
    let many = few_of_few locals runs h few in
    omega (arith, many, list_length run_encoding IsSmallRun 11 run_length (map as_run runs) (small_runs locals runs h small few) (omega (arith, many)))
