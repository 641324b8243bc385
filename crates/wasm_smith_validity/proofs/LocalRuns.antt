-- Locals as runs.
use Rattle.std.proofs.Common.{◌≡◌, ℕ, zero, suc, ◌<◌, List, [], ◌∷◌, ◌++◌, length, replicate, refl, sym, subst, arith, length-append}
use Rattle.std.specs.List.{AllByRecursion, flat_map, sum_by}
use Rattle.std.proofs.lemmas.List.{length-replicate}
use Rattle.std.proofs.lemmas.List.Sums.{sum_by-cons}
use Rattle.wasm_bodies.specs.Bodies.{Run}
use Rattle.wasm_spec.specs.Types.{ValType}
use Rattle.wasm_smith_validity.specs.MadeBodies.{AreMerged, IsMadeBody}
use Rattle.wasm_smith_validity.specs.Made.{MadeBody}

-- what runs stand for
abbrev unrolled : List Run → List (ValType ℕ)
unrolled runs = flat_map (λ run. replicate run.count run.type) runs

none_empty : (runs : List Run) → AreMerged runs → AllByRecursion (λ run. 0 < run.count) runs
none_empty [] h = tt
none_empty (run ∷ []) h = (h, tt)
none_empty (run ∷ next ∷ runs) h = (h.0, none_empty (next ∷ runs) h.2)

first_holds : (P : ValType ℕ → Type 0) (count : ℕ) (type : ValType ℕ) (rest : List (ValType ℕ)) → 0 < count → AllByRecursion P (replicate count type ++ rest) → P type
first_holds P zero type rest some h = absurd (omega (arith, some))
first_holds P (suc count) type rest some h = h.0

rest_holds : (P : ValType ℕ → Type 0) (count : ℕ) (type : ValType ℕ) (rest : List (ValType ℕ)) → AllByRecursion P (replicate count type ++ rest) → AllByRecursion P rest
rest_holds P zero type rest h = h
rest_holds P (suc count) type rest h = rest_holds P count type rest h.1

runs_hold : (P : ValType ℕ → Type 0) (runs : List Run) → AllByRecursion (λ run. 0 < run.count) runs → AllByRecursion P (unrolled runs) → AllByRecursion (λ run. P run.type) runs
runs_hold P [] some h = tt
runs_hold P (run ∷ runs) some h =
    (first_holds P run.count run.type (unrolled runs) some.0 h, runs_hold P runs some.1 (rest_holds P run.count run.type (unrolled runs) h))

-- what holds of each of the locals of a body holds of each run's type
pub runs_are : (P : ValType ℕ → Type 0) (made : MadeBody) (body : List ℕ) (b : IsMadeBody made body) → AllByRecursion P made.locals
    → AllByRecursion (λ run. P run.type) b.runs
runs_are P made body b h =
    runs_hold P b.runs (none_empty b.runs b.merged) (subst (λ l. AllByRecursion P l) (sym b.locals_are) h)

pub counts_are : (runs : List Run) → sum_by (λ run. run.count) runs ≡ length (unrolled runs)
counts_are [] = refl
counts_are (run ∷ runs) = omega (
  arith,
  sum_by-cons (λ (r : Run). r.count) run runs,
  counts_are runs,
  length-append (replicate run.count run.type) (unrolled runs),
  length-replicate run.count run.type,
)
