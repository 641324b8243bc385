-- The last of some runs of locals, and the runs with a local more.
use Rattle.std.proofs.Common.{◌≡◌, ℕ, zero, suc, ◌+◌, ◌-◌, ◌<◌, ◌≤◌, ◌^◌, List, [], ◌∷◌, ◌++◌, length, map, take, set, get_or, refl, sym, ap, ◌∙◌, subst, arith}
use Rattle.std.proofs.lemmas.List.{map-append, length-map}
use Rattle.wasm_core_types.specs.declared.types.ValType.{ValType}
use Rattle.wasm_encoder_bodies.specs.CoreLocals.{pair_of}
use Rattle.wasm_encoder_bodies.specs.Locals.{AreRunsOf, AreWritable, FitLength, PassLength}
use Rattle.wasm_encoder_bodies.specs.declared.local_runs.LocalRun.{LocalRun}
use Rattle.wasm_encoder_bodies.proofs.TypeRuns.{EndsWithOther, extended, begun, long_run, longer_run, many_runs, one_more_run}

last_seen : {A B : Type 0} (view : A → B) (xs : List A) (i : ℕ) (x : A) → i + 1 ≡ length xs → x ≡ get_or xs i x → map view xs ≡ map view (take i xs) ++ view x ∷ []
last_seen view [] i x p e = absurd (omega arith)
last_seen view (y ∷ []) zero x p e = ap (λ z. view z ∷ []) (sym e)
last_seen view (y ∷ []) (suc i) x p e = absurd (omega arith)
last_seen view (y ∷ z ∷ zs) zero x p e = absurd (omega arith)
last_seen view (y ∷ z ∷ zs) (suc i) x p e = ap (λ l. view y ∷ l) (last_seen view (z ∷ zs) i x (omega arith) e)

-- the last run is of the type
pub is_last : (runs : List LocalRun) (run : LocalRun) (type : ValType) → 0 < length runs → run ≡ get_or runs (length runs - 1) run → run.ty ≡ type
    → map pair_of runs ≡ map pair_of (take (length runs - 1) runs) ++ (run.count, type) ∷ []
is_last runs run type p e same = last_seen pair_of runs (length runs - 1) run (omega arith) e ∙ ap (λ t. map pair_of (take (length runs - 1) runs) ++ (run.count, t) ∷ []) same

ends_with : (runs : List LocalRun) (i : ℕ) (run : LocalRun) (type : ValType) → i + 1 ≡ length runs → run ≡ get_or runs i run → ¬ (run.ty ≡ type) → EndsWithOther type (map pair_of runs)
ends_with [] i run type p e other = tt
ends_with (r ∷ []) zero run type p e other = λ same. other (ap (λ (x : LocalRun). x.ty) e ∙ same)
ends_with (r ∷ []) (suc i) run type p e other = absurd (omega arith)
ends_with (r ∷ s ∷ rest) zero run type p e other = absurd (omega arith)
ends_with (r ∷ s ∷ rest) (suc i) run type p e other = ends_with (s ∷ rest) i run type (omega arith) e other

-- the last run is of another type
pub is_other : (runs : List LocalRun) (run : LocalRun) (type : ValType) → 0 < length runs → run ≡ get_or runs (length runs - 1) run → ¬ (run.ty ≡ type)
    → (types : List ValType) → AreRunsOf types (map pair_of runs) → AreRunsOf (types ++ type ∷ []) (map pair_of runs ++ (1, type) ∷ [])
is_other runs run type p e other types h = begun types (map pair_of runs) type h (ends_with runs (length runs - 1) run type (omega arith) e other)

none_last : (runs : List LocalRun) (type : ValType) → length runs ≡ 0 → EndsWithOther type (map pair_of runs)
none_last [] type e = tt
none_last (r ∷ rest) type e = absurd (omega (arith, e))

pub no_last : (runs : List LocalRun) (type : ValType) → length runs ≡ 0 → (types : List ValType) → AreRunsOf types (map pair_of runs) → AreRunsOf (types ++ type ∷ []) (map pair_of runs ++ (1, type) ∷ [])
no_last runs type e types h = begun types (map pair_of runs) type h (none_last runs type e)

pub ruleset last_steps = (is_last, is_other, no_last)

last_set : {A B : Type 0} (view : A → B) (xs : List A) (i : ℕ) (x : A) → i + 1 ≡ length xs → map view (set xs i x) ≡ map view (take i xs) ++ view x ∷ []
last_set view [] i x p = absurd (omega arith)
last_set view (y ∷ []) zero x p = refl
last_set view (y ∷ []) (suc i) x p = absurd (omega arith)
last_set view (y ∷ z ∷ zs) zero x p = absurd (omega arith)
last_set view (y ∷ z ∷ zs) (suc i) x p = ap (λ l. view y ∷ l) (last_set view (z ∷ zs) i x (omega arith))

-- the last run is longer by one
pub longer_last : (types : List ValType) (runs : List LocalRun) (n : ℕ) (type : ValType) → 0 < length runs → map pair_of runs ≡ map pair_of (take (length runs - 1) runs) ++ (n, type) ∷ []
    → AreRunsOf types (map pair_of runs) → AreRunsOf (types ++ type ∷ []) (map pair_of (set runs (length runs - 1) (record { count = n + 1; ty = type })))
longer_last types runs n type p e h =
    subst (λ l. AreRunsOf (types ++ type ∷ []) l) (sym (last_set pair_of runs (length runs - 1) (record { count = n + 1; ty = type }) (omega arith)))
    (extended types (map pair_of (take (length runs - 1) runs)) n type (subst (λ l. AreRunsOf types l) e h))

-- the last run is too long with one more
pub too_long_last : (types : List ValType) (runs : List LocalRun) (n : ℕ) (type : ValType) → map pair_of runs ≡ map pair_of (take (length runs - 1) runs) ++ (n, type) ∷ [] → 2 ^ 32 ≤ n + 1
    → AreRunsOf types (map pair_of runs) → PassLength (types ++ type ∷ [])
too_long_last types runs n type e long h =
    let front = map pair_of (take (length runs - 1) runs) in
    (front ++ (n + 1, type) ∷ [], extended types front n type (subst (λ l. AreRunsOf types l) e h), long_run front (n + 1) type long)

pub another_run : (types : List ValType) (runs : List LocalRun) (type : ValType) → AreRunsOf (types ++ type ∷ []) (map pair_of runs ++ (1, type) ∷ [])
    → AreRunsOf (types ++ type ∷ []) (map pair_of (runs ++ record { count = 1; ty = type } ∷ []))
another_run types runs type h = subst (λ l. AreRunsOf (types ++ type ∷ []) l) (sym (map-append pair_of runs (record { count = 1; ty = type } ∷ []))) h

pub too_many : (types : List ValType) (runs : List LocalRun) (type : ValType) → 2 ^ 32 ≤ length runs + 1 → AreRunsOf (types ++ type ∷ []) (map pair_of runs ++ (1, type) ∷ [])
    → PassLength (types ++ type ∷ [])
too_many types runs type many h = (map pair_of runs ++ (1, type) ∷ [], h, many_runs (map pair_of runs) type (omega (arith, many, length-map runs pair_of)))

pub longer_writable : (runs : List LocalRun) (n : ℕ) (type : ValType) → 0 < length runs → map pair_of runs ≡ map pair_of (take (length runs - 1) runs) ++ (n, type) ∷ [] → n + 1 < 2 ^ 32
    → AreWritable (map pair_of runs) → AreWritable (map pair_of (set runs (length runs - 1) (record { count = n + 1; ty = type })))
longer_writable runs n type p e short are =
    subst (λ l. AreWritable l) (sym (last_set pair_of runs (length runs - 1) (record { count = n + 1; ty = type }) (omega arith)))
    (longer_run (map pair_of (take (length runs - 1) runs)) n (n + 1) type short (subst (λ l. AreWritable l) e are))

with_room : (runs : List LocalRun) (type : ValType) → length runs + 1 < 2 ^ 32 → AreWritable (map pair_of runs) → AreWritable (map pair_of runs ++ (1, type) ∷ [])
with_room runs type room are = one_more_run (map pair_of runs) type (omega (arith, room, length-map runs pair_of)) are

pub another_writable : (runs : List LocalRun) (type : ValType) → length runs + 1 < 2 ^ 32 → AreWritable (map pair_of runs)
    → AreWritable (map pair_of (runs ++ record { count = 1; ty = type } ∷ []))
another_writable runs type room are =
    subst (λ l. AreWritable l) (sym (map-append pair_of runs (record { count = 1; ty = type } ∷ []))) (with_room runs type room are)

pub has_room : (types : List ValType) (runs : List LocalRun) (type : ValType) → length runs + 1 < 2 ^ 32 → AreWritable (map pair_of runs)
    → AreRunsOf (types ++ type ∷ []) (map pair_of runs ++ (1, type) ∷ []) → FitLength (types ++ type ∷ [])
has_room types runs type room are h = (map pair_of runs ++ (1, type) ∷ [], h, with_room runs type room are)

pub ruleset type_steps = (longer_last, too_long_last, another_run, too_many, longer_writable, another_writable)
