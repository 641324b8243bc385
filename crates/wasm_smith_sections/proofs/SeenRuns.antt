-- Runs of equal neighbours, seen by a function that is one to one.
use Rattle.std.proofs.Common.{◌≡◌, ℕ, zero, suc, ◌<◌, ◌≤◌, ◌^◌, List, [], ◌∷◌, map, replicate, refl, sym, ap, ◌∙◌, subst}
use Rattle.std.specs.List.{AllByRecursion}
use Rattle.std.proofs.lemmas.List.{map-append, length-map}
use Rattle.wasm_core_types.specs.CoreTypes.{val_type}
use Rattle.wasm_core_types.specs.declared.types.ValType.{ValType}
use Rattle.wasm_encoder_bodies.specs.Locals.{run_of, expansion, BeginsWithOther, AreApart, AreRunsOf, AreWritable, PassLength}
use Rattle.wasm_smith_sections.specs.ModuleEncoding.{as_run}

abbrev IsOneToOne : {A B : Type 0} → (A → B) → Type 0
IsOneToOne {A} f = (s t : A) → f s ≡ f t → s ≡ t

abbrev pub seen : {A B : Type 0} → (A → B) → ℕ × A → ℕ × B
seen f run = (run.0, f run.1)

pub runs_seen : (runs : List (ℕ × ValType)) → map run_of runs ≡ map as_run (map (seen val_type) runs)
runs_seen [] = refl
runs_seen (run ∷ runs) = ap (λ l. run_of run ∷ l) (runs_seen runs)

all_repeated : {A B : Type 0} (f : A → B) (n : ℕ) (type : A) → replicate n (f type) ≡ map f (replicate n type)
all_repeated f zero type = refl
all_repeated f (suc n) type = ap (λ l. f type ∷ l) (all_repeated f n type)

types_seen : {A B : Type 0} (f : A → B) (runs : List (ℕ × A)) → expansion (map (seen f) runs) ≡ map f (expansion runs)
types_seen f [] = refl
types_seen f (run ∷ runs) = rw (all_repeated f run.0 run.1, types_seen f runs) (sym (map-append f (replicate run.0 run.1) (expansion runs)))

all_seen : {A B : Type 0} (f : A → B) (P : ℕ → Type 0) (runs : List (ℕ × A)) → AllByRecursion (λ run. P run.0) runs → AllByRecursion (λ run. P run.0) (map (seen f) runs)
all_seen f P [] h = tt
all_seen f P (run ∷ runs) h = (h.0, all_seen f P runs h.1)

all_unseen : {A B : Type 0} (f : A → B) (P : ℕ → Type 0) (runs : List (ℕ × A)) → AllByRecursion (λ run. P run.0) (map (seen f) runs) → AllByRecursion (λ run. P run.0) runs
all_unseen f P [] h = tt
all_unseen f P (run ∷ runs) h = (h.0, all_unseen f P runs h.1)

other_seen : {A B : Type 0} (f : A → B) → IsOneToOne f → (type : A) (runs : List (ℕ × A)) → BeginsWithOther type runs → BeginsWithOther (f type) (map (seen f) runs)
other_seen f one type [] h = tt
other_seen f one type (run ∷ runs) h = λ same. h (one type run.1 same)

apart_seen : {A B : Type 0} (f : A → B) → IsOneToOne f → (runs : List (ℕ × A)) → AreApart runs → AreApart (map (seen f) runs)
apart_seen f one [] h = tt
apart_seen f one (run ∷ runs) h = (other_seen f one run.1 runs h.0, apart_seen f one runs h.1)

pub are_runs : {A B : Type 0} (f : A → B) → IsOneToOne f → (types : List A) (runs : List (ℕ × A)) → AreRunsOf types runs → AreRunsOf (map f types) (map (seen f) runs)
are_runs f one types runs h = record {
  expand = types_seen f runs ∙ ap (map f) h.expand;
  some = all_seen f (λ n. 1 ≤ n) runs h.some;
  apart = apart_seen f one runs h.apart;
}

pub writable : {A B : Type 0} (f : A → B) → (runs : List (ℕ × A)) → AreWritable runs → AreWritable (map (seen f) runs)
writable f runs h = record {
  few = subst (λ n. n < 2 ^ 32) (sym (length-map runs (seen f))) h.few;
  short = all_seen f (λ n. n < 2 ^ 32) runs h.short;
}

pub pass_length : {A B : Type 0} (f : A → B) → IsOneToOne f → (types : List A) → PassLength types → PassLength (map f types)
pass_length f one types h = (
  map (seen f) h.0,
  are_runs f one types h.0 h.1,
  λ are. h.2 (record {
    few = subst (λ n. n < 2 ^ 32) (length-map h.0 (seen f)) are.few;
    short = all_unseen f (λ n. n < 2 ^ 32) h.0 are.short;
  }),
)
