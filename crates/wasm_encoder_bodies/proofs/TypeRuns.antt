-- Runs of equal neighbours, one item after the other; and that there is one list of them alone.
use Rattle.std.proofs.Common.{◌≡◌, ℕ, zero, suc, ◌+◌, ◌<◌, ◌≤◌, ◌^◌, List, [], ◌∷◌, ◌++◌, length, replicate, refl, sym, ap, ◌∙◌, subst, arith, append_assoc, length-append}
use Rattle.std.specs.Bool.{⊤}
use Rattle.std.specs.List.{AllByRecursion}
use Rattle.std.proofs.lemmas.List.{append-nil, replicate-append-replicate}
use Rattle.std.proofs.lemmas.Grind.{flat_map-append}
use Rattle.wasm_encoder_bodies.specs.Locals.{expansion, BeginsWithOther, AreApart, AreRunsOf, AreWritable}

-- the last run, if there is one, is of another type
abbrev pub EndsWithOther : {A : Type 0} → A → List (ℕ × A) → Type 0
EndsWithOther type [] = ⊤
EndsWithOther type (run ∷ []) = ¬ (run.1 ≡ type)
EndsWithOther type (run ∷ next ∷ runs) = EndsWithOther type (next ∷ runs)

pub none : {A : Type 0} → AreRunsOf {A = A} [] []
none {A} = record { expand = refl; some = tt; apart = tt }

all_changed : {X : Type 0} (P : X → Type 0) (front : List X) (x y : X) → AllByRecursion P (front ++ x ∷ []) → P y → AllByRecursion P (front ++ y ∷ [])
all_changed P [] x y h p = (p, tt)
all_changed P (z ∷ zs) x y h p = (h.0, all_changed P zs x y h.1 p)

all_more : {X : Type 0} (P : X → Type 0) (xs : List X) (y : X) → AllByRecursion P xs → P y → AllByRecursion P (xs ++ y ∷ [])
all_more P [] y h p = (p, tt)
all_more P (z ∷ zs) y h p = (h.0, all_more P zs y h.1 p)

last_of : {X : Type 0} (P : X → Type 0) (front : List X) (x : X) → AllByRecursion P (front ++ x ∷ []) → P x
last_of P [] x h = h.0
last_of P (z ∷ zs) x h = last_of P zs x h.1

still_apart : {A : Type 0} (front : List (ℕ × A)) (n m : ℕ) (type : A) → AreApart (front ++ (n, type) ∷ []) → AreApart (front ++ (m, type) ∷ [])
still_apart [] n m type h = (tt, tt)
still_apart (run ∷ []) n m type h = (h.0, (tt, tt))
still_apart (run ∷ next ∷ rest) n m type h = (h.0, still_apart (next ∷ rest) n m type h.1)

another_apart : {A : Type 0} (runs : List (ℕ × A)) (type : A) → AreApart runs → EndsWithOther type runs → AreApart (runs ++ (1, type) ∷ [])
another_apart [] type h e = (tt, tt)
another_apart (run ∷ []) type h e = (e, (tt, tt))
another_apart (run ∷ next ∷ rest) type h e = (h.0, another_apart (next ∷ rest) type h.1 e)

one_expanded : {A : Type 0} (front : List (ℕ × A)) (n : ℕ) (type : A) → expansion (front ++ (n, type) ∷ []) ≡ expansion front ++ replicate n type
one_expanded front n type = flat_map-append (λ run. replicate run.0 run.1) front ((n, type) ∷ []) ∙ ap (λ l. expansion front ++ l) (append-nil (replicate n type))

-- the last run is of the type
pub extended : {A : Type 0} (types : List A) (front : List (ℕ × A)) (n : ℕ) (type : A) → AreRunsOf types (front ++ (n, type) ∷ []) → AreRunsOf (types ++ type ∷ []) (front ++ (n + 1, type) ∷ [])
extended types front n type h = record {
  expand =
      one_expanded front (n + 1) type
      ∙ ap (λ l. expansion front ++ l) (sym (replicate-append-replicate n 1 type))
      ∙ sym (append_assoc (expansion front) (replicate n type) (type ∷ []))
      ∙ ap (λ l. l ++ type ∷ []) (sym (one_expanded front n type) ∙ h.expand);
  some = all_changed (λ run. 1 ≤ run.0) front (n, type) (n + 1, type) h.some (omega arith);
  apart = still_apart front n (n + 1) type h.apart;
}

-- the last run is of another type, if there is one
pub begun : {A : Type 0} (types : List A) (runs : List (ℕ × A)) (type : A) → AreRunsOf types runs → EndsWithOther type runs → AreRunsOf (types ++ type ∷ []) (runs ++ (1, type) ∷ [])
begun types runs type h other = record {
  expand = one_expanded runs 1 type ∙ ap (λ l. l ++ type ∷ []) h.expand;
  some = all_more (λ run. 1 ≤ run.0) runs (1, type) h.some (omega arith);
  apart = another_apart runs type h.apart other;
}

-- a run that can't be longer, and one too many
pub long_run : {A : Type 0} (front : List (ℕ × A)) (n : ℕ) (type : A) → 2 ^ 32 ≤ n → ¬ (AreWritable (front ++ (n, type) ∷ []))
long_run front n type long are = let short : n < 2 ^ 32 = last_of (λ run. run.0 < 2 ^ 32) front (n, type) are.short in absurd (omega arith)

pub many_runs : {A : Type 0} (runs : List (ℕ × A)) (type : A) → 2 ^ 32 ≤ length runs + 1 → ¬ (AreWritable (runs ++ (1, type) ∷ []))
many_runs runs type many are = absurd (omega (arith, many, are.few, length-append runs ((1, type) ∷ [])))

-- the last run with another number of locals
pub longer_run : {A : Type 0} (front : List (ℕ × A)) (n m : ℕ) (type : A) → m < 2 ^ 32 → AreWritable (front ++ (n, type) ∷ []) → AreWritable (front ++ (m, type) ∷ [])
longer_run front n m type short are = record {
  few = omega (arith, are.few, length-append front ((n, type) ∷ []), length-append front ((m, type) ∷ []));
  short = all_changed (λ run. run.0 < 2 ^ 32) front (n, type) (m, type) are.short short;
}

-- one run more, where there is room
pub one_more_run : {A : Type 0} (runs : List (ℕ × A)) (type : A) → length runs + 1 < 2 ^ 32 → AreWritable runs → AreWritable (runs ++ (1, type) ∷ [])
one_more_run runs type room are = record {
  few = omega (arith, room, length-append runs ((1, type) ∷ []));
  short = all_more (λ run. run.0 < 2 ^ 32) runs (1, type) are.short (omega arith);
}

-- ---- no other list has them

abbrev StartsOther : {A : Type 0} → A → List A → Type 0
StartsOther type [] = ⊤
StartsOther type (x ∷ xs) = ¬ (type ≡ x)

other_start : {A : Type 0} (type : A) (runs : List (ℕ × A)) → BeginsWithOther type runs → AllByRecursion (λ run. 1 ≤ run.0) runs → StartsOther type (expansion runs)
other_start type [] h some = tt
other_start type ((zero, u) ∷ runs) h some = absurd (omega (arith, some.0))
other_start type ((suc n, u) ∷ runs) h some = h

same_first : {A : Type 0} (n m : ℕ) (type : A) (xs ys : List A) → replicate n type ++ xs ≡ replicate m type ++ ys → StartsOther type xs → StartsOther type ys → (n ≡ m) × (xs ≡ ys)
same_first zero zero type xs ys e p q = (refl, e)
same_first zero (suc m) type [] ys e p q = absurd cc
same_first zero (suc m) type (x ∷ xs) ys e p q = let same : type ≡ x = cc in absurd (p same)
same_first (suc n) zero type xs [] e p q = absurd cc
same_first (suc n) zero type xs (y ∷ ys) e p q = let same : type ≡ y = cc in absurd (q same)
same_first (suc n) (suc m) type xs ys e p q =
    let rest : replicate n type ++ xs ≡ replicate m type ++ ys = cc in
    let same = same_first n m type xs ys rest p q in
    (ap (λ (k : ℕ). suc k) same.0, same.1)

same_runs : {A : Type 0} (runs others : List (ℕ × A)) → expansion runs ≡ expansion others → AllByRecursion (λ run. 1 ≤ run.0) runs → AllByRecursion (λ run. 1 ≤ run.0) others → AreApart runs → AreApart others
    → runs ≡ others
same_runs [] [] e s t p q = refl
same_runs [] ((zero, u) ∷ others) e s t p q = absurd (omega (arith, t.0))
same_runs [] ((suc m, u) ∷ others) e s t p q = absurd cc
same_runs ((zero, type) ∷ runs) others e s t p q = absurd (omega (arith, s.0))
same_runs ((suc n, type) ∷ runs) [] e s t p q = absurd cc
same_runs ((suc n, type) ∷ runs) ((zero, u) ∷ others) e s t p q = absurd (omega (arith, t.0))
same_runs ((suc n, type) ∷ runs) ((suc m, u) ∷ others) e s t p q =
    let types : type ≡ u = cc in
    let other : StartsOther type (expansion others) = subst (λ x. StartsOther x (expansion others)) (sym types) (other_start u others q.0 t.1) in
    let same = same_first (suc n) (suc m) type (expansion runs) (expansion others) (e ∙ ap (λ x. replicate (suc m) x ++ expansion others) (sym types)) (other_start type runs p.0 s.1) other in
    let rest = same_runs runs others same.1 s.1 t.1 p.1 q.1 in
    let counts = same.0 in
    cc

pub only : {A : Type 0} (types : List A) (runs others : List (ℕ × A)) → AreRunsOf types runs → AreRunsOf types others → runs ≡ others
only types runs others h k = same_runs runs others (h.expand ∙ sym k.expand) h.some k.some h.apart k.apart
