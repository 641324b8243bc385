-- What can be written of types can be written of a front of them.
use Rattle.std.proofs.Common.{◌≡◌, ℕ, zero, suc, ◌+◌, ◌<◌, ◌≤◌, ◌^◌, List, [], ◌∷◌, ◌++◌, length, replicate, refl, sym, ap, ◌∙◌, subst, arith, append_assoc}
use Rattle.std.specs.List.{AllByRecursion}
use Rattle.std.proofs.lemmas.List.{append-nil, replicate-append-replicate}
use Rattle.wasm_encoder_bodies.specs.Locals.{expansion, AreApart, AreRunsOf, AreWritable, FitLength, PassLength}
use Rattle.wasm_encoder_bodies.proofs.TypeRuns.{only}

-- the runs without the last local
abbrev without_last : {A : Type 0} → List (ℕ × A) → List (ℕ × A)
without_last [] = []
without_last ((zero, type) ∷ []) = []
without_last ((suc zero, type) ∷ []) = []
without_last ((suc (suc n), type) ∷ []) = (suc n, type) ∷ []
without_last (run ∷ next ∷ runs) = run ∷ without_last (next ∷ runs)

one_more_of : {A : Type 0} (n : ℕ) (type : A) → replicate (suc (suc n)) type ++ [] ≡ (replicate (suc n) type ++ []) ++ type ∷ []
one_more_of n type =
    let e : suc (suc n) ≡ suc n + 1 = omega arith in
    append-nil (replicate (suc (suc n)) type)
    ∙ ap (λ (k : ℕ). replicate k type) e
    ∙ sym (replicate-append-replicate (suc n) 1 type)
    ∙ ap (λ l. l ++ type ∷ []) (sym (append-nil (replicate (suc n) type)))

last_local : {A : Type 0} (run : ℕ × A) (runs : List (ℕ × A)) → AllByRecursion (λ r. 1 ≤ r.0) (run ∷ runs)
    → (type : A) × (expansion (run ∷ runs) ≡ expansion (without_last (run ∷ runs)) ++ type ∷ [])
last_local (zero, type) [] some = absurd (omega (arith, some.0))
last_local (suc zero, type) [] some = (type, refl)
last_local (suc (suc n), type) [] some = (type, one_more_of n type)
last_local run (next ∷ runs) some =
    let rest = last_local next runs some.1 in
    (rest.0, ap (λ l. replicate run.0 run.1 ++ l) rest.1 ∙ sym (append_assoc (replicate run.0 run.1) (expansion (without_last (next ∷ runs))) (rest.0 ∷ [])))

same_front : {A : Type 0} (xs ys : List A) (x y : A) → xs ++ x ∷ [] ≡ ys ++ y ∷ [] → xs ≡ ys
same_front [] [] x y e = refl
same_front [] (b ∷ []) x y e = absurd cc
same_front [] (b ∷ c ∷ ys) x y e = absurd cc
same_front (a ∷ []) [] x y e = absurd cc
same_front (a ∷ c ∷ xs) [] x y e = absurd cc
same_front (a ∷ xs) (b ∷ ys) x y e =
    let tails : xs ++ x ∷ [] ≡ ys ++ y ∷ [] = cc in
    let heads : a ≡ b = cc in
    let rest = same_front xs ys x y tails in
    cc

some_left : {A : Type 0} (runs : List (ℕ × A)) → AllByRecursion (λ r. 1 ≤ r.0) runs → AllByRecursion (λ r. 1 ≤ r.0) (without_last runs)
some_left [] some = tt
some_left ((zero, type) ∷ []) some = tt
some_left ((suc zero, type) ∷ []) some = tt
some_left ((suc (suc n), type) ∷ []) some = (omega arith, tt)
some_left (run ∷ next ∷ runs) some = (some.0, some_left (next ∷ runs) some.1)

short_left : {A : Type 0} (runs : List (ℕ × A)) → AllByRecursion (λ r. r.0 < 2 ^ 32) runs → AllByRecursion (λ r. r.0 < 2 ^ 32) (without_last runs)
short_left [] short = tt
short_left ((zero, type) ∷ []) short = tt
short_left ((suc zero, type) ∷ []) short = tt
short_left ((suc (suc n), type) ∷ []) short = (omega (arith, short.0), tt)
short_left (run ∷ next ∷ runs) short = (short.0, short_left (next ∷ runs) short.1)

few_left : {A : Type 0} (runs : List (ℕ × A)) → length (without_last runs) ≤ length runs
few_left [] = omega arith
few_left ((zero, type) ∷ []) = omega arith
few_left ((suc zero, type) ∷ []) = omega arith
few_left ((suc (suc n), type) ∷ []) = omega arith
few_left (run ∷ next ∷ runs) = omega (arith, few_left (next ∷ runs))

apart_left : {A : Type 0} (runs : List (ℕ × A)) → AreApart runs → AreApart (without_last runs)
apart_left [] apart = tt
apart_left ((zero, type) ∷ []) apart = tt
apart_left ((suc zero, type) ∷ []) apart = tt
apart_left ((suc (suc n), type) ∷ []) apart = (tt, tt)
apart_left (run ∷ (zero, type) ∷ []) apart = (tt, tt)
apart_left (run ∷ (suc zero, type) ∷ []) apart = (tt, tt)
apart_left (run ∷ (suc (suc n), type) ∷ []) apart = (apart.0, (tt, tt))
apart_left (run ∷ next ∷ more ∷ runs) apart = (apart.0, apart_left (next ∷ more ∷ runs) apart.1)

not_nothing : {A : Type 0} (xs : List A) (x : A) → [] ≡ xs ++ x ∷ [] → ⊥
not_nothing [] x e = absurd cc
not_nothing (y ∷ ys) x e = absurd cc

one_fewer : {A : Type 0} (types : List A) (type : A) (runs : List (ℕ × A)) → AreRunsOf (types ++ type ∷ []) runs → AreWritable runs → FitLength types
one_fewer types type [] h are = absurd (not_nothing types type h.expand)
one_fewer types type (run ∷ runs) h are =
    let last = last_local run runs h.some in
    let left = without_last (run ∷ runs) in (
      left,
      record {
        expand = same_front (expansion left) types last.0 type (sym last.1 ∙ h.expand);
        some = some_left (run ∷ runs) h.some;
        apart = apart_left (run ∷ runs) h.apart;
      },
      record { few = omega (arith, few_left (run ∷ runs), are.few); short = short_left (run ∷ runs) are.short },
    )

front_fits : {A : Type 0} (front rest : List A) → FitLength (front ++ rest) → FitLength front
front_fits front [] fit = subst (λ l. FitLength l) (append-nil front) fit
front_fits front (x ∷ rest) fit =
    let one = front_fits (front ++ x ∷ []) rest (subst (λ l. FitLength l) (sym (append_assoc front (x ∷ []) rest)) fit) in
    one_fewer front x one.0 one.1 one.2

pub more_pass : {A : Type 0} (front rest : List A) → PassLength front → ¬ (FitLength (front ++ rest))
more_pass front rest pass fit =
    let fits = front_fits front rest fit in
    pass.2 (subst (λ l. AreWritable l) (only front fits.0 pass.0 fits.1 pass.1) fits.2)
