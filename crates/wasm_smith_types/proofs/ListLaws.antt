-- All elements of lists that grow.
use Rattle.std.proofs.Common.{ltb, ◌≡◌, ℕ, zero, suc, ◌-◌, ◌≤◌, ◌<◌, Bool, true, false, cond, List, [], ◌∷◌, ◌++◌, length, Some, None, refl, sym, ap, inl, inr, arith}
use Rattle.std.specs.Prelude.{IsTrue, slice_get, ◌⊎◌}
use Rattle.std.specs.List.{AllByRecursion, list_all}
use Rattle.std.proofs.lemmas.Bool.{lt-ltb}
use Rattle.std.proofs.lemmas.Bool.Decides.{eqb_tells}
use Rattle.wasm_smith_unstructured.specs.Draws.{bool_at, int_at, choose_at}
use Rattle.wasm_smith_types.specs.Growing.{grows_from, grow_from, grow_at, times_at}

-- ---- lists

pub all_append : {A : Type 0} (P : A → Type 0) (xs ys : List A) → AllByRecursion P xs → AllByRecursion P ys → AllByRecursion P (xs ++ ys)
all_append P [] ys p q = q
all_append P (x ∷ xs) ys p q = (p.0, all_append P xs ys p.1 q)

pub all_if : {A : Type 0} (P : A → Type 0) (b : Bool) (xs : List A) → (IsTrue b → AllByRecursion P xs) → AllByRecursion P (cond b xs [])
all_if P true xs h = h refl
all_if P false xs h = tt

pub all_get : {A : Type 0} (P : A → Type 0) (xs : List A) (i : ℕ) (x : A) → AllByRecursion P xs → slice_get xs i ≡ Some x → P x
all_get P [] i x all e = absurd cc
all_get P (y ∷ xs) zero x all e = let same : y ≡ x = cc in rw (sym same) all.0
all_get P (y ∷ xs) (suc i) x all e = all_get P xs i x all.1 e

pub all_imply : {A : Type 0} (P Q : A → Type 0) → ((x : A) → P x → Q x) → (xs : List A) → AllByRecursion P xs → AllByRecursion Q xs
all_imply P Q f [] all = tt
all_imply P Q f (x ∷ xs) all = (f x all.0, all_imply P Q f xs all.1)

pub all_pass : {A : Type 0} (P : A → Type 0) (test : A → Bool) → ((x : A) → P x → test x ≡ true) → (xs : List A) → AllByRecursion P xs → list_all test xs ≡ true
all_pass P test f [] all = refl
all_pass P test f (x ∷ xs) all = rw (f x all.0, all_pass P test f xs all.1) refl

pub index_below : (count : ℕ) (s : List ℕ) → (count ≡ 0 → ⊥) → (int_at 0 (count - 1) s).0 < count
unfolding int_at
index_below count s some = omega arith

-- what is chosen is one of the list
pub chosen : {A : Type 0} (P : A → Type 0) (xs : List A) (s : List ℕ) (x : A) → AllByRecursion P xs → (choose_at xs s).0 ≡ Some x → P x
unfolding choose_at
chosen P xs s x all e =
    elim (eqb_tells (length xs) 0) [
      | inl (t, n) ↦ absurd (none_is (rw t at e))
      | inr (t, n) ↦ all_get P xs (int_at 0 (length xs - 1) s).0 x all (rw t at e)
    ]
  where
    none_is : {A : Type 0} {x : A} → None ≡ Some x → ⊥
    none_is e = cc

-- ---- growing

if_all : {A : Type 0} (P : A → Type 0) (b : Bool) (x y : List A × List ℕ) → AllByRecursion P x.0 → AllByRecursion P y.0 → AllByRecursion P (cond b x y).0
if_all P true x y p q = p
if_all P false x y p q = q

if_few : {A : Type 0} (n : ℕ) (b : Bool) (x y : List A × List ℕ) → length x.0 ≤ n → length y.0 ≤ n → length (cond b x y).0 ≤ n
if_few n true x y p q = p
if_few n false x y p q = q

from_all : {A : Type 0} (P : A → Type 0) (step : List ℕ → A × List ℕ) → ((s : List ℕ) → P (step s).0) → (owed room : ℕ) (s : List ℕ)
    → AllByRecursion P (grow_from step owed room s).0
unfolding grow_from
from_all P step each owed zero s = tt
from_all P step each owed (suc room) s =
    let more = grows_from owed (suc room) s in
    let others = grow_from step (owed - 1) room (step more.1).1 in
    if_all P more.0 ((step more.1).0 ∷ others.0, others.1) ([], more.1) (each more.1, from_all P step each (owed - 1) room (step more.1).1) tt

from_few : {A : Type 0} (step : List ℕ → A × List ℕ) (owed room : ℕ) (s : List ℕ) → length (grow_from step owed room s).0 ≤ room
unfolding grow_from
from_few step owed zero s = omega arith
from_few step owed (suc room) s =
    let more = grows_from owed (suc room) s in
    let others = grow_from step (owed - 1) room (step more.1).1 in
    if_few (suc room) more.0 ((step more.1).0 ∷ others.0, others.1) ([], more.1) (omega (arith, from_few step (owed - 1) room (step more.1).1)) (omega arith)

owed_more : (owed room : ℕ) (s : List ℕ) → grows_from (suc owed) (suc room) s ≡ (true, s)
unfolding grows_from
owed_more owed room s =
    let t : ltb 0 (suc room) ≡ true = lt-ltb 0 (suc room) (omega arith) in
    let u : ltb 0 (suc owed) ≡ true = lt-ltb 0 (suc owed) (omega arith) in
    rw (t, u) refl

from_enough : {A : Type 0} (step : List ℕ → A × List ℕ) (owed room : ℕ) (s : List ℕ) → owed ≤ room → owed ≤ length (grow_from step owed room s).0
unfolding grow_from
from_enough step zero room s le = omega arith
from_enough step (suc owed) zero s le = absurd (omega arith)
from_enough step (suc owed) (suc room) s le =
    let k : suc owed - 1 ≡ owed = omega arith in
    rw (owed_more owed room s, k) (omega (arith, from_enough step owed room (step s).1 (omega arith)))

free_more : (room : ℕ) (s : List ℕ) → grows_from 0 (suc room) s ≡ bool_at s
unfolding grows_from
free_more room s = let t : ltb 0 (suc room) ≡ true = lt-ltb 0 (suc room) (omega arith) in rw t refl

if_none : {A : Type 0} (b : Bool) (x y : List A × List ℕ) → (length x.0 ≡ 0 → ⊥) → length (cond b x y).0 ≡ 0 → b ≡ false
if_none true x y some e = absurd (some e)
if_none false x y some e = refl

from_none : {A : Type 0} (step : List ℕ → A × List ℕ) (room : ℕ) (s : List ℕ) → length (grow_from step 0 (suc room) s).0 ≡ 0 → (bool_at s).0 ≡ false
unfolding grow_from
from_none step room s e =
    let more = bool_at s in
    let others = grow_from step (0 - 1) room (step more.1).1 in
    if_none more.0 ((step more.1).0 ∷ others.0, others.1) ([], more.1) (λ none. absurd (omega (arith, none))) (rw (free_more room s) at e)

pub grow_all : {A : Type 0} (P : A → Type 0) (step : List ℕ → A × List ℕ) → ((s : List ℕ) → P (step s).0) → (min max : ℕ) (s : List ℕ)
    → AllByRecursion P (grow_at step min max 0 s).0
unfolding grow_at
grow_all P step each min max s = from_all P step each (min - 0) (max - 0) s

pub grow_few : {A : Type 0} (step : List ℕ → A × List ℕ) (min max : ℕ) (s : List ℕ) → length (grow_at step min max 0 s).0 ≤ max
unfolding grow_at
grow_few step min max s = omega (arith, from_few step (min - 0) (max - 0) s)

pub grow_enough : {A : Type 0} (step : List ℕ → A × List ℕ) (min max : ℕ) (s : List ℕ) → min ≤ max → min ≤ length (grow_at step min max 0 s).0
unfolding grow_at
grow_enough step min max s le = omega (arith, from_enough step (min - 0) (max - 0) s (omega arith))

-- Where nothing is owed, only a missing room or a false bool ends growing at once.
pub grow_none : {A : Type 0} (step : List ℕ → A × List ℕ) (min max : ℕ) (s : List ℕ) → min ≡ 0 → length (grow_at step min max 0 s).0 ≡ 0
    → (max ≡ 0) ⊎ ((bool_at s).0 ≡ false)
unfolding grow_at
grow_none step min zero s owed none = inl refl
grow_none step min (suc room) s owed none =
    let k : suc room - 0 ≡ suc room = omega arith in
    let o : min - 0 ≡ 0 = omega arith in
    inr (from_none step room s (rw (k, o) at none))

pub times_all : {A : Type 0} (P : A → Type 0) (step : List ℕ → A × List ℕ) → ((s : List ℕ) → P (step s).0) → (n : ℕ) (s : List ℕ)
    → AllByRecursion P (times_at step n s).0
unfolding times_at
times_all P step each zero s = tt
times_all P step each (suc n) s = (each s, times_all P step each n (step s).1)

pub times_many : {A : Type 0} (step : List ℕ → A × List ℕ) (n : ℕ) (s : List ℕ) → length (times_at step n s).0 ≡ n
unfolding times_at
times_many step zero s = refl
times_many step (suc n) s = ap suc (times_many step n (step s).1)

pub grow_all_after : {A : Type 0} (P : A → Type 0) (step : List ℕ → A × List ℕ) → ((s : List ℕ) → P (step s).0) → (min max count : ℕ) (s : List ℕ)
    → AllByRecursion P (grow_at step min max count s).0
unfolding grow_at
grow_all_after P step each min max count s = from_all P step each (min - count) (max - count) s

pub grow_few_after : {A : Type 0} (step : List ℕ → A × List ℕ) (min max count : ℕ) (s : List ℕ) → length (grow_at step min max count s).0 ≤ max - count
unfolding grow_at
grow_few_after step min max count s = from_few step (min - count) (max - count) s
