-- One more after the other, as a loop draws them.
use Rattle.std.proofs.Common.{◌≡◌, ℕ, suc, ◌-◌, ◌+◌, ◌≤◌, ◌<◌, Bool, true, false, List, [], ◌∷◌, ◌++◌, map, drop, get_or, length, refl, sym, ap, ◌∙◌, append_assoc, inl, inr, arith}
use Rattle.std.proofs.lemmas.List.{append-nil, map_push, drop_more, at_drop_all}
use Rattle.std.proofs.lemmas.Bool.{cases_lt}
use Rattle.wasm_smith_types.specs.Growing.{grows_from, grows_at, grow_from, grow_at, times_at, each_at, with_front}

no_room : (owed : ℕ) (s t : List ℕ) → grows_from owed 0 s ≡ (true, t) → ⊥
unfolding grows_from
no_room owed s t e = let f : false ≡ true = ap (λ (p : Bool × List ℕ). p.0) e in cc

goes_on : {A : Type 0} (step : List ℕ → A × List ℕ) (front : List A) (min max n : ℕ) (s t after : List ℕ) (v : A) (total : List A × List ℕ)
    → grows_from (min - n) (max - n) s ≡ (true, t) → step t ≡ (v, after)
    → with_front front (grow_from step (min - n) (max - n) s) ≡ total
    → with_front (front ++ v ∷ []) (grow_from step (min - (n + 1)) (max - (n + 1)) after) ≡ total
unfolding grow_from with_front
goes_on step front min max n s t after v total more first so_far =
    elim (cases_lt n max) [
      | inr ge ↦ let z : max - n ≡ 0 = omega arith in absurd (no_room (min - n) s t (rw z at more))
      | inl lt ↦
          let k : max - n ≡ suc (max - (n + 1)) = omega arith in
          let o : min - n - 1 ≡ min - (n + 1) = omega arith in
          let more' : grows_from (min - n) (suc (max - (n + 1))) s ≡ (true, t) = rw k at more in
          let one : with_front front (grow_from step (min - n) (max - n) s) ≡ with_front (front ++ v ∷ []) (grow_from step (min - (n + 1)) (max - (n + 1)) after) = rw (k, more', first, o) (ap (λ vs. (vs, (grow_from step (min - (n + 1)) (max - (n + 1)) after).1)) (sym (append_assoc front (v ∷ []) (grow_from step (min - (n + 1)) (max - (n + 1)) after).0))) in
          sym one ∙ so_far
    ]

ends : {A : Type 0} (step : List ℕ → A × List ℕ) (front : List A) (min max n : ℕ) (s t : List ℕ) (total : List A × List ℕ)
    → grows_from (min - n) (max - n) s ≡ (false, t)
    → with_front front (grow_from step (min - n) (max - n) s) ≡ total → total ≡ (front, t)
unfolding grow_from grows_from with_front
ends step front min max n s t total more so_far =
    elim (cases_lt n max) [
      | inr ge ↦
          let z : max - n ≡ 0 = omega arith in
          let same : s ≡ t = ap (λ (p : Bool × List ℕ). p.1) (rw z at more) in
          let one : with_front front (grow_from step (min - n) (max - n) s) ≡ (front, t) = rw (z, same) (ap (λ vs. (vs, t)) (append-nil front)) in
          sym so_far ∙ one
      | inl lt ↦
          let k : max - n ≡ suc (max - (n + 1)) = omega arith in
          let more' : grows_from (min - n) (suc (max - (n + 1))) s ≡ (false, t) = rw k at more in
          let one : with_front front (grow_from step (min - n) (max - n) s) ≡ (front, t) = rw (k, more') (ap (λ vs. (vs, t)) (append-nil front)) in
          sym so_far ∙ one
    ]

pub grow_begins : {A : Type 0} (step : List ℕ → A × List ℕ) (min max : ℕ) (s : List ℕ) → with_front [] (grow_at step min max 0 s) ≡ grow_at step min max 0 s
unfolding with_front
grow_begins step min max s = refl

pub grow_goes_on : {A : Type 0} (step : List ℕ → A × List ℕ) (front : List A) (min max n : ℕ) (s t after : List ℕ) (v : A) (total : List A × List ℕ)
    → grows_at min max n s ≡ (true, t) → step t ≡ (v, after)
    → with_front front (grow_at step min max n s) ≡ total → with_front (front ++ v ∷ []) (grow_at step min max (n + 1) after) ≡ total
unfolding grow_at grows_at
grow_goes_on step front min max n s t after v total more first so_far = goes_on step front min max n s t after v total more first so_far

-- the same in the words of a loop that pushes
pub grow_step : {A : Type 0} (step : List ℕ → A × List ℕ) (front items : List A) (min max n m : ℕ) (s t after : List ℕ) (v : A) (total : List A × List ℕ)
    → items ≡ front ++ v ∷ [] → m ≡ n + 1 → grows_at min max n s ≡ (true, t) → step t ≡ (v, after)
    → with_front front (grow_at step min max n s) ≡ total → with_front items (grow_at step min max m after) ≡ total
grow_step step front items min max n m s t after v total pushed next more first so_far =
    rw (pushed, next) (grow_goes_on step front min max n s t after v total more first so_far)

pub grow_ends : {A : Type 0} (step : List ℕ → A × List ℕ) (front : List A) (min max n : ℕ) (s t : List ℕ) (total : List A × List ℕ)
    → grows_at min max n s ≡ (false, t) → with_front front (grow_at step min max n s) ≡ total → total ≡ (front, t)
unfolding grow_at grows_at
grow_ends step front min max n s t total more so_far = ends step front min max n s t total more so_far

-- what a loop that grows cites
pub ruleset grow_loop = (grow_begins, grow_goes_on, grow_ends, map_push)

pub times_begins : {A : Type 0} (step : List ℕ → A × List ℕ) (count : ℕ) (s : List ℕ) → with_front [] (times_at step (count - 0) s) ≡ times_at step count s
unfolding with_front
times_begins step count s = let k : count - 0 ≡ count = omega arith in rw k refl

times_more : {A : Type 0} (step : List ℕ → A × List ℕ) (n : ℕ) (s : List ℕ)
    → times_at step (suc n) s ≡ ((step s).0 ∷ (times_at step n (step s).1).0, (times_at step n (step s).1).1)
unfolding times_at
times_more step n s = refl

pub times_goes_on : {A : Type 0} (step : List ℕ → A × List ℕ) (front : List A) (count i : ℕ) (s after : List ℕ) (v : A) (total : List A × List ℕ) → i < count
    → step s ≡ (v, after)
    → with_front front (times_at step (count - i) s) ≡ total → with_front (front ++ v ∷ []) (times_at step (count - (i + 1)) after) ≡ total
unfolding with_front
times_goes_on step front count i s after v total lt first so_far =
    let k : count - i ≡ suc (count - (i + 1)) = omega arith in
    let one : with_front front (times_at step (count - i) s) ≡ with_front (front ++ v ∷ []) (times_at step (count - (i + 1)) after) =
    rw (k, times_more step (count - (i + 1)) s, first)
    (ap (λ vs. (vs, (times_at step (count - (i + 1)) after).1)) (sym (append_assoc front (v ∷ []) (times_at step (count - (i + 1)) after).0))) in
    sym one ∙ so_far

pub times_ends : {A : Type 0} (step : List ℕ → A × List ℕ) (front : List A) (count i : ℕ) (s : List ℕ) (total : List A × List ℕ) → count ≤ i
    → with_front front (times_at step (count - i) s) ≡ total → total ≡ (front, s)
unfolding times_at with_front
times_ends step front count i s total le so_far =
    let k : count - i ≡ 0 = omega arith in
    let one : with_front front (times_at step (count - i) s) ≡ (front, s) = rw k (ap (λ vs. (vs, s)) (append-nil front)) in
    sym so_far ∙ one

pub ruleset times_loop = (times_begins, times_goes_on, times_ends, map_push)

-- ---- each thing changed

pub each_begins : {A : Type 0} (step : A → List ℕ → A × List ℕ) (xs : List A) (s : List ℕ) → with_front [] (each_at step xs s) ≡ each_at step xs s
unfolding with_front
each_begins step xs s = refl

each_more : {A : Type 0} (step : A → List ℕ → A × List ℕ) (x : A) (xs : List A) (s : List ℕ)
    → each_at step (x ∷ xs) s ≡ ((step x s).0 ∷ (each_at step xs (step x s).1).0, (each_at step xs (step x s).1).1)
unfolding each_at
each_more step x xs s = refl

-- front is what was made of the first i things, v what is made of the next
pub each_goes_on : {X Y : Type 0} (view : X → Y) (step : Y → List ℕ → Y × List ℕ) (xs : List X) (i : ℕ) (d : X) (front : List Y) (s after : List ℕ) (v : Y) (total : List Y × List ℕ)
    → i < length xs → step (view (get_or xs i d)) s ≡ (v, after)
    → with_front front (each_at step (map view (drop i xs)) s) ≡ total → with_front (front ++ v ∷ []) (each_at step (map view (drop (i + 1) xs)) after) ≡ total
unfolding with_front
each_goes_on view step xs i d front s after v total lt first so_far =
    let rest = map view (drop (i + 1) xs) in
    let one : with_front front (each_at step (map view (drop i xs)) s) ≡ with_front (front ++ v ∷ []) (each_at step rest after) =
    rw (drop_more xs i d lt, each_more step (view (get_or xs i d)) rest s, first)
    (ap (λ vs. (vs, (each_at step rest after).1)) (sym (append_assoc front (v ∷ []) (each_at step rest after).0))) in
    sym one ∙ so_far

pub each_ends : {X Y : Type 0} (view : X → Y) (step : Y → List ℕ → Y × List ℕ) (xs : List X) (i : ℕ) (front : List Y) (s : List ℕ) (total : List Y × List ℕ)
    → length xs ≤ i → with_front front (each_at step (map view (drop i xs)) s) ≡ total → total ≡ (front, s)
unfolding each_at with_front
each_ends view step xs i front s total past so_far =
    let one : with_front front (each_at step (map view (drop i xs)) s) ≡ (front, s) =
    rw (at_drop_all (λ zs. zs) xs i past) (ap (λ vs. (vs, s)) (append-nil front)) in
    sym so_far ∙ one

pub ruleset each_loop = (each_begins, each_goes_on, each_ends, map_push)
