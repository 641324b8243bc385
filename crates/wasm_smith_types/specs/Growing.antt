-- Growing: one more after the other, as long as some are owed, and then as long as there is room and a drawn bool is true.
use Rattle.std.specs.Prelude.{◌≡◌, ⊤, ℕ, zero, suc, ◌-◌, Bool, true, false, List, [], ◌∷◌, ◌++◌, nat_lt, Result, Ok, Err, if◌then◌else◌}
use Rattle.wasm_smith_unstructured.specs.Draws.{bool_at}

-- The value that a call which allocates returned, seen by view, and the bytes that it left are the pair that is drawn, unless memory runs out.
abbrev pub Draws : {X Y E : Type 0} → (X → Y) → List ℕ → Result X E → Y × List ℕ → Type 0
Draws view left (Ok x) drawn = drawn ≡ (view x, left)
Draws view left (Err e) drawn = ⊤

-- whether there is one more, where so many are still owed and there is room for so many
unfoldable pub grows_from : ℕ → ℕ → List ℕ → Bool × List ℕ
grows_from owed room s = if nat_lt 0 room then (if nat_lt 0 owed then (true, s) else bool_at s) else (false, s)

-- whether there is one more after count of them, of which at least min and at most max are wanted
unfoldable pub grows_at : ℕ → ℕ → ℕ → List ℕ → Bool × List ℕ
grows_at min max count s = grows_from (min - count) (max - count) s

-- the things that a step draws, as many as are owed, and then, while there is room, one more for each true
unfoldable pub grow_from : {A : Type 0} → (List ℕ → A × List ℕ) → ℕ → ℕ → List ℕ → List A × List ℕ
grow_from step owed zero s = ([], s)
grow_from step owed (suc room) s =
    let more = grows_from owed (suc room) s in
    if more.0
    then (let first = step more.1 in let others = grow_from step (owed - 1) room first.1 in (first.0 ∷ others.0, others.1))
    else ([], more.1)

-- the things after count of them
unfoldable pub grow_at : {A : Type 0} → (List ℕ → A × List ℕ) → ℕ → ℕ → ℕ → List ℕ → List A × List ℕ
grow_at step min max count s = grow_from step (min - count) (max - count) s

-- so many things
unfoldable pub times_at : {A : Type 0} → (List ℕ → A × List ℕ) → ℕ → List ℕ → List A × List ℕ
times_at step zero s = ([], s)
times_at step (suc n) s =
    let first = step s in
    let others = times_at step n first.1 in
    (first.0 ∷ others.0, others.1)

-- each of the things, changed by a draw
unfoldable pub each_at : {A : Type 0} → (A → List ℕ → A × List ℕ) → List A → List ℕ → List A × List ℕ
each_at step [] s = ([], s)
each_at step (x ∷ xs) s =
    let first = step x s in
    let others = each_at step xs first.1 in
    (first.0 ∷ others.0, others.1)

-- what was drawn before, and what is still drawn
unfoldable pub with_front : {A : Type 0} → List A → List A × List ℕ → List A × List ℕ
with_front front drawn = (front ++ drawn.0, drawn.1)
