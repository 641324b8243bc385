-- Functions that are drawn one after the other, where there is a type for them.
use Rattle.std.proofs.Common.{◌≡◌, ℕ, ◌+◌, ◌-◌, ◌<◌, ◌≤◌, Bool, true, false, not, List, [], ◌∷◌, ◌++◌, length, length-append, refl, sym, ap, ◌∙◌, if◌then◌else◌, arith}
use Rattle.std.specs.Prelude.{◌==◌, nat_lt}
use Rattle.std.proofs.lemmas.Bool.{lt-ltb}
use Rattle.wasm_smith_definitions.specs.Steps.{Wanted, asked}
use Rattle.std.proofs.lemmas.List.{append-nil}
use Rattle.wasm_smith_config.specs.declared.config.Config.{Config}
use Rattle.wasm_smith_types.specs.Growing.{grows_from, grows_at, grow_at, with_front}
use Rattle.wasm_smith_types.proofs.GrowLaws.{grow_step, grow_ends}
use Rattle.wasm_smith_validity.specs.Spaces.{Spaces, functions_of}
use Rattle.wasm_smith_definitions.specs.Indexes.{index_at}
use Rattle.wasm_smith_externs.specs.Wanted.{AreTooFew, functions_at}

abbrev drawn_unless : Bool → (List ℕ → ℕ × List ℕ) → ℕ → ℕ → ℕ → List ℕ → List ℕ × List ℕ
drawn_unless none step min max n s = if none then ([], s) else grow_at step min max n s

abbrev asked_unless : Bool → ℕ → ℕ → ℕ → List ℕ → Bool × List ℕ
asked_unless none min max n s = if not none then grows_at min max n s else (false, s)

-- there is one more only where one can be made
pub can_grow : (can : Bool) (min max n : ℕ) (s t : List ℕ) → (if can then grows_at min max n s else (false, s)) ≡ (true, t) → can ≡ true
can_grow true min max n s t e = refl
can_grow false min max n s t e = let first : Bool × List ℕ → Bool = λ d. d.0 in let at : false ≡ true = ap first e in absurd cc

step_on : (none : Bool) (step : List ℕ → ℕ × List ℕ) (front items : List ℕ) (min max n m : ℕ) (s t after : List ℕ) (v : ℕ) (total : List ℕ × List ℕ)
    → items ≡ front ++ v ∷ [] → m ≡ n + 1 → asked_unless none min max n s ≡ (true, t) → step t ≡ (v, after)
    → with_front front (drawn_unless none step min max n s) ≡ total → with_front items (drawn_unless none step min max m after) ≡ total
step_on true step front items min max n m s t after v total pushed next more first so_far = absurd (let none : false ≡ true = can_grow (not true) min max n s t more in cc)
step_on false step front items min max n m s t after v total pushed next more first so_far = grow_step step front items min max n m s t after v total pushed next more first so_far

step_ends : (none : Bool) (step : List ℕ → ℕ × List ℕ) (front : List ℕ) (min max n : ℕ) (s t : List ℕ) (total : List ℕ × List ℕ)
    → asked_unless none min max n s ≡ (false, t) → with_front front (drawn_unless none step min max n s) ≡ total → total ≡ (front, t)
unfolding with_front
step_ends true step front min max n s t total more so_far =
    let same : s ≡ t = ap (λ (d : Bool × List ℕ). d.1) more in
    sym so_far ∙ ap (λ xs. (xs, s)) (append-nil front) ∙ ap (λ u. (front, u)) same
step_ends false step front min max n s t total more so_far = grow_ends step front min max n s t total more so_far

pub functions_begin : (c : Config) (indexes : List ℕ) (n : ℕ) (s items : List ℕ) → items ≡ [] → with_front items (functions_at c indexes n s) ≡ functions_at c indexes n s
unfolding with_front
functions_begin c indexes n s items none = rw none refl

pub functions_go_on : (c : Config) (indexes front items : List ℕ) (n m : ℕ) (s t after : List ℕ) (v : ℕ) (total : List ℕ × List ℕ)
    → items ≡ front ++ v ∷ [] → m ≡ n + 1 → (if not (length indexes == 0) then grows_at c.min_funcs c.max_funcs n s else (false, s)) ≡ (true, t) → index_at indexes t ≡ (v, after)
    → with_front front (functions_at c indexes n s) ≡ total → with_front items (functions_at c indexes m after) ≡ total
unfolding functions_at
functions_go_on c indexes front items n m s t after v total pushed next more first so_far =
    step_on (length indexes == 0) (index_at indexes) front items c.min_funcs c.max_funcs n m s t after v total pushed next more first so_far

pub functions_end : (c : Config) (indexes front : List ℕ) (n : ℕ) (s t : List ℕ) (total : List ℕ × List ℕ)
    → (if not (length indexes == 0) then grows_at c.min_funcs c.max_funcs n s else (false, s)) ≡ (false, t)
    → with_front front (functions_at c indexes n s) ≡ total → total ≡ (front, t)
unfolding functions_at
functions_end c indexes front n s t total more so_far = step_ends (length indexes == 0) (index_at indexes) front c.min_funcs c.max_funcs n s t total more so_far

pub one_more_function : (k : Spaces) (index : ℕ) → length (functions_of (record k { own_functions = k.own_functions ++ index ∷ [] })) ≡ length (functions_of k) + 1
one_more_function k index = simp length-append (omega arith)

-- ---- none any more

apart : true ≡ false → ⊥
apart e = cc

no_more : (least most count : ℕ) (s t : List ℕ) → least ≤ most → grows_at least most count s ≡ (false, t) → count < least → ⊥
unfolding grows_at grows_from
no_more least most count s t le last few =
    let room : nat_lt 0 (most - count) ≡ true = lt-ltb 0 (most - count) (omega (arith, few, le)) in
    let owed : nat_lt 0 (least - count) ≡ true = lt-ltb 0 (least - count) (omega (arith, few)) in
    let both : (true, s) ≡ (false, t) = rw (room, owed) at last in
    let first : Bool × List ℕ → Bool = λ d. d.0 in
    apart (ap first both)

none_can : (can : Bool) (least most count : ℕ) (s t : List ℕ) → (if can then grows_at least most count s else (false, s)) ≡ (false, t) → count < least → least ≤ most → can ≡ false
none_can true least most count s t last few le = absurd (no_more least most count s t le last few)
none_can false least most count s t last few le = refl

pub too_few : (wanted : Wanted) (k : Spaces) (s t : List ℕ) → asked wanted k s ≡ (false, t) → wanted.count k < wanted.least → AreTooFew wanted k
too_few wanted k s t last few = record { few = few; none = λ le. none_can (wanted.can k) wanted.least wanted.most (wanted.count k) s t last few le }
