-- Lists whose items are replaced one by one, and what holds of their references.
use Rattle.std.proofs.Common.{◌≡◌, ℕ, zero, suc, ◌+◌, ◌<◌, ◌≤◌, length, List, [], ◌∷◌, ◌++◌, map, flat_map, slice_index_or, slice_set, refl, ap, sym, subst, arith, Result, Ok, Err, IfOk, IfErr, add-one, ◌∙◌}
use Rattle.std.proofs.lemmas.List.{get_or_append_left, get_or-append-add, length-append}
use Rattle.std.specs.List.{AllByRecursion, AllZip, Any}
use Rattle.wasm_spec.proofs.MappedBack.{all_left, all_right}
use Rattle.wasmparser_types.specs.Index.{Index}

-- the first n items are replaced, and the others as they were
abbrev pub FrontReplaced : {X : Type 0} → (X → X → Type 0) → ℕ → List X → List X → Type 0
FrontReplaced R zero olds news = news ≡ olds
FrontReplaced R (suc n) [] news = news ≡ []
FrontReplaced R (suc n) (x ∷ xs) [] = ⊥
FrontReplaced R (suc n) (x ∷ xs) (y ∷ ys) = R x y × FrontReplaced R n xs ys

next_is_old : {X : Type 0} (R : X → X → Type 0) (n : ℕ) (olds news : List X) (d : X) → FrontReplaced R n olds news → slice_index_or news n d ≡ slice_index_or olds n d
next_is_old R zero olds news d h = ap (λ xs. slice_index_or xs 0 d) h
next_is_old R (suc n) [] news d h = ap (λ xs. slice_index_or xs (suc n) d) h
next_is_old R (suc n) (x ∷ xs) [] d h = absurd h
next_is_old R (suc n) (x ∷ xs) (y ∷ ys) d h = next_is_old R n xs ys d h.1

replaced_more : {X : Type 0} (R : X → X → Type 0) (n : ℕ) (olds news : List X) (d y : X) → FrontReplaced R n olds news → n < length olds → R (slice_index_or olds n d) y → FrontReplaced R (suc n) olds (slice_set news n y)
replaced_more R n [] news d y h lt r = absurd (omega (arith, lt))
replaced_more R zero (x ∷ xs) [] d y h lt r = cc
replaced_more R zero (x ∷ xs) (z ∷ zs) d y h lt r = (r, cc)
replaced_more R (suc n) (x ∷ xs) [] d y h lt r = absurd h
replaced_more R (suc n) (x ∷ xs) (z ∷ zs) d y h lt r = (h.0, replaced_more R n xs zs d y h.1 (omega (arith, lt)) r)

pub one_more : {X : Type 0} (R : X → X → Type 0) (n : ℕ) (olds news : List X) (d y : X) → FrontReplaced R n olds news → n < length olds → R (slice_index_or news n d) y → FrontReplaced R (n + 1) olds (slice_set news n y)
one_more R n olds news d y h lt r = rw add-one (replaced_more R n olds news d y h lt (subst (λ x. R x y) (next_is_old R n olds news d h) r))

pub all_replaced : {X : Type 0} (R : X → X → Type 0) (n : ℕ) (olds news : List X) → FrontReplaced R n olds news → length olds ≤ n → AllZip R olds news
all_replaced R zero [] news h le = rw h tt
all_replaced R zero (x ∷ xs) news h le = absurd (omega (arith, le))
all_replaced R (suc n) [] news h le = rw h tt
all_replaced R (suc n) (x ∷ xs) [] h le = absurd h
all_replaced R (suc n) (x ∷ xs) (y ∷ ys) h le = (h.0, all_replaced R n xs ys h.1 (omega (arith, le)))

-- what the items stand for is replaced, and P holds of each reference
pub meanings_mapped : {X V : Type 0} (meaning : X → V) (f : V → V) (B : X → Type 0) (xs ys : List X) → AllZip (λ x y. (meaning y ≡ f (meaning x)) × B x) xs ys → map meaning ys ≡ map f (map meaning xs)
meanings_mapped meaning f B [] [] h = refl
meanings_mapped meaning f B [] (y ∷ ys) h = absurd h
meanings_mapped meaning f B (x ∷ xs) [] h = absurd h
meanings_mapped meaning f B (x ∷ xs) (y ∷ ys) h = cc (h.0.0, meanings_mapped meaning f B xs ys h.1)

pub all_join : {X : Type 0} (P : X → Type 0) (xs ys : List X) → AllByRecursion P xs → AllByRecursion P ys → AllByRecursion P (xs ++ ys)
all_join P [] ys h k = k
all_join P (x ∷ xs) ys h k = (h.0, all_join P xs ys h.1 k)

pub refs_hold : {X V Y : Type 0} (A : X → X → Type 0) (P : Y → Type 0) (refs : V → List Y) (meaning : X → V) (xs ys : List X) → AllZip (λ x y. A x y × AllByRecursion P (refs (meaning x))) xs ys → AllByRecursion P (flat_map refs (map meaning xs))
refs_hold A P refs meaning [] ys h = tt
refs_hold A P refs meaning (x ∷ xs) [] h = absurd h
refs_hold A P refs meaning (x ∷ xs) (y ∷ ys) h = all_join P (refs (meaning x)) (flat_map refs (map meaning xs)) h.0.1 (refs_hold A P refs meaning xs ys h.1)

all_at : {X V Y : Type 0} (P : Y → Type 0) (refs : V → List Y) (meaning : X → V) (n : ℕ) (xs : List X) (d : X) → n < length xs → AllByRecursion P (flat_map refs (map meaning xs)) → AllByRecursion P (refs (meaning (slice_index_or xs n d)))
all_at P refs meaning n [] d lt h = absurd (omega (arith, lt))
all_at P refs meaning zero (x ∷ xs) d lt h = all_left P (refs (meaning x)) (flat_map refs (map meaning xs)) h
all_at P refs meaning (suc n) (x ∷ xs) d lt h = all_at P refs meaning n xs d (omega (arith, lt)) (all_right P (refs (meaning x)) (flat_map refs (map meaning xs)) h)

pub any_left : {X : Type 0} (P : X → Type 0) (xs ys : List X) → Any P xs → Any P (xs ++ ys)
any_left P xs ys (k, x, lt, is, p) = (k, x, rw length-append (omega (arith, lt)), get_or_append_left xs ys x k lt ∙ is, p)

pub any_right : {X : Type 0} (P : X → Type 0) (xs ys : List X) → Any P ys → Any P (xs ++ ys)
any_right P xs ys (k, x, lt, is, p) = (length xs + k, x, rw length-append (omega (arith, lt)), get_or-append-add xs ys k x ∙ is, p)

any_at : {X V Y : Type 0} (P : Y → Type 0) (refs : V → List Y) (meaning : X → V) (n : ℕ) (xs : List X) (d : X) → n < length xs → Any P (refs (meaning (slice_index_or xs n d))) → Any P (flat_map refs (map meaning xs))
any_at P refs meaning n [] d lt h = absurd (omega (arith, lt))
any_at P refs meaning zero (x ∷ xs) d lt h = any_left P (refs (meaning x)) (flat_map refs (map meaning xs)) h
any_at P refs meaning (suc n) (x ∷ xs) d lt h = any_right P (refs (meaning x)) (flat_map refs (map meaning xs)) (any_at P refs meaning n xs d (omega (arith, lt)) h)

-- what holds of all references holds of those of the next item, and what holds of one of these holds of one of all
pub all_next : {X V Y : Type 0} (R : X → X → Type 0) (P : Y → Type 0) (refs : V → List Y) (meaning : X → V) (n : ℕ) (olds news : List X) (d : X) → FrontReplaced R n olds news → n < length olds → AllByRecursion P (flat_map refs (map meaning olds)) → AllByRecursion P (refs (meaning (slice_index_or news n d)))
all_next R P refs meaning n olds news d h lt all = subst (λ x. AllByRecursion P (refs (meaning x))) (sym (next_is_old R n olds news d h)) (all_at P refs meaning n olds d lt all)

pub any_next : {X V Y : Type 0} (R : X → X → Type 0) (P : Y → Type 0) (refs : V → List Y) (meaning : X → V) (n : ℕ) (olds news : List X) (d : X) → FrontReplaced R n olds news → n < length olds → Any P (refs (meaning (slice_index_or news n d))) → Any P (flat_map refs (map meaning olds))
any_next R P refs meaning n olds news d h lt any = any_at P refs meaning n olds d lt (subst (λ x. Any P (refs (meaning x))) (next_is_old R n olds news d h) any)

-- indexes stand for themselves
pub indexes_are : (xs : List Index) → map (λ index. index) xs ≡ xs
indexes_are [] = refl
indexes_are (x ∷ xs) = ap (λ ys. x ∷ ys) (indexes_are xs)

pub refs_of_indexes : (xs : List Index) → flat_map (λ index. index ∷ []) xs ≡ xs
refs_of_indexes [] = refl
refs_of_indexes (x ∷ xs) = ap (λ ys. x ∷ ys) (refs_of_indexes xs)

pub ruleset indexes = (indexes_are, refs_of_indexes)

-- two parts, of which the second is replaced after the first
pub both_accepted : {A E X : Type 0} (result : Result A E) (P : X → Type 0) (xs ys : List X) → AllByRecursion P xs → IfOk result (λ _. AllByRecursion P ys) → IfOk result (λ _. AllByRecursion P (xs ++ ys))
both_accepted (Ok a) P xs ys h k = all_join P xs ys h k
both_accepted (Err e) P xs ys h k = tt

pub second_refused : {A E X : Type 0} (result : Result A E) (P : E → X → Type 0) (xs ys : List X) → IfErr result (λ e. Any (P e) ys) → IfErr result (λ e. Any (P e) (xs ++ ys))
second_refused (Ok a) P xs ys h = tt
second_refused (Err e) P xs ys h = any_right (P e) xs ys h
