-- Ways of reading of which one gives what the other does, seen by a function, link by link.
use Rattle.std.proofs.Common.{◌≡◌, ℕ, zero, suc, Bool, true, false, cond, eqb, List, [], ◌∷◌, Option, Some, None, map, refl, ap}
use Rattle.wasm_core_read.specs.Reading.{◌>>=◌, ReadingOf, unsigned_at, seen_at, pair_at, announced_at, after_code, bare_code, no_code}
use Rattle.wasm_core_read.specs.TypeReading.{items_at, list_at}

abbrev pub Mapped : {A B : Type 0} → (A → B) → ReadingOf A → ReadingOf B → Type 0
Mapped f a_at b_at = (bytes : List ℕ) → b_at bytes ≡ seen_at f a_at bytes

-- the same after a code
abbrev pub MappedFrom : {A B : Type 0} → (A → B) → (ℕ → ReadingOf A) → (ℕ → ReadingOf B) → Type 0
MappedFrom f from to = (code : ℕ) → Mapped f (from code) (to code)

-- what is read, and the rest
abbrev pub given : {A : Type 0} → A → List ℕ → Option (A × List ℕ)
given x rest = Some (x, rest)

pub by_code : {A B : Type 0} (f : A → B) (wanted : ℕ) (a_at : ReadingOf A) (b_at : ReadingOf B) (from : ℕ → ReadingOf A) (to : ℕ → ReadingOf B) → Mapped f a_at b_at → MappedFrom f from to
    → MappedFrom f (after_code wanted a_at from) (after_code wanted b_at to)
by_code f wanted a_at b_at from to here others = λ code rest. by_test (eqb code wanted) code rest
  where
    by_test : (t : Bool) (code : ℕ) (rest : List ℕ) → cond t (b_at rest) (to code rest) ≡ seen_at f (λ bytes. cond t (a_at bytes) (from code bytes)) rest
    by_test true code rest = here rest
    by_test false code rest = others code rest

pub by_bare : {A B : Type 0} (f : A → B) (wanted : ℕ) (x : A) (from : ℕ → ReadingOf A) (to : ℕ → ReadingOf B) → MappedFrom f from to → MappedFrom f (bare_code wanted x from) (bare_code wanted (f x) to)
by_bare f wanted x from to others = λ code rest. by_test (eqb code wanted) code rest
  where
    by_test : (t : Bool) (code : ℕ) (rest : List ℕ) → cond t (Some (f x, rest)) (to code rest) ≡ seen_at f (λ bytes. cond t (Some (x, bytes)) (from code bytes)) rest
    by_test true code rest = refl
    by_test false code rest = others code rest

pub by_none : {A B : Type 0} (f : A → B) → MappedFrom f no_code no_code
by_none f = λ code rest. refl

pub by_first : {A B : Type 0} (f : A → B) (from : ℕ → ReadingOf A) (to : ℕ → ReadingOf B) → MappedFrom f from to → Mapped f (announced_at from) (announced_at to)
by_first f from to law = λ bytes. by_bytes bytes
  where
    by_bytes : (bytes : List ℕ) → announced_at to bytes ≡ seen_at f (announced_at from) bytes
    by_bytes [] = refl
    by_bytes (b ∷ rest) = law b rest

pub by_view : {A B C D : Type 0} (g : A → B) (h : A → C) (k : B → D) (f : C → D) (a_at : ReadingOf A) (b_at : ReadingOf B) → Mapped g a_at b_at → ((x : A) → k (g x) ≡ f (h x)) → Mapped f (seen_at h a_at) (seen_at k b_at)
by_view {A = A} {D = D} g h k f a_at b_at law same = λ bytes. rw (law bytes) (by_read (a_at bytes))
  where
    by_read : (read : Option (A × List ℕ)) → ((read >>= λ x. given (g x.0) x.1) >>= λ y. given (k y.0) y.1) ≡ ((read >>= λ x. given (h x.0) x.1) >>= λ y. given (f y.0) y.1)
    by_read None = refl
    by_read (Some x) = ap (λ (d : D). Some (d, x.1)) (same x.0)

abbrev pub both : {A B C D : Type 0} → (A → B) → (C → D) → A × C → B × D
both f g x = (f x.0, g x.1)

pub by_pair : {A B C D : Type 0} (f : A → B) (g : C → D) (a_at : ReadingOf A) (b_at : ReadingOf B) (c_at : ReadingOf C) (d_at : ReadingOf D) → Mapped f a_at b_at → Mapped g c_at d_at
    → Mapped (both f g) (pair_at a_at c_at) (pair_at b_at d_at)
by_pair {A = A} {C = C} f g a_at b_at c_at d_at first second = λ bytes. rw (first bytes) (by_first_read (a_at bytes))
  where
    by_second : (a : A) (read : Option (C × List ℕ)) → ((read >>= λ c. given (g c.0) c.1) >>= λ d. given (f a, d.0) d.1) ≡ ((read >>= λ c. given (a, c.0) c.1) >>= λ x. given (both f g x.0) x.1)
    by_second a None = refl
    by_second a (Some c) = refl

    by_first_read : (read : Option (A × List ℕ)) → ((read >>= λ a. given (f a.0) a.1) >>= λ b. d_at b.1 >>= λ d. given (b.0, d.0) d.1) ≡ ((read >>= λ a. c_at a.1 >>= λ c. given (a.0, c.0) c.1) >>= λ x. given (both f g x.0) x.1)
    by_first_read None = refl
    by_first_read (Some a) = rw (second a.1) (by_second a.0 (c_at a.1))

by_items : {A B : Type 0} (f : A → B) (a_at : ReadingOf A) (b_at : ReadingOf B) → Mapped f a_at b_at → (n : ℕ) → Mapped (map f) (items_at a_at n) (items_at b_at n)
unfolding items_at
by_items f a_at b_at law zero bytes = refl
by_items {A = A} f a_at b_at law (suc n) bytes = rw (law bytes) (by_first_item (λ rest. by_items f a_at b_at law n rest) (a_at bytes))
  where
    by_others : (v : A) (read : Option (List A × List ℕ)) → ((read >>= λ xs. given (map f xs.0) xs.1) >>= λ ys. given (f v ∷ ys.0) ys.1) ≡ ((read >>= λ xs. given (v ∷ xs.0) xs.1) >>= λ x. given (map f x.0) x.1)
    by_others v None = refl
    by_others v (Some xs) = refl

    by_first_item : Mapped (map f) (items_at a_at n) (items_at b_at n) → (read : Option (A × List ℕ))
        → ((read >>= λ a. given (f a.0) a.1) >>= λ b. items_at b_at n b.1 >>= λ ys. given (b.0 ∷ ys.0) ys.1) ≡ ((read >>= λ a. items_at a_at n a.1 >>= λ xs. given (a.0 ∷ xs.0) xs.1) >>= λ x. given (map f x.0) x.1)
    by_first_item ih None = refl
    by_first_item ih (Some a) = rw (ih a.1) (by_others a.0 (items_at a_at n a.1))

pub by_list : {A B : Type 0} (f : A → B) (a_at : ReadingOf A) (b_at : ReadingOf B) → Mapped f a_at b_at → Mapped (map f) (list_at a_at) (list_at b_at)
unfolding list_at
by_list {A = A} f a_at b_at law = λ bytes. by_count (unsigned_at 32 bytes)
  where
    by_count : (read : Option (ℕ × List ℕ)) → (read >>= λ n. items_at b_at n.0 n.1) ≡ ((read >>= λ n. items_at a_at n.0 n.1) >>= λ x. given (map f x.0) x.1)
    by_count None = refl
    by_count (Some n) = by_items f a_at b_at law n.0 n.1
