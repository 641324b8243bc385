-- Facts that hold of all that an option or a list may have.
use Rattle.std.proofs.Common.{ℕ, zero, suc, Bool, true, false, ◌≡◌, List, [], ◌∷◌, ◌++◌, reverse, replicate, Option, Some, None, refl, subst}
use Rattle.std.proofs.lemmas.List.{reverse-append}
use Rattle.std.specs.List.{AllByRecursion, slice_get}
use Rattle.std.specs.Option.{IfSome, option_and_then, option_map}
use Rattle.wasm_bodies.specs.BodyContext.{provided}
use Rattle.wasm_spec.proofs.Places.{all_by_place, all_get}

-- ---- options

-- by what the option is
pub held : {A : Type 0} (P : A → Type 0) (o : Option A) → ((a : A) → o ≡ Some a → P a) → IfSome o P
held P None holds = tt
held P (Some a) holds = holds a refl

pub held_at : {A : Type 0} (P : A → Type 0) (o : Option A) (a : A) → IfSome o P → o ≡ Some a → P a
held_at P o a holds is = subst (λ x. IfSome x P) is holds

pub held_map : {A B : Type 0} (P : A → Type 0) (Q : B → Type 0) (g : A → B) → ((a : A) → P a → Q (g a)) → (o : Option A) → IfSome o P → IfSome (option_map g o) Q
held_map P Q g then None holds = tt
held_map P Q g then (Some a) holds = then a holds

pub held_then : {A B : Type 0} (P : A → Type 0) (Q : B → Type 0) (g : A → Option B) → ((a : A) → P a → IfSome (g a) Q) → (o : Option A) → IfSome o P → IfSome (option_and_then g o) Q
held_then P Q g then None holds = tt
held_then P Q g then (Some a) holds = then a holds

-- whatever the option has
pub held_by_all : {A B : Type 0} (Q : B → Type 0) (g : A → B) → ((a : A) → Q (g a)) → (o : Option A) → IfSome (option_map g o) Q
held_by_all Q g all None = tt
held_by_all Q g all (Some a) = all a

pub held_after_all : {A B : Type 0} (Q : B → Type 0) (g : A → Option B) → ((a : A) → IfSome (g a) Q) → (o : Option A) → IfSome (option_and_then g o) Q
held_after_all Q g all None = tt
held_after_all Q g all (Some a) = all a

pub held_provided : {A : Type 0} (P : A → Type 0) (condition : Bool) (o : Option A) → (condition ≡ true → IfSome o P) → IfSome (provided condition o) P
held_provided P true o holds = holds refl
held_provided P false o holds = tt

-- a map is carried over what an option has, where it is carried over what holds of this
pub then_held : {A B X Y : Type 0} (P : A → Type 0) (h : A → X) (k : B → Y) (g : A → Option B) (q : X → Option Y) → ((a : A) → P a → q (h a) ≡ option_map k (g a)) → (o : Option A) → IfSome o P → option_and_then q (option_map h o) ≡ option_map k (option_and_then g o)
then_held P h k g q same None holds = refl
then_held P h k g q same (Some a) holds = same a holds

-- ---- lists

pub all_append : {A : Type 0} (P : A → Type 0) (xs ys : List A) → AllByRecursion P xs → AllByRecursion P ys → AllByRecursion P (xs ++ ys)
all_append P [] ys first second = second
all_append P (x ∷ xs) ys first second = (first.0, all_append P xs ys first.1 second)

pub all_reverse : {A : Type 0} (P : A → Type 0) (xs : List A) → AllByRecursion P xs → AllByRecursion P (reverse xs)
all_reverse P [] all = tt
all_reverse P (x ∷ xs) all = rw (reverse-append (x ∷ []) xs) (all_append P (reverse xs) (x ∷ []) (all_reverse P xs all.1) (all.0, tt))

pub all_replicate : {A : Type 0} (P : A → Type 0) (n : ℕ) (x : A) → P x → AllByRecursion P (replicate n x)
all_replicate P zero x holds = tt
all_replicate P (suc n) x holds = (holds, all_replicate P n x holds)

pub all_of : {A : Type 0} (P : A → Type 0) → ((a : A) → P a) → (xs : List A) → AllByRecursion P xs
all_of P each xs = all_by_place P xs (λ i x at. each x)

pub held_item : {A : Type 0} (P : A → Type 0) (xs : List A) (i : ℕ) → AllByRecursion P xs → IfSome (slice_get xs i) P
held_item P xs i all = held P (slice_get xs i) (all_get P xs all i)
