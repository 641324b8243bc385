-- Options and lists over which a map is carried.
use Rattle.std.proofs.Common.{Bool, true, false, ◌≡◌, zero, suc, List, [], ◌∷◌, ◌++◌, map, reverse, Option, Some, None, if◌then◌else◌, refl, sym, ap, ◌∙◌}
use Rattle.std.proofs.lemmas.List.{map-append, reverse-append}
use Rattle.std.proofs.Math.ListN.{replicate}
use Rattle.std.specs.List.{list_all}
use Rattle.std.specs.Option.{option_and_then, option_map, is_some}
use Rattle.wasm_bodies.specs.BodyContext.{provided}

pub if_map : {A B : Type 0} (k : A → B) (condition : Bool) (a b : A) → (if condition then k a else k b) ≡ k (if condition then a else b)
if_map k true a b = refl
if_map k false a b = refl

pub provided_map : {A B : Type 0} (k : A → B) (condition : Bool) (o : Option A) → provided condition (option_map k o) ≡ option_map k (provided condition o)
provided_map k true o = refl
provided_map k false o = refl

pub map_map : {A B X Y : Type 0} (h : A → X) (k : B → Y) (g : A → B) (q : X → Y) → ((a : A) → q (h a) ≡ k (g a)) → (o : Option A) → option_map q (option_map h o) ≡ option_map k (option_map g o)
map_map h k g q same None = refl
map_map h k g q same (Some a) = ap (λ y. Some y) (same a)

pub then_map : {A B X Y : Type 0} (h : A → X) (k : B → Y) (g : A → Option B) (q : X → Option Y) → ((a : A) → q (h a) ≡ option_map k (g a)) → (o : Option A) → option_and_then q (option_map h o) ≡ option_map k (option_and_then g o)
then_map h k g q same None = refl
then_map h k g q same (Some a) = same a

-- the same where the option itself is the same
pub map_same : {A B Y : Type 0} (k : B → Y) (g : A → B) (q : A → Y) → ((a : A) → q a ≡ k (g a)) → (o : Option A) → option_map q o ≡ option_map k (option_map g o)
map_same k g q same None = refl
map_same k g q same (Some a) = ap (λ y. Some y) (same a)

pub then_same : {A B Y : Type 0} (k : B → Y) (g : A → Option B) (q : A → Option Y) → ((a : A) → q a ≡ option_map k (g a)) → (o : Option A) → option_and_then q o ≡ option_map k (option_and_then g o)
then_same k g q same None = refl
then_same k g q same (Some a) = same a

pub is_some_map : {A B : Type 0} (k : A → B) (o : Option A) → is_some (option_map k o) ≡ is_some o
is_some_map k None = refl
is_some_map k (Some a) = refl

pub all_same : {A : Type 0} (p q : A → Bool) → ((a : A) → p a ≡ q a) → (xs : List A) → list_all p xs ≡ list_all q xs
all_same p q same [] = refl
all_same p q same (x ∷ xs) = rw (same x, all_same p q same xs)

pub reverse_map : {A B : Type 0} (k : A → B) (xs : List A) → reverse (map k xs) ≡ map k (reverse xs)
reverse_map k [] = refl
reverse_map k (x ∷ xs) =
    reverse-append (k x ∷ []) (map k xs)
    ∙ ap (λ ys. ys ++ k x ∷ []) (reverse_map k xs)
    ∙ sym (map-append k (reverse xs) (x ∷ []))
    ∙ ap (map k) (sym (reverse-append (x ∷ []) xs))

pub replicate_map : {A B : Type 0} (k : A → B) (n : _) (x : A) → replicate n (k x) ≡ map k (replicate n x)
replicate_map k zero x = refl
replicate_map k (suc n) x = ap (λ ys. k x ∷ ys) (replicate_map k n x)
