-- Lists of types.
use Rattle.std.proofs.Common.{length-drop, inl, inr, sym, ◌≤◌, ◌+◌, ◌++◌, ◌∙◌, add-one, drop, reverse, append-nil, arith, ◌<◌, zero, get_or, Some, ◌≡◌, ◌≢◌, ℕ, Bool, true, false, List, [], ◌∷◌, length, map, refl, ap, suc, ◌&&◌}
use Rattle.std.specs.Prelude.{nat_eq, slice_get}
use Rattle.std.specs.Option.{option_and_then}
use Rattle.std.proofs.Math.ListN.{drop_of_length-le}
use Rattle.std.proofs.Math.Seq.{drop-cons}
use Rattle.std.proofs.lemmas.List.{map-append, reverse-append}
use Rattle.std.proofs.lemmas.Bool.Decides.{eqb_tells}
use Rattle.std.proofs.lemmas.Option.{get_or_from_slice_get}
use Rattle.wasm_bodies.specs.Bodies.{is_exactly, is_used_up}
use Rattle.wasm_bodies.specs.Operands.{State, Known, each_taken, fresh}
use Rattle.wasmparser_bodies.specs.StackChanges.{lowered}
use Rattle.wasm_bodies.specs.BodyContext.{ModuleItems, are_below, is_defaultable, provided, unpacked}
use Rattle.wasm_spec.specs.Types.{FieldType, StorageType, I8, I16, Val, ValType, I32, I64, F32, F64, V128, Ref}
use Rattle.wasmparser_types.specs.Index.{Index}
use Rattle.wasmparser_types.specs.ValTypes.{unpacked_type}
use Rattle.wasmparser_types.specs.ValTypes as types

and_true : (b : Bool) → (b && true) ≡ b
and_true true = refl
and_true false = refl

and_false : (b : Bool) → (b && false) ≡ false
and_false true = refl
and_false false = refl

and_assoc : (a b c : Bool) → (a && (b && c)) ≡ ((a && b) && c)
and_assoc true b c = refl
and_assoc false b c = refl

and_comm : (a b : Bool) → (a && b) ≡ (b && a)
and_comm true b = sym (and_true b)
and_comm false b = sym (and_false b)

of_storage : (storage : StorageType Index) (mutable : Bool) → unpacked (record { element_type = storage; mutable = mutable }) ≡ unpacked_type storage
of_storage I8 mutable = refl
of_storage I16 mutable = refl
of_storage (Val type) mutable = refl

pub unpacked_is : (field : FieldType Index) → unpacked field ≡ unpacked_type field.element_type
unpacked_is field = of_storage field.element_type field.mutable

pub default_is : (type : ValType Index) → types.is_defaultable type ≡ is_defaultable type
default_is I32 = refl
default_is I64 = refl
default_is F32 = refl
default_is F64 = refl
default_is V128 = refl
default_is (Ref nullable heap) = refl

-- an item of a list that was mapped twice
pub mapped_at : {A B C : Type 0} (f : B → C) (g : A → B) (xs : List A) (i : ℕ) (d : A) → i < length (map f (map g xs)) → Some (f (g (get_or xs i d))) ≡ slice_get (map f (map g xs)) i
mapped_at f g [] i d lt = absurd (omega (arith, lt))
mapped_at f g (y ∷ ys) zero d lt = refl
mapped_at f g (y ∷ ys) (suc i) d lt = mapped_at f g ys i d (omega (arith, lt))

-- an item of a list that was mapped once
pub item_at : {A B : Type 0} (f : A → B) (xs : List A) (i : ℕ) (x : A) → i < length xs → x ≡ get_or xs i x → Some (f x) ≡ slice_get (map f xs) i
item_at f [] i x lt is = absurd (omega (arith, lt))
item_at f (y ∷ ys) zero x lt is = ap (λ z. Some (f z)) is
item_at f (y ∷ ys) (suc i) x lt is = item_at f ys i x (omega (arith, lt)) is

-- lists of unlike lengths
pub unlike : {R : Type 0} (items : ModuleItems R) (a b : List (ValType R)) → length a ≢ length b → are_below items a b ≡ false
unlike items [] [] n = absurd (n refl)
unlike items [] (y ∷ ys) n = refl
unlike items (x ∷ xs) [] n = refl
unlike items (x ∷ xs) (y ∷ ys) n = by_first (items.is_below x y) (unlike items xs ys (λ e. n (ap suc e)))
  where
    by_first : (b : Bool) → are_below items xs ys ≡ false → (b && are_below items xs ys) ≡ false
    by_first true e = e
    by_first false e = refl

-- one pair after the other
pub next_below : {R : Type 0} (items : ModuleItems R) (a b : List (ValType R)) (i : ℕ) (x y : ValType R) → i < length a → i < length b → Some x ≡ slice_get a i → Some y ≡ slice_get b i
    → are_below items (drop i a) (drop i b) ≡ (items.is_below x y && are_below items (drop (i + 1) a) (drop (i + 1) b))
next_below items a b i x y la lb ea eb =
    let da : drop i a ≡ x ∷ drop (i + 1) a = rw add-one (drop-cons a i x la ∙ ap (λ z. z ∷ drop (suc i) a) (get_or_from_slice_get a i x x (sym ea))) in
    let db : drop i b ≡ y ∷ drop (i + 1) b = rw add-one (drop-cons b i y lb ∙ ap (λ z. z ∷ drop (suc i) b) (get_or_from_slice_get b i y y (sym eb))) in
    rw (da, db) refl

pub none_left : {R : Type 0} (items : ModuleItems R) (a b : List (ValType R)) (n : ℕ) → length a ≤ n → length b ≤ n → are_below items (drop n a) (drop n b) ≡ true
none_left items a b n la lb = rw (drop_of_length-le a la, drop_of_length-le b lb) refl

-- ---- in the other order

below_last : {R : Type 0} (items : ModuleItems R) (a b : List (ValType R)) (x y : ValType R) → are_below items (a ++ x ∷ []) (b ++ y ∷ []) ≡ (are_below items a b && items.is_below x y)
below_last items [] [] x y = and_true (items.is_below x y)
below_last items [] (z ∷ []) x y = and_false (items.is_below x z)
below_last items [] (z ∷ w ∷ b) x y = and_false (items.is_below x z)
below_last items (z ∷ []) [] x y = and_false (items.is_below z y)
below_last items (z ∷ w ∷ a) [] x y = and_false (items.is_below z y)
below_last items (z ∷ a) (w ∷ b) x y = ap (λ t. items.is_below z w && t) (below_last items a b x y) ∙ and_assoc (items.is_below z w) (are_below items a b) (items.is_below x y)

never_below : {R : Type 0} (items : ModuleItems R) (b : List (ValType R)) (y : ValType R) → are_below items [] (b ++ y ∷ []) ≡ false
never_below items [] y = refl
never_below items (z ∷ b) y = refl

never_above : {R : Type 0} (items : ModuleItems R) (a : List (ValType R)) (x : ValType R) → are_below items (a ++ x ∷ []) [] ≡ false
never_above items [] x = refl
never_above items (z ∷ a) x = refl

pub below_reversed : {R : Type 0} (items : ModuleItems R) (a b : List (ValType R)) → are_below items (reverse a) (reverse b) ≡ are_below items a b
below_reversed items [] [] = refl
below_reversed items [] (y ∷ b) = rw (reverse-append (y ∷ []) b) (never_below items (reverse b) y)
below_reversed items (x ∷ a) [] = rw (reverse-append (x ∷ []) a) (never_above items (reverse a) x)
below_reversed items (x ∷ a) (y ∷ b) =
    rw (reverse-append (x ∷ []) a, reverse-append (y ∷ []) b)
    (below_last items (reverse a) (reverse b) x y ∙ ap (λ t. t && items.is_below x y) (below_reversed items a b) ∙ and_comm (are_below items a b) (items.is_below x y))

reversed_map : {A B : Type 0} (f : A → B) (xs : List A) → reverse (map f xs) ≡ map f (reverse xs)
reversed_map f [] = refl
reversed_map f (x ∷ xs) =
    reverse-append (f x ∷ []) (map f xs) ∙ ap (λ l. l ++ f x ∷ []) (reversed_map f xs) ∙ sym (map-append f (reverse xs) (x ∷ [])) ∙ ap (map f) (sym (reverse-append (x ∷ []) xs))

not_empty : (n : ℕ) → nat_eq (suc n) 0 ≡ false
not_empty n = elim (eqb_tells (suc n) 0) [ inl (t, same) ↦ absurd (omega (arith, same)) | inr (t, other) ↦ t ]

-- operands of known types alone
exactly : {R : Type 0} (items : ModuleItems R) (known wanted : List (ValType R)) (assigned : List ℕ)
    → is_used_up (each_taken items wanted (record { known = map (λ type. Known type) known; is_open = false; assigned = assigned })) ≡ are_below items known wanted
exactly items [] [] assigned = refl
exactly items [] (t ∷ wanted) assigned = refl
exactly items (x ∷ known) [] assigned = not_empty (length (map (λ type. Known type) known))
exactly {R} items (x ∷ known) (t ∷ wanted) assigned = by_first (items.is_below x t) (exactly items known wanted assigned)
  where
    after : State R
    after = record { known = map (λ type. Known type) known; is_open = false; assigned = assigned }

    by_first : (b : Bool) → is_used_up (each_taken items wanted after) ≡ are_below items known wanted
        → is_used_up (option_and_then (each_taken items wanted) (provided b (Some after))) ≡ (b && are_below items known wanted)
    by_first true e = e
    by_first false e = refl

-- a list that begins with operands of some types ends with others where these are below them
pub serves : {R : Type 0} (items : ModuleItems R) (params results : List (ValType R)) (assigned : List ℕ) → is_exactly items results (fresh params assigned) ≡ are_below items params results
serves items params results assigned =
    let known : reverse (map (λ type. Known type) params) ++ [] ≡ map (λ type. Known type) (reverse params) = append-nil (reverse (map (λ type. Known type) params)) ∙ reversed_map (λ type. Known type) params in
    ap (λ k. is_used_up (each_taken items (reverse results) (record { known = k; is_open = false; assigned = assigned }))) known
    ∙ exactly items (reverse params) (reverse results) assigned ∙ below_reversed items params results

-- ---- nothing else is left

pub used_up : {R : Type 0} (n : ℕ) (s : State R) → length s.known ≤ n → is_used_up (Some (lowered n s)) ≡ true
used_up n s h = rw (drop_of_length-le s.known h) refl

pub not_used_up : {R : Type 0} (n : ℕ) (s : State R) → n < length s.known → is_used_up (Some (lowered n s)) ≡ false
not_used_up n s h = elim (eqb_tells (length (drop n s.known)) 0) [ inl (t, same) ↦ absurd (omega (arith, same, h, length-drop n s.known)) | inr (t, other) ↦ t ]

pub ruleset ends = (used_up, not_used_up)
