-- Writing operands of given types over others, one by one.
use Rattle.std.proofs.Common.{◌≡◌, ℕ, zero, suc, ◌+◌, ◌<◌, ◌≤◌, List, [], ◌∷◌, ◌++◌, length, get_or, take, drop, refl, sym, ap, ◌∙◌, subst, arith, add-one, map}
use Rattle.std.proofs.Math.ListN.{set, drop_of_length-le}
use Rattle.std.proofs.Math.Seq.{set-append_seam, drop-cons}
use Rattle.std.proofs.lemmas.List.{append-nil, append_assoc, get_or-map, length-append, length-map, length-take, length-take-le, map-append, take-append-le, take-map, take-take, take_more}
use Rattle.wasm_bodies.specs.Operands as operands
use Rattle.wasmparser_types.specs.ValTypes.{val_type}
use Rattle.wasmparser_types.specs.declared.val_type.ValType.{ValType}
use Rattle.wasmparser_bodies.specs.StackViews.{all_of, operand}
use Rattle.wasmparser_bodies.specs.declared.operand.Operand.{Operand}
use Rattle.wasmparser_bodies.specs.declared.operand.Operand.TheVariants.{Known}

set-map : {A B : Type 0} (f : A → B) (xs : List A) (i : ℕ) (y : A) → map f (set xs i y) ≡ set (map f xs) i (f y)
set-map f [] i y = refl
set-map f (x ∷ xs) zero y = refl
set-map f (x ∷ xs) (suc i) y = ap (λ l. f x ∷ l) (set-map f xs i y)

-- one more is written over, behind a front
written : {A : Type 0} (front xs : List A) (j : ℕ) (y : A) → length front ≡ j → j < length xs → set (front ++ drop j xs) j y ≡ front ++ y ∷ drop (j + 1) xs
written front xs j y is lt =
    let e : drop j xs ≡ get_or xs j y ∷ drop (suc j) xs = drop-cons xs j y lt in
    let s : set (front ++ get_or xs j y ∷ drop (suc j) xs) (length front) y ≡ front ++ y ∷ drop (suc j) xs = set-append_seam front (get_or xs j y) (drop (suc j) xs) y in
    rw (e, add-one) (subst (λ k. set (front ++ get_or xs j y ∷ drop (suc j) xs) k y ≡ front ++ y ∷ drop (suc j) xs) is s)

all_of-more : (types : List ValType) (i : ℕ) (type : ValType) → i < length types → all_of (take (i + 1) types) ≡ all_of (take i types) ++ operand (Known (get_or types i type)) ∷ []
all_of-more types i type lt =
    ap all_of (take_more types i type lt) ∙ ap (map (λ t. operands.Known t)) (map-append val_type (take i types) (get_or types i type ∷ []))
    ∙ map-append (λ t. operands.Known t) (map val_type (take i types)) (val_type (get_or types i type) ∷ [])

pub length-all_of : (types : List ValType) → length (all_of types) ≡ length types
length-all_of types = length-map (map val_type types) (λ t. operands.Known t) ∙ length-map types val_type

-- what the loop keeps
abbrev pub Written : List Operand → List Operand → ℕ → List ValType → ℕ → Type 0
Written now old at types i = map operand now ≡ (take at (map operand old) ++ all_of (take i types)) ++ drop (at + i) (map operand old)

pub written_more : (now old : List Operand) (at : ℕ) (types : List ValType) (i : ℕ) (type : ValType) → at + length types ≤ length old → i < length types → type ≡ get_or types i type
    → Written now old at types i → Written (set now (at + i) (Known type)) old at types (i + 1)
written_more now old at types i type room lt is h =
    let front = take at (map operand old) ++ all_of (take i types) in
    let m : length (map operand old) ≡ length old = length-map old operand in
    let fits : at ≤ length (map operand old) = omega arith in
    let few : i ≤ length types = omega arith in
    let t : length (take at (map operand old)) ≡ at = length-take-le at (map operand old) fits in
    let k : length (all_of (take i types)) ≡ i = length-all_of (take i types) ∙ length-take-le i types few in
    let n : length front ≡ at + i = omega (arith, length-append (take at (map operand old)) (all_of (take i types))) in
    let within : at + i < length (map operand old) = omega arith in
    let step : set (map operand now) (at + i) (operand (Known type)) ≡ front ++ operand (Known type) ∷ drop (at + i + 1) (map operand old) =
    ap (λ l. set l (at + i) (operand (Known type))) h ∙ written front (map operand old) (at + i) (operand (Known type)) n within in
    let more : all_of (take (i + 1) types) ≡ all_of (take i types) ++ operand (Known type) ∷ [] = subst (λ y. all_of (take (i + 1) types) ≡ all_of (take i types) ++ operand (Known y) ∷ []) (sym is) (all_of-more types i type lt) in
    let rest : at + i + 1 ≡ at + (i + 1) = omega arith in
    set-map operand now (at + i) (Known type) ∙ step ∙ ap (λ k. front ++ operand (Known type) ∷ drop k (map operand old)) rest
    ∙ sym (append_assoc front (operand (Known type) ∷ []) (drop (at + (i + 1)) (map operand old)))
    ∙ ap (λ l. l ++ drop (at + (i + 1)) (map operand old)) (append_assoc (take at (map operand old)) (all_of (take i types)) (operand (Known type) ∷ []) ∙ ap (λ l. take at (map operand old) ++ l) (sym more))

-- what was written over up to the end
pub written_all : (now sized old : List Operand) (at : ℕ) (types : List ValType) (others : List Operand)
    → map operand now ≡ take at (map operand sized) ++ (all_of types ++ drop (at + length types) (map operand sized)) → sized ≡ take (at + length types) old ++ others → length sized ≡ at + length types → at ≤ length old
    → map operand now ≡ take at (map operand old) ++ all_of types
written_all now sized old at types others h is len le =
    let gone : drop (at + length types) (map operand sized) ≡ [] = drop_of_length-le (map operand sized) (omega (arith, length-map sized operand)) in
    let within : at ≤ length (take (at + length types) old) = omega (arith, length-take (at + length types) old) in
    let front : take at sized ≡ take at old = ap (take at) is ∙ take-append-le at (take (at + length types) old) others within ∙ take-take at (at + length types) old (omega arith) in
    h ∙ ap (λ l. take at (map operand sized) ++ (all_of types ++ l)) gone ∙ ap (λ l. take at (map operand sized) ++ l) (append-nil (all_of types))
    ∙ ap (λ l. l ++ all_of types) (take-map operand at sized ∙ ap (map operand) front ∙ sym (take-map operand at old))

-- what was written over, and one more, up to the end
pub written_with : (now sized old : List Operand) (at : ℕ) (types : List ValType) (others : List Operand) (last : Operand)
    → map operand now ≡ take at (map operand sized) ++ (all_of types ++ drop (at + length types) (map operand sized)) → sized ≡ take (at + length types + 1) old ++ others → length sized ≡ at + length types + 1 → at ≤ length old
    → map operand (set now (at + length types) last) ≡ take at (map operand old) ++ (all_of types ++ operand last ∷ [])
written_with now sized old at types others last h is len le =
    let j = at + length types in
    let front = take at (map operand sized) ++ all_of types in
    let m : length (map operand sized) ≡ length sized = length-map sized operand in
    let fits : at ≤ length (map operand sized) = omega arith in
    let t : length (take at (map operand sized)) ≡ at = length-take-le at (map operand sized) fits in
    let n : length front ≡ at + length types = omega (arith, length-append (take at (map operand sized)) (all_of types), length-all_of types) in
    let below : at + length types < length (map operand sized) = omega arith in
    let gone : drop (at + length types + 1) (map operand sized) ≡ [] = drop_of_length-le (map operand sized) (omega arith) in
    let within : at ≤ length (take (at + length types + 1) old) = omega (arith, length-take (at + length types + 1) old) in
    let kept : take at sized ≡ take at old = ap (take at) is ∙ take-append-le at (take (at + length types + 1) old) others within ∙ take-take at (at + length types + 1) old (omega arith) in
    set-map operand now (at + length types) last
    ∙ ap (λ l. set l (at + length types) (operand last)) (h ∙ sym (append_assoc (take at (map operand sized)) (all_of types) (drop (at + length types) (map operand sized))))
    ∙ written front (map operand sized) (at + length types) (operand last) n below
    ∙ ap (λ l. front ++ operand last ∷ l) gone
    ∙ append_assoc (take at (map operand sized)) (all_of types) (operand last ∷ [])
    ∙ ap (λ l. l ++ (all_of types ++ operand last ∷ [])) (take-map operand at sized ∙ ap (map operand) kept ∙ sym (take-map operand at old))

-- ---- whether operands are of given types

-- what the loop keeps
abbrev pub AreOf : List Operand → List ValType → ℕ → Type 0
AreOf operands types i = map operand (take i operands) ≡ all_of (take i types)

pub are_of_more : (operands : List Operand) (types : List ValType) (i : ℕ) (x : Operand) (type : ValType) → length operands ≡ length types → i < length types → x ≡ get_or operands i x → type ≡ get_or types i type → operand x ≡ operand (Known type)
    → AreOf operands types i → AreOf operands types (i + 1)
are_of_more os types i x type len lt is it same h =
    let one : map operand (take (i + 1) os) ≡ map operand (take i os) ++ operand x ∷ [] = ap (map operand) (take_more os i x (omega arith)) ∙ map-append operand (take i os) (get_or os i x ∷ []) ∙ ap (λ y. map operand (take i os) ++ operand y ∷ []) (sym is) in
    let more : all_of (take (i + 1) types) ≡ all_of (take i types) ++ operand (Known type) ∷ [] = subst (λ y. all_of (take (i + 1) types) ≡ all_of (take i types) ++ operand (Known y) ∷ []) (sym it) (all_of-more types i type lt) in
    one ∙ ap (λ l. l ++ operand x ∷ []) h ∙ ap (λ y. all_of (take i types) ++ y ∷ []) same ∙ sym more

-- one that isn't of its type tells that not all are
pub are_of_not : (os : List Operand) (types : List ValType) (i : ℕ) (x : Operand) (type : ValType) → length os ≡ length types → i < length types → x ≡ get_or os i x → type ≡ get_or types i type
    → map operand os ≡ all_of types → operand x ≡ operand (Known type)
are_of_not os types i x type len lt is it e =
    let d = operand x in
    ap operand is ∙ sym (get_or-map operand os i x d (omega arith)) ∙ ap (λ l. get_or l i d) e
    ∙ get_or-map (λ t. operands.Known t) (map val_type types) i (val_type type) d (omega (arith, length-map types val_type))
    ∙ ap (λ t. operands.Known t) (get_or-map val_type types i type (val_type type) lt) ∙ ap (λ t. operand (Known t)) (sym it)
