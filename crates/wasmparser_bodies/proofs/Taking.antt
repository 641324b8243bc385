-- Operands that are known and of exactly the types that are wanted, which are taken at once.
use Rattle.std.proofs.Common.{◌≡◌, ℕ, ◌+◌, ◌-◌, ◌≤◌, Bool, List, [], ◌∷◌, ◌++◌, length, take, drop, Some, refl, sym, ap, ◌∙◌, subst, arith, reverse, map}
use Rattle.std.specs.List.{between}
use Rattle.std.proofs.Math.Seq.{take-append_seam}
use Rattle.std.proofs.lemmas.List.{drop-drop, drop-map, drop-take, length-drop, length-reverse, length-take, map-append, reverse-append, reverse-reverse, take-append-drop, take-map}
use Rattle.std.proofs.lemmas.Slice.{between_is}
use Rattle.wasm_bodies.specs.BodyContext.{ModuleItems}
use Rattle.wasm_bodies.specs.Operands.{Operand, Known, State, all_taken, each_taken}
use Rattle.wasm_spec.specs.Types.{ValType}
use Rattle.wasmparser_bodies.specs.StackChanges.{IsBelowItself, lowered}
use Rattle.wasmparser_bodies.proofs.Stacked.{drop-reverse}

map-reverse : {A B : Type 0} (f : A → B) (xs : List A) → map f (reverse xs) ≡ reverse (map f xs)
map-reverse f [] = refl
map-reverse f (x ∷ xs) =
    ap (map f) (reverse-append (x ∷ []) xs) ∙ map-append f (reverse xs) (x ∷ []) ∙ ap (λ l. l ++ f x ∷ []) (map-reverse f xs) ∙ sym (reverse-append (f x ∷ []) (map f xs))

pub take-reverse : {A : Type 0} (n : ℕ) (ys : List A) → n ≤ length ys → take n (reverse ys) ≡ reverse (drop (length ys - n) ys)
take-reverse n ys le =
    let split : reverse ys ≡ reverse (drop (length ys - n) ys) ++ reverse (take (length ys - n) ys) = ap reverse (sym (take-append-drop (length ys - n) ys)) ∙ reverse-append (take (length ys - n) ys) (drop (length ys - n) ys) in
    let len : length (reverse (drop (length ys - n) ys)) ≡ n = omega (arith, length-reverse (drop (length ys - n) ys), length-drop (length ys - n) ys) in
    ap (take n) split ∙ subst (λ j. take j (reverse (drop (length ys - n) ys) ++ reverse (take (length ys - n) ys)) ≡ reverse (drop (length ys - n) ys)) len (take-append_seam (reverse (drop (length ys - n) ys)) (reverse (take (length ys - n) ys)))

-- ---- which operands are meant

-- the n above a base that have d others after them
pub above : {A : Type 0} (xs : List A) (b d n : ℕ) → b ≤ length xs → n ≤ length xs - b - d → take n (drop d (reverse (drop b xs))) ≡ reverse (between (b + (length xs - b - d) - n) (b + (length xs - b - d)) xs)
above xs b d n le few =
    let len : length (drop b xs) ≡ length xs - b = length-drop b xs in
    let first : drop d (reverse (drop b xs)) ≡ reverse (take (length xs - b - d) (drop b xs)) = drop-reverse d (drop b xs) ∙ ap (λ m. reverse (take (m - d) (drop b xs))) len in
    let len' : length (take (length xs - b - d) (drop b xs)) ≡ length xs - b - d = omega (arith, length-take (length xs - b - d) (drop b xs)) in
    let start : b + (length xs - b - d - n) ≡ b + (length xs - b - d) - n = omega arith in
    ap (take n) first
    ∙ take-reverse n (take (length xs - b - d) (drop b xs)) (omega arith)
    ∙ ap (λ m. reverse (drop (m - n) (take (length xs - b - d) (drop b xs)))) len'
    ∙ ap (λ l. reverse (drop (length xs - b - d - n) l)) (sym (drop-take b (length xs - b - d) xs))
    ∙ ap reverse (drop-drop (length xs - b - d - n) b (take (b + (length xs - b - d)) xs) ∙ ap (λ m. drop m (take (b + (length xs - b - d)) xs)) start ∙ sym (between_is xs (b + (length xs - b - d) - n) (b + (length xs - b - d))))

-- the same of the code's operands
pub above_map : {A B : Type 0} (f : A → B) (xs : List A) (b d n : ℕ) → b ≤ length xs → n ≤ length xs - b - d → take n (drop d (reverse (drop b (map f xs)))) ≡ reverse (map f (between (b + (length xs - b - d) - n) (b + (length xs - b - d)) xs))
above_map f xs b d n le few =
    let e : take n (drop d (reverse (drop b (map f xs)))) ≡ map f (take n (drop d (reverse (drop b xs)))) =
    ap (λ l. take n (drop d (reverse l))) (drop-map f b xs) ∙ ap (λ l. take n (drop d l)) (sym (map-reverse f (drop b xs))) ∙ ap (take n) (drop-map f d (reverse (drop b xs))) ∙ take-map f n (drop d (reverse (drop b xs))) in
    e ∙ ap (map f) (above xs b d n le few) ∙ map-reverse f (between (b + (length xs - b - d) - n) (b + (length xs - b - d)) xs)

pub reverse-same : {A : Type 0} (xs ys : List A) → reverse xs ≡ reverse ys → xs ≡ ys
reverse-same xs ys e = sym (reverse-reverse xs) ∙ ap reverse e ∙ reverse-reverse ys

-- ---- they are taken

module _ {R : Type 0} (items : ModuleItems R) (itself : IsBelowItself items) where
  each_known : (types : List (ValType R)) (known : List (Operand R)) (is_open : Bool) (assigned : List ℕ) → take (length types) known ≡ map (λ type. Known type) types
      → each_taken items types (record { known = known; is_open = is_open; assigned = assigned }) ≡ Some (record { known = drop (length types) known; is_open = is_open; assigned = assigned })
  each_known [] known is_open assigned e = refl
  each_known (type ∷ types) [] is_open assigned e = absurd (cc e)
  each_known (type ∷ types) (x ∷ known) is_open assigned e =
      let head : x ≡ Known type = cc e in
      let tail : take (length types) known ≡ map (λ t. Known t) types = cc e in
      rw (head, itself type) (each_known types known is_open assigned tail)

  pub all_known_taken : (types : List (ValType R)) (d : ℕ) (s : State R) → take (length types) (drop d s.known) ≡ reverse (map (λ type. Known type) types) → all_taken items types (lowered d s) ≡ Some (lowered (d + length types) s)
  all_known_taken types d s e =
      let len : length (reverse types) ≡ length types = length-reverse types in
      let e' : take (length (reverse types)) (drop d s.known) ≡ map (λ type. Known type) (reverse types) = rw len (e ∙ sym (map-reverse (λ type. Known type) types)) in
      each_known (reverse types) (drop d s.known) s.is_open s.assigned e' ∙ ap (λ k. Some (record s { known = k })) (ap (λ m. drop m (drop d s.known)) len ∙ drop-drop (length types) d s.known)
