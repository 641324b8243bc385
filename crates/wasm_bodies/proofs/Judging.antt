-- The judgement, worked out: from a state, code leads to one state at most.
use Rattle.std.proofs.Common.{Bool, true, false, ◌≡◌, List, [], ◌∷◌, Option, Some, None, refl, sym, ap}
use Rattle.std.specs.Option.{option_and_then}
use Rattle.wasm_bodies.specs.BodyContext.{BodyContext, provided}
use Rattle.wasm_bodies.specs.Bodies.{Code, done, simple, block, loop, if_then, if_else, entered, start_of, after_block, is_used_up, IsExactly, Judged, IsTyped}
use Rattle.wasm_bodies.specs.Effects.{Labels, effect}
use Rattle.wasm_bodies.specs.Operands.{State, taken, all_taken, fresh}
use Rattle.wasm_bodies.specs.Operators.{Block, Loop, If}
use Rattle.wasm_spec.specs.Types.{ValType, I32}

-- ---- working out

-- what comes next where a list ends with exactly these types
abbrev ended : {R A : Type 0} → BodyContext R → List (ValType R) → Option (State R) → Option A → Option A
ended cx types None next = None
ended cx types (Some e) next = provided (is_used_up (all_taken cx.items types e)) next

abbrev pub judge : {R : Type 0} → BodyContext R → Labels R → State R → Code → Option (State R)
judge cx labels s done = Some s
judge cx labels s (simple operator rest) = option_and_then (λ m. judge cx labels m rest) (effect cx labels s operator)
judge cx labels s (block type inner rest) =
    option_and_then (λ b. ended cx b.signature.results (judge cx (b.signature.results ∷ labels) (start_of b) inner) (judge cx labels (after_block b) rest))
    (entered cx (Block type) type s)
judge cx labels s (loop type inner rest) =
    option_and_then (λ b. ended cx b.signature.results (judge cx (b.signature.params ∷ labels) (start_of b) inner) (judge cx labels (after_block b) rest))
    (entered cx (Loop type) type s)
judge cx labels s (if_then type inner rest) =
    option_and_then (λ b. ended cx b.signature.results (judge cx (b.signature.results ∷ labels) (start_of b) inner)
    (ended cx b.signature.results (Some (start_of b)) (judge cx labels (after_block b) rest)))
    (option_and_then (entered cx (If type) type) (taken cx.items I32 s))
judge cx labels s (if_else type inner other rest) =
    option_and_then (λ b. ended cx b.signature.results (judge cx (b.signature.results ∷ labels) (start_of b) inner)
    (ended cx b.signature.results (judge cx (b.signature.results ∷ labels) (start_of b) other) (judge cx labels (after_block b) rest)))
    (option_and_then (entered cx (If type) type) (taken cx.items I32 s))

abbrev ends_exactly : {R : Type 0} → BodyContext R → List (ValType R) → Option (State R) → Bool
ends_exactly cx types None = false
ends_exactly cx types (Some e) = is_used_up (all_taken cx.items types e)

abbrev pub is_typed : {R : Type 0} → BodyContext R → Code → Bool
is_typed cx code = ends_exactly cx cx.results (judge cx (cx.results ∷ []) (fresh [] []) code)

-- ---- parts

pub split : {A B : Type 0} (f : A → Option B) (o : Option A) (b : B) → option_and_then f o ≡ Some b → (a : A) × (o ≡ Some a) × (f a ≡ Some b)
split f None b e = absurd cc
split f (Some a) b e = (a, refl, e)

pub under : {A : Type 0} (condition : Bool) (o : Option A) (a : A) → provided condition o ≡ Some a → (condition ≡ true) × (o ≡ Some a)
under true o a e = (refl, e)
under false o a e = absurd cc

module _ {R A : Type 0} (cx : BodyContext R) (types : List (ValType R)) where
  -- the list ended, and what came next
  parted : (o : Option (State R)) (next : Option A) (a : A) → ended cx types o next ≡ Some a → (e : State R) × (o ≡ Some e) × IsExactly cx.items types e × (next ≡ Some a)
  parted None next a e = absurd cc
  parted (Some s) next a e = let u = under (is_used_up (all_taken cx.items types s)) next a e in (s, refl, u.0, u.1)

-- ---- both ways

pub complete : {R : Type 0} (cx : BodyContext R) (labels : Labels R) (s : State R) (code : Code) (last : State R) → Judged cx labels s code last → judge cx labels s code ≡ Some last
complete cx labels s done last j = ap (λ x. Some x) (sym j)
complete cx labels s (simple operator rest) last j = rw (j.1) (complete cx labels j.0 rest last j.2)
complete cx labels s (block type inner rest) last j =
    let b = j.0 in
    let i = j.2 in
    rw (j.1, complete cx (b.signature.results ∷ labels) (start_of b) inner i.0 i.1, i.2) (complete cx labels (after_block b) rest last j.3)
complete cx labels s (loop type inner rest) last j =
    let b = j.0 in
    let i = j.2 in
    rw (j.1, complete cx (b.signature.params ∷ labels) (start_of b) inner i.0 i.1, i.2) (complete cx labels (after_block b) rest last j.3)
complete cx labels s (if_then type inner rest) last j =
    let b = j.0 in
    let i = j.2 in
    rw (j.1, complete cx (b.signature.results ∷ labels) (start_of b) inner i.0 i.1, i.2, j.3) (complete cx labels (after_block b) rest last j.4)
complete cx labels s (if_else type inner other rest) last j =
    let b = j.0 in
    let i = j.2 in
    let o = j.3 in
    rw (j.1, complete cx (b.signature.results ∷ labels) (start_of b) inner i.0 i.1, i.2, complete cx (b.signature.results ∷ labels) (start_of b) other o.0 o.1, o.2)
    (complete cx labels (after_block b) rest last j.4)

pub sound : {R : Type 0} (cx : BodyContext R) (labels : Labels R) (s : State R) (code : Code) (last : State R) → judge cx labels s code ≡ Some last → Judged cx labels s code last
sound cx labels s done last e = let h : s ≡ last = cc in sym h
sound cx labels s (simple operator rest) last e =
    let p = split (λ m. judge cx labels m rest) (effect cx labels s operator) last e in
    (p.0, p.1, sound cx labels p.0 rest last p.2)
sound cx labels s (block type inner rest) last e =
    let p = split _ (entered cx (Block type) type s) last e in
    let b = p.0 in
    let q = parted cx b.signature.results (judge cx (b.signature.results ∷ labels) (start_of b) inner) (judge cx labels (after_block b) rest) last p.2 in
    (b, p.1, (q.0, sound cx (b.signature.results ∷ labels) (start_of b) inner q.0 q.1, q.2), sound cx labels (after_block b) rest last q.3)
sound cx labels s (loop type inner rest) last e =
    let p = split _ (entered cx (Loop type) type s) last e in
    let b = p.0 in
    let q = parted cx b.signature.results (judge cx (b.signature.params ∷ labels) (start_of b) inner) (judge cx labels (after_block b) rest) last p.2 in
    (b, p.1, (q.0, sound cx (b.signature.params ∷ labels) (start_of b) inner q.0 q.1, q.2), sound cx labels (after_block b) rest last q.3)
sound cx labels s (if_then type inner rest) last e =
    let p = split _ (option_and_then (entered cx (If type) type) (taken cx.items I32 s)) last e in
    let b = p.0 in
    let q = parted cx b.signature.results (judge cx (b.signature.results ∷ labels) (start_of b) inner) _ last p.2 in
    let r = parted cx b.signature.results (Some (start_of b)) (judge cx labels (after_block b) rest) last q.3 in
    let same : start_of b ≡ r.0 = cc in
    (b, p.1, (q.0, sound cx (b.signature.results ∷ labels) (start_of b) inner q.0 q.1, q.2), rw same r.2, sound cx labels (after_block b) rest last r.3)
sound cx labels s (if_else type inner other rest) last e =
    let p = split _ (option_and_then (entered cx (If type) type) (taken cx.items I32 s)) last e in
    let b = p.0 in
    let q = parted cx b.signature.results (judge cx (b.signature.results ∷ labels) (start_of b) inner) _ last p.2 in
    let r = parted cx b.signature.results (judge cx (b.signature.results ∷ labels) (start_of b) other) (judge cx labels (after_block b) rest) last q.3 in (
      b,
      p.1,
      (q.0, sound cx (b.signature.results ∷ labels) (start_of b) inner q.0 q.1, q.2),
      (r.0, sound cx (b.signature.results ∷ labels) (start_of b) other r.0 r.1, r.2),
      sound cx labels (after_block b) rest last r.3,
    )

-- ---- bodies

pub is_kept : {R : Type 0} (cx : BodyContext R) (code : Code) → is_typed cx code ≡ true → IsTyped cx code
is_kept {R} cx code e = from (judge cx (cx.results ∷ []) (fresh [] []) code) refl e
  where
    from : (o : Option (State R)) → judge cx (cx.results ∷ []) (fresh [] []) code ≡ o → ends_exactly cx cx.results o ≡ true → IsTyped cx code
    from None is e = absurd cc
    from (Some last) is e = (last, sound cx (cx.results ∷ []) (fresh [] []) code last is, e)

pub is_broken : {R : Type 0} (cx : BodyContext R) (code : Code) → is_typed cx code ≡ false → IsTyped cx code → ⊥
is_broken cx code e t =
    let is : judge cx (cx.results ∷ []) (fresh [] []) code ≡ Some t.0 = complete cx (cx.results ∷ []) (fresh [] []) code t.0 t.1 in
    let b : is_typed cx code ≡ true = rw is t.2 in
    absurd cc
