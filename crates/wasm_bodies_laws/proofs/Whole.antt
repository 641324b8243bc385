-- Whole bodies, and bodies that are begun: the judgement on trees is the machine.
use Rattle.std.proofs.Common.{◌≡◌, ◌≢◌, ⊎_elim, ℕ, List, [], ◌∷◌, ◌++◌, Option, Some, None, refl, sym, ap, subst, ◌∙◌}
use Rattle.std.specs.Option.{option_and_then, unwrap_or}
use Rattle.std.proofs.lemmas.Option.{none-some, same_Some}
use Rattle.wasm_bodies.specs.BodyContext.{BodyContext, func_at}
use Rattle.wasm_bodies.specs.Bodies.{flat, IsExactly, EndsWith, Judged, LeadsTo, IsBodyOf, IsBegun}
use Rattle.wasm_bodies.specs.Effects.{Labels}
use Rattle.wasm_bodies.specs.Operands.{State, fresh}
use Rattle.wasm_bodies.specs.Operators.{Indexed, Operator, End}
use Rattle.wasm_bodies.specs.Signatures.{from_to}
use Rattle.wasm_spec.specs.Types.{ValType, FuncType}
use Rattle.wasm_bodies_laws.specs.Machine.{BlockFrame, Frame, frame_of, Machine, frame_type, labels_of, after_end, stepped_in, stepped, run, at_start, IsClosedBy, IsOpenAfter}
use Rattle.wasm_bodies_laws.proofs.Runs.{at_list, goes_on, runs_through}
use Rattle.wasm_bodies_laws.proofs.Prefixes.{some_open, IsOpenAt, reaches, splits}
use Rattle.wasm_bodies_laws.proofs.Finishing.{can_finish}
use Rattle.wasm_bodies_laws.proofs.Endings.{ending_of, some_close, closes_all}

-- ---- several operators

chained : {A B C : Type 0} (f : A → Option C) (g : B → Option C) (h : A → Option B) (o : Option A) → ((a : A) → f a ≡ option_and_then g (h a)) → option_and_then f o ≡ option_and_then g (option_and_then h o)
chained f g h None each = refl
chained f g h (Some a) each = each a

pub run_on : {R : Type 0} (cx : BodyContext R) (operators others : List (Operator ℕ)) (m : Machine R) → run cx (operators ++ others) m ≡ option_and_then (run cx others) (run cx operators m)
run_on cx [] others m = refl
run_on cx (operator ∷ operators) others m =
    chained (run cx (operators ++ others)) (run cx others) (run cx operators) (stepped cx m operator) (λ n. run_on cx operators others n)

pub run_from : {R : Type 0} (cx : BodyContext R) (operators others : List (Operator ℕ)) (m n : Machine R) → run cx operators m ≡ Some n → run cx (operators ++ others) m ≡ run cx others n
run_from cx operators others m n e = run_on cx operators others m ∙ ap (option_and_then (run cx others)) e

-- one operator more
pub run_one : {R : Type 0} (cx : BodyContext R) (operators : List (Operator ℕ)) (operator : Operator ℕ) (m n : Machine R) → run cx operators m ≡ Some n → run cx (operators ++ operator ∷ []) m ≡ stepped cx n operator
run_one {R} cx operators operator m n e = run_from cx operators (operator ∷ []) m n e ∙ alone (stepped cx n operator)
  where
    alone : (o : Option (Machine R)) → option_and_then (run cx []) o ≡ o
    alone None = refl
    alone (Some k) = refl

-- what is refused is refused whatever follows
pub refused_first : {R : Type 0} (cx : BodyContext R) (operator : Operator ℕ) (rest : List (Operator ℕ)) (m : Machine R) → stepped cx m operator ≡ None → run cx (operator ∷ rest) m ≡ None
refused_first cx operator rest m e = ap (option_and_then (run cx rest)) e

pub refused_on : {R : Type 0} (cx : BodyContext R) (operators others : List (Operator ℕ)) (m : Machine R) → run cx operators m ≡ None → run cx (operators ++ others) m ≡ None
refused_on cx operators others m e = run_on cx operators others m ∙ ap (option_and_then (run cx others)) e

pub refused_at : {R : Type 0} (cx : BodyContext R) (operators : List (Operator ℕ)) (operator : Operator ℕ) (rest : List (Operator ℕ)) (m n : Machine R) → run cx operators m ≡ Some n → stepped cx n operator ≡ None
    → run cx (operators ++ operator ∷ rest) m ≡ None
refused_at cx operators operator rest m n e none = run_from cx operators (operator ∷ rest) m n e ∙ refused_first cx operator rest n none

-- after the body's end no operator may come
pub none_after_end : {R : Type 0} (cx : BodyContext R) (m : Machine R) (operator : Operator ℕ) → m.frames ≡ [] → stepped cx m operator ≡ None
none_after_end cx m operator e = ap (λ frames. stepped_in cx frames m.now operator) e

pub ruleset step_laws = (run_on, run_from, run_one, refused_first, refused_on, refused_at, none_after_end)

none_left : {A : Type 0} (xs ys : List A) → [] ≡ xs ++ ys → ys ≡ []
none_left [] ys e = sym e
none_left (x ∷ xs) ys e = absurd cc

some_ending : {R : Type 0} (frames : List (Frame R)) → ending_of frames ≡ [] → frames ≡ []
some_ending [] e = refl
some_ending (f ∷ outer) e = absurd (some_close f.kind (ending_of outer) e)

-- ---- bodies

module _ {R : Type 0} (cx : BodyContext R) (type : ℕ) (signature : FuncType R) (named : func_at cx.items type ≡ Some signature) (gives : signature.results ≡ cx.results) where
  abbrev body_frame : Frame R
  body_frame = frame_of BlockFrame (Indexed type) (fresh [] [])

  results_are : (frame_type cx.items (Indexed type)).results ≡ cx.results
  results_are = ap (λ o. (unwrap_or o (from_to [] [])).results) named ∙ gives

  labels_are : labels_of cx.items (body_frame ∷ []) ≡ cx.results ∷ []
  labels_are = ap (λ (types : List (ValType R)). types ∷ []) results_are

  ends_body : (e : State R) → IsExactly cx.items cx.results e → stepped cx (at_list e (body_frame ∷ [])) End ≡ Some (at_list (after_end cx.items body_frame) [])
  ends_body e x = let y : IsExactly cx.items (frame_type cx.items (Indexed type)).results e = subst (λ (types : List (ValType R)). IsExactly cx.items types e) (sym results_are) x in rw y refl

  pub closed_by_body : (operators : List (Operator ℕ)) → IsBodyOf cx operators → IsClosedBy cx type operators
  closed_by_body operators b =
      let e = b.typed.0 in (
        at_list (after_end cx.items body_frame) [],
        ap (λ xs. run cx xs (at_start type)) b.is_flat ∙ runs_through cx (cx.results ∷ []) (fresh [] []) b.code e body_frame [] (End ∷ []) labels_are b.typed.1
            ∙ goes_on cx (at_list e (body_frame ∷ [])) (at_list (after_end cx.items body_frame) []) End [] (ends_body e b.typed.2),
        refl,
      )

  pub body_if_closed : (operators : List (Operator ℕ)) → IsClosedBy cx type operators → IsBodyOf cx operators
  body_if_closed operators m =
      let c = can_finish cx operators (at_start type) m.0 m.1 m.2 in
      record {
        code = c.code;
        is_flat = c.is_flat ∙ ap (flat c.code) (c.closes.1 ∙ ap (λ xs. End ∷ xs) c.closes.2);
        typed = subst (λ (types : List (ValType R)). EndsWith cx.items types (λ e. Judged cx (types ∷ []) (fresh [] []) c.code e)) results_are c.typed;
      }

  -- ---- bodies that are begun

  pub open_after_begun : (operators : List (Operator ℕ)) (labels : Labels R) (s : State R) → IsBegun cx operators labels s → IsOpenAfter cx type operators labels s
  open_after_begun operators labels s b =
      let t = b.whole.typed in
      let r = reaches cx labels s (cx.results ∷ []) (fresh [] []) b.whole.code t.0 operators body_frame [] labels_are t.1 b.leads in
      (r.machine, r.runs, r.is_open, r.leads.0, r.leads.1)

  -- into the code of a body that begins so
  part_of : (operators others : List (Operator ℕ)) (w : IsBodyOf cx (operators ++ others)) → others ≢ []
      → IsOpenAt cx (LeadsTo cx (cx.results ∷ []) (fresh [] []) w.code operators) (at_start type) operators
  part_of operators others w some =
      ⊎_elim (λ i. i) (λ p. let none : [] ≡ p.more ++ others = cc (p.rest) in absurd (some (none_left p.more others none)))
      (splits cx (cx.results ∷ []) (fresh [] []) w.code w.typed.0 body_frame [] (End ∷ []) operators others labels_are w.typed.1 (sym w.is_flat))

  pub begun_if_open : (operators : List (Operator ℕ)) (labels : Labels R) (s : State R) → IsOpenAfter cx type operators labels s → IsBegun cx operators labels s
  begun_if_open operators labels s o =
      let m = o.0 in
      let ending = ending_of m.frames in
      let c = closes_all cx m.frames m.now in
      let w = body_if_closed (operators ++ ending) (c.0, run_from cx operators ending (at_start type) m o.1 ∙ c.1, c.2) in
      let i = part_of operators ending w (λ none. o.2 (some_ending m.frames none)) in
      let same = same_Some i.machine m (sym i.runs ∙ o.1) in
      let there = subst (λ n. LeadsTo cx (cx.results ∷ []) (fresh [] []) w.code operators (labels_of cx.items n.frames) n.now) same i.leads in
      record { ending = ending; whole = w; leads = rw (o.3, o.4) there }

  -- ---- parts of bodies

  pub one_place : (operators : List (Operator ℕ)) (at labels : Labels R) (last s : State R) → IsBegun cx operators at last → IsBegun cx operators labels s → (at ≡ labels) × (last ≡ s)
  one_place operators at labels last s a b =
      let o = open_after_begun operators at last a in
      let p = open_after_begun operators labels s b in
      let same = same_Some o.0 p.0 (sym o.1 ∙ p.1) in
      (o.3 ∙ ap (λ m. labels_of cx.items m.frames) same ∙ sym p.3, o.4 ∙ ap (λ m. m.now) same ∙ sym p.4)

  pub each_part : (operators : List (Operator ℕ)) (operator : Operator ℕ) (rest : List (Operator ℕ)) → IsBodyOf cx (operators ++ operator ∷ rest) → (labels : Labels R) × (s : State R) × IsBegun cx operators labels s
  each_part operators operator rest w =
      let i = part_of operators (operator ∷ rest) w (some_open operator rest) in
      (labels_of cx.items i.machine.frames, i.machine.now, begun_if_open operators _ _ (i.machine, i.runs, i.is_open, refl, refl))

  pub no_more : (operators others : List (Operator ℕ)) → IsBodyOf cx operators → IsBodyOf cx (operators ++ others) → others ≡ []
  no_more operators [] a b = refl
  no_more operators (operator ∷ rest) a b =
      let m = closed_by_body operators a in
      let n = closed_by_body (operators ++ operator ∷ rest) b in
      absurd (none-some n.0 (sym (refused_at cx operators operator rest (at_start type) m.0 m.1 (none_after_end cx m.0 operator m.2)) ∙ n.1))

  -- ---- what is no body, and begins none

  pub no_body : (operators : List (Operator ℕ)) → run cx operators (at_start type) ≡ None → IsBodyOf cx operators → ⊥
  no_body operators e b = let c = closed_by_body operators b in none-some c.0 (sym e ∙ c.1)

  pub never_follows : (operators : List (Operator ℕ)) (operator : Operator ℕ) (rest : List (Operator ℕ)) (m : Machine R) → run cx operators (at_start type) ≡ Some m → stepped cx m operator ≡ None
      → IsBodyOf cx (operators ++ operator ∷ rest) → ⊥
  never_follows operators operator rest m e none = no_body (operators ++ operator ∷ rest) (refused_at cx operators operator rest (at_start type) m e none)

  pub not_begun : (operators : List (Operator ℕ)) (labels : Labels R) (s : State R) → run cx operators (at_start type) ≡ None → IsBegun cx operators labels s → ⊥
  not_begun operators labels s e b = let o = open_after_begun operators labels s b in none-some o.0 (sym e ∙ o.1)

  pub not_closed : (operators : List (Operator ℕ)) (m : Machine R) → run cx operators (at_start type) ≡ Some m → m.frames ≢ [] → IsBodyOf cx operators → ⊥
  not_closed operators m e some b =
      let c = closed_by_body operators b in
      some (ap (λ k. k.frames) (same_Some m c.0 (sym e ∙ c.1)) ∙ c.2)
