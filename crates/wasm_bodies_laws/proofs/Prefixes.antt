-- The first operators of code that is judged: where the machine is after them, and where they lead to in the tree.
use Rattle.std.proofs.Common.{◌≡◌, ◌≢◌, ◌⊎◌, inl, inr, ⊎_elim, ℕ, List, [], ◌∷◌, ◌++◌, Option, Some, refl, sym, ap, subst, ◌∙◌}
use Rattle.std.proofs.lemmas.Option.{same_Some}
use Rattle.wasm_bodies.specs.BodyContext.{BodyContext}
use Rattle.wasm_bodies.specs.Bodies.{Code, done, simple, block, loop, if_then, if_else, flat, start_of, after_block, Judged, LeadsTo}
use Rattle.wasm_bodies.specs.Effects.{Labels}
use Rattle.wasm_bodies.specs.Operands.{State}
use Rattle.wasm_bodies.specs.Operators.{Operator, Block, Loop, If, Else, End}
use Rattle.wasm_bodies_laws.specs.Machine.{Frame, Machine, labels_of, stepped, run}
use Rattle.wasm_bodies_laws.proofs.Steps.{has_effect}
use Rattle.wasm_bodies_laws.proofs.Runs.{at_list, goes_on, block_opened, loop_opened, if_opened, choice_opened, runs_through, runs_past}

-- what is said of the value that there is
known : {A : Type 0} {P : A → Type 0} (o : Option A) (a : A) → o ≡ Some a → (b : A) × (o ≡ Some b) × P b → P a
known {P = P} o a e h = subst P (same_Some h.0 a (sym h.1 ∙ e)) h.2

pub some_open : {A : Type 0} (a : A) (others : List A) → a ∷ others ≢ []
some_open a others e = absurd cc

-- ---- lists of operators

-- the operators are all that stands in front, and at least one more
pub record IsPast (in_front : List (Operator ℕ) → List (Operator ℕ)) (after operators others : List (Operator ℕ)) : Type 0 where
  pub first : Operator ℕ
  pub more : List (Operator ℕ)
  pub whole : operators ≡ in_front (first ∷ more)
  pub rest : after ≡ first ∷ (more ++ others)

-- past an inner list, and the operator that ends it
past_list : (inner : Code) (closer : Operator ℕ) (after operators others : List (Operator ℕ)) → IsPast (flat inner) (closer ∷ after) operators others
    → (more : List (Operator ℕ)) × (operators ≡ flat inner (closer ∷ more)) × (after ≡ more ++ others)
past_list inner closer after operators others p =
    let same : p.first ≡ closer = cc (p.rest) in
    let next : after ≡ p.more ++ others = cc (p.rest) in
    (p.more, p.whole ∙ ap (λ x. flat inner (x ∷ p.more)) same, next)

past_more : (passed in_front : List (Operator ℕ) → List (Operator ℕ)) (after operators more others : List (Operator ℕ)) → operators ≡ passed more → IsPast in_front after more others
    → IsPast (λ xs. passed (in_front xs)) after operators others
past_more passed in_front after operators more others e p = record { first = p.first; more = p.more; whole = e ∙ ap passed p.whole; rest = p.rest }

-- the first one, and those after it
both_are : (operator first : Operator ℕ) (operators those : List (Operator ℕ)) → operator ≡ first → operators ≡ those → operator ∷ operators ≡ first ∷ those
both_are operator first operators those same e = ap (λ x. x ∷ operators) same ∙ ap (λ xs. first ∷ xs) e

module _ {R : Type 0} (cx : BodyContext R) where
  -- ---- where the machine is

  -- after the operators something is open, and its labels and its list are such
  pub record IsOpenAt (Leads : Labels R → State R → Type 0) (start : Machine R) (operators : List (Operator ℕ)) : Type 0 where
    pub machine : Machine R
    pub runs : run cx operators start ≡ Some machine
    pub is_open : machine.frames ≢ []
    pub leads : Leads (labels_of cx.items machine.frames) machine.now

  from_there : (There Leads : Labels R → State R → Type 0) (start there : Machine R) (operators others : List (Operator ℕ)) → run cx operators start ≡ run cx others there
      → ((at : Labels R) (last : State R) → There at last → Leads at last) → IsOpenAt There there others → IsOpenAt Leads start operators
  from_there There Leads start there operators others e lead o = record { machine = o.machine; runs = e ∙ o.runs; is_open = o.is_open; leads = lead _ _ o.leads }

  step_on : (start there : Machine R) (operator first : Operator ℕ) (operators : List (Operator ℕ)) → operator ≡ first → stepped cx start first ≡ Some there
      → run cx (operator ∷ operators) start ≡ run cx operators there
  step_on start there operator first operators same e = ap (λ x. run cx (x ∷ operators) start) same ∙ goes_on cx start there first operators e

  pass_by : (start there : Machine R) (operators those others : List (Operator ℕ)) → operators ≡ those → run cx those start ≡ run cx others there → run cx operators start ≡ run cx others there
  pass_by start there operators those others e r = ap (λ xs. run cx xs start) e ∙ r

  -- ---- what leads there in the tree, the machine does

  module _ (at : Labels R) (last : State R) where
    abbrev pub IsThere : Labels R → State R → Type 0
    IsThere labels now = (at ≡ labels) × (last ≡ now)

    arrives : (start there : Machine R) (operators others : List (Operator ℕ)) → run cx operators start ≡ run cx others there → IsOpenAt IsThere there others → IsOpenAt IsThere start operators
    arrives start there operators others e o = from_there IsThere IsThere start there operators others e (λ a m h. h) o

    pub reaches : (labels : Labels R) (s : State R) (code : Code) (end : State R) (operators : List (Operator ℕ)) (f : Frame R) (outer : List (Frame R))
        → labels_of cx.items (f ∷ outer) ≡ labels → Judged cx labels s code end → LeadsTo cx labels s code operators at last → IsOpenAt IsThere (at_list s (f ∷ outer)) operators
    reaches labels s code end [] f outer l j h = record { machine = at_list s (f ∷ outer); runs = refl; is_open = some_open f outer; leads = (h.0 ∙ sym l, h.1) }
    reaches labels s done end (operator ∷ operators) f outer l j h = absurd h
    reaches labels s (simple first rest) end (operator ∷ operators) f outer l j h =
        arrives (at_list s (f ∷ outer)) (at_list j.0 (f ∷ outer)) _ operators (step_on (at_list s (f ∷ outer)) (at_list j.0 (f ∷ outer)) operator first operators h.0 (has_effect cx f outer s j.0 first (rw l j.1)))
        (reaches labels j.0 rest end operators f outer l j.2 (known _ j.0 j.1 h.1))
    reaches labels s (block type inner rest) end (operator ∷ operators) f outer l j h =
        let b = j.0 in
        let o = block_opened cx labels s f outer type b l j.1 in
        let start = at_list s (f ∷ outer) in
        let inside = at_list (start_of b) (o.frame ∷ f ∷ outer) in
        let behind = at_list (after_block b) (f ∷ outer) in
        ⊎_elim
        (λ i. arrives start inside _ operators (step_on start inside operator (Block type) operators h.0 o.enters)
        (reaches (b.signature.results ∷ labels) (start_of b) inner j.2.0 operators o.frame (f ∷ outer) o.labels_are j.2.1 i))
        (λ p. arrives start behind _ p.0 (pass_by start behind _ _ p.0 (both_are operator (Block type) operators _ h.0 p.1) (runs_through cx labels s (block type inner done) (after_block b) f outer p.0 l (b, j.1, j.2, refl)))
        (reaches labels (after_block b) rest end p.0 f outer l j.3 p.2))
        (known _ b j.1 h.1)
    reaches labels s (loop type inner rest) end (operator ∷ operators) f outer l j h =
        let b = j.0 in
        let o = loop_opened cx labels s f outer type b l j.1 in
        let start = at_list s (f ∷ outer) in
        let inside = at_list (start_of b) (o.frame ∷ f ∷ outer) in
        let behind = at_list (after_block b) (f ∷ outer) in
        ⊎_elim
        (λ i. arrives start inside _ operators (step_on start inside operator (Loop type) operators h.0 o.enters)
        (reaches (b.signature.params ∷ labels) (start_of b) inner j.2.0 operators o.frame (f ∷ outer) o.labels_are j.2.1 i))
        (λ p. arrives start behind _ p.0 (pass_by start behind _ _ p.0 (both_are operator (Loop type) operators _ h.0 p.1) (runs_through cx labels s (loop type inner done) (after_block b) f outer p.0 l (b, j.1, j.2, refl)))
        (reaches labels (after_block b) rest end p.0 f outer l j.3 p.2))
        (known _ b j.1 h.1)
    reaches labels s (if_then type inner rest) end (operator ∷ operators) f outer l j h =
        let b = j.0 in
        let o = if_opened cx labels s f outer type b l j.1 j.3 in
        let start = at_list s (f ∷ outer) in
        let inside = at_list (start_of b) (o.frame ∷ f ∷ outer) in
        let behind = at_list (after_block b) (f ∷ outer) in
        ⊎_elim
        (λ i. arrives start inside _ operators (step_on start inside operator (If type) operators h.0 o.enters)
        (reaches (b.signature.results ∷ labels) (start_of b) inner j.2.0 operators o.frame (f ∷ outer) o.labels_are j.2.1 i))
        (λ p. arrives start behind _ p.0 (pass_by start behind _ _ p.0 (both_are operator (If type) operators _ h.0 p.1) (runs_through cx labels s (if_then type inner done) (after_block b) f outer p.0 l (b, j.1, j.2, j.3, refl)))
        (reaches labels (after_block b) rest end p.0 f outer l j.4 p.2))
        (known _ b j.1 h.1)
    reaches labels s (if_else type inner other rest) end (operator ∷ operators) f outer l j h =
        let b = j.0 in
        let c = choice_opened cx labels s f outer type b l j.1 in
        let o = c.first_list in
        let start = at_list s (f ∷ outer) in
        let inside = at_list (start_of b) (o.frame ∷ f ∷ outer) in
        let at_second = at_list (start_of b) (c.second ∷ f ∷ outer) in
        let behind = at_list (after_block b) (f ∷ outer) in
        ⊎_elim
        (λ i. arrives start inside _ operators (step_on start inside operator (If type) operators h.0 o.enters)
        (reaches (b.signature.results ∷ labels) (start_of b) inner j.2.0 operators o.frame (f ∷ outer) o.labels_are j.2.1 i))
        (⊎_elim
        (λ p. arrives start at_second _ p.0 (pass_by start at_second _ _ p.0 (both_are operator (If type) operators _ h.0 p.1) (runs_past cx labels s (f ∷ outer) (If type) b _ Else at_second o inner p.0 j.2))
        (reaches (b.signature.results ∷ labels) (start_of b) other j.3.0 p.0 c.second (f ∷ outer) c.second_labels j.3.1 p.2))
        (λ p. arrives start behind _ p.0 (pass_by start behind _ _ p.0 (both_are operator (If type) operators _ h.0 p.1) (runs_through cx labels s (if_else type inner other done) (after_block b) f outer p.0 l (b, j.1, j.2, j.3, refl)))
        (reaches labels (after_block b) rest end p.0 f outer l j.4 p.2)))
        (known _ b j.1 h.1)

  -- ---- what code begins with leads into it, or past it

  pub splits : (labels : Labels R) (s : State R) (code : Code) (end : State R) (f : Frame R) (outer : List (Frame R)) (after operators others : List (Operator ℕ))
      → labels_of cx.items (f ∷ outer) ≡ labels → Judged cx labels s code end → flat code after ≡ operators ++ others
      → IsOpenAt (LeadsTo cx labels s code operators) (at_list s (f ∷ outer)) operators ⊎ IsPast (flat code) after operators others
  splits labels s code end f outer after [] others l j e = inl (record { machine = at_list s (f ∷ outer); runs = refl; is_open = some_open f outer; leads = (l, refl) })
  splits labels s done end f outer after (operator ∷ operators) others l j e = inr (record { first = operator; more = operators; whole = refl; rest = e })
  splits labels s (simple first rest) end f outer after (operator ∷ operators) others l j e =
      let same : operator ≡ first = cc in
      let tail : flat rest after ≡ operators ++ others = cc in
      let start = at_list s (f ∷ outer) in
      let there = at_list j.0 (f ∷ outer) in
      ⊎_elim
      (λ i. inl (from_there _ _ start there _ operators (step_on start there operator first operators same (has_effect cx f outer s j.0 first (rw l j.1))) (λ a m k. (same, (j.0, j.1, k))) i))
      (λ p. inr (past_more (λ xs. first ∷ xs) (flat rest) after _ operators others (both_are operator first operators operators same refl) p))
      (splits labels j.0 rest end f outer after operators others l j.2 tail)
  splits labels s (block type inner rest) end f outer after (operator ∷ operators) others l j e =
      let same : operator ≡ Block type = cc in
      let tail : flat inner (End ∷ flat rest after) ≡ operators ++ others = cc in
      let b = j.0 in
      let o = block_opened cx labels s f outer type b l j.1 in
      let start = at_list s (f ∷ outer) in
      let inside = at_list (start_of b) (o.frame ∷ f ∷ outer) in
      let behind = at_list (after_block b) (f ∷ outer) in
      ⊎_elim
      (λ i. inl (from_there _ _ start inside _ operators (step_on start inside operator (Block type) operators same o.enters) (λ a m k. (same, (b, j.1, inl k))) i))
      (λ p.
      let n = past_list inner End (flat rest after) operators others p in
      let here = both_are operator (Block type) operators _ same n.1 in
      ⊎_elim
      (λ i. inl (from_there _ _ start behind _ n.0 (pass_by start behind _ _ n.0 here (runs_through cx labels s (block type inner done) (after_block b) f outer n.0 l (b, j.1, j.2, refl)))
      (λ a m k. (same, (b, j.1, inr (n.0, n.1, k)))) i))
      (λ q. inr (past_more (λ xs. Block type ∷ flat inner (End ∷ xs)) (flat rest) after _ n.0 others here q))
      (splits labels (after_block b) rest end f outer after n.0 others l j.3 n.2))
      (splits (b.signature.results ∷ labels) (start_of b) inner j.2.0 o.frame (f ∷ outer) (End ∷ flat rest after) operators others o.labels_are j.2.1 tail)
  splits labels s (loop type inner rest) end f outer after (operator ∷ operators) others l j e =
      let same : operator ≡ Loop type = cc in
      let tail : flat inner (End ∷ flat rest after) ≡ operators ++ others = cc in
      let b = j.0 in
      let o = loop_opened cx labels s f outer type b l j.1 in
      let start = at_list s (f ∷ outer) in
      let inside = at_list (start_of b) (o.frame ∷ f ∷ outer) in
      let behind = at_list (after_block b) (f ∷ outer) in
      ⊎_elim
      (λ i. inl (from_there _ _ start inside _ operators (step_on start inside operator (Loop type) operators same o.enters) (λ a m k. (same, (b, j.1, inl k))) i))
      (λ p.
      let n = past_list inner End (flat rest after) operators others p in
      let here = both_are operator (Loop type) operators _ same n.1 in
      ⊎_elim
      (λ i. inl (from_there _ _ start behind _ n.0 (pass_by start behind _ _ n.0 here (runs_through cx labels s (loop type inner done) (after_block b) f outer n.0 l (b, j.1, j.2, refl)))
      (λ a m k. (same, (b, j.1, inr (n.0, n.1, k)))) i))
      (λ q. inr (past_more (λ xs. Loop type ∷ flat inner (End ∷ xs)) (flat rest) after _ n.0 others here q))
      (splits labels (after_block b) rest end f outer after n.0 others l j.3 n.2))
      (splits (b.signature.params ∷ labels) (start_of b) inner j.2.0 o.frame (f ∷ outer) (End ∷ flat rest after) operators others o.labels_are j.2.1 tail)
  splits labels s (if_then type inner rest) end f outer after (operator ∷ operators) others l j e =
      let same : operator ≡ If type = cc in
      let tail : flat inner (End ∷ flat rest after) ≡ operators ++ others = cc in
      let b = j.0 in
      let o = if_opened cx labels s f outer type b l j.1 j.3 in
      let start = at_list s (f ∷ outer) in
      let inside = at_list (start_of b) (o.frame ∷ f ∷ outer) in
      let behind = at_list (after_block b) (f ∷ outer) in
      ⊎_elim
      (λ i. inl (from_there _ _ start inside _ operators (step_on start inside operator (If type) operators same o.enters) (λ a m k. (same, (b, j.1, inl k))) i))
      (λ p.
      let n = past_list inner End (flat rest after) operators others p in
      let here = both_are operator (If type) operators _ same n.1 in
      ⊎_elim
      (λ i. inl (from_there _ _ start behind _ n.0 (pass_by start behind _ _ n.0 here (runs_through cx labels s (if_then type inner done) (after_block b) f outer n.0 l (b, j.1, j.2, j.3, refl)))
      (λ a m k. (same, (b, j.1, inr (n.0, n.1, k)))) i))
      (λ q. inr (past_more (λ xs. If type ∷ flat inner (End ∷ xs)) (flat rest) after _ n.0 others here q))
      (splits labels (after_block b) rest end f outer after n.0 others l j.4 n.2))
      (splits (b.signature.results ∷ labels) (start_of b) inner j.2.0 o.frame (f ∷ outer) (End ∷ flat rest after) operators others o.labels_are j.2.1 tail)
  splits labels s (if_else type inner other rest) end f outer after (operator ∷ operators) others l j e =
      let same : operator ≡ If type = cc in
      let tail : flat inner (Else ∷ flat other (End ∷ flat rest after)) ≡ operators ++ others = cc in
      let b = j.0 in
      let c = choice_opened cx labels s f outer type b l j.1 in
      let o = c.first_list in
      let start = at_list s (f ∷ outer) in
      let inside = at_list (start_of b) (o.frame ∷ f ∷ outer) in
      let at_second = at_list (start_of b) (c.second ∷ f ∷ outer) in
      let behind = at_list (after_block b) (f ∷ outer) in
      ⊎_elim
      (λ i. inl (from_there _ _ start inside _ operators (step_on start inside operator (If type) operators same o.enters) (λ a m k. (same, (b, j.1, inl k))) i))
      (λ p.
      let n = past_list inner Else (flat other (End ∷ flat rest after)) operators others p in
      let here = both_are operator (If type) operators _ same n.1 in
      ⊎_elim
      (λ i. inl (from_there _ _ start at_second _ n.0 (pass_by start at_second _ _ n.0 here (runs_past cx labels s (f ∷ outer) (If type) b _ Else at_second o inner n.0 j.2))
      (λ a m k. (same, (b, j.1, inr (inl (n.0, n.1, k))))) i))
      (λ p.
      let t = past_list other End (flat rest after) n.0 others p in
      let whole = n.1 ∙ ap (λ xs. flat inner (Else ∷ xs)) t.1 in
      let there = both_are operator (If type) operators _ same whole in
      ⊎_elim
      (λ i. inl (from_there _ _ start behind _ t.0 (pass_by start behind _ _ t.0 there (runs_through cx labels s (if_else type inner other done) (after_block b) f outer t.0 l (b, j.1, j.2, j.3, refl)))
      (λ a m k. (same, (b, j.1, inr (inr (t.0, whole, k))))) i))
      (λ q. inr (past_more (λ xs. If type ∷ flat inner (Else ∷ flat other (End ∷ xs))) (flat rest) after _ t.0 others there q))
      (splits labels (after_block b) rest end f outer after t.0 others l j.4 t.2))
      (splits (b.signature.results ∷ labels) (start_of b) other j.3.0 c.second (f ∷ outer) (End ∷ flat rest after) n.0 others c.second_labels j.3.1 n.2))
      (splits (b.signature.results ∷ labels) (start_of b) inner j.2.0 o.frame (f ∷ outer) (Else ∷ flat other (End ∷ flat rest after)) operators others o.labels_are j.2.1 tail)
