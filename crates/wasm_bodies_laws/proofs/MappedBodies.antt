-- Bodies over mapped references, and what the first operators of bodies lead to: what holds before the map holds after it, and the other way round.
use Rattle.std.proofs.Common.{ℕ, ◌≡◌, ◌⊎◌, inl, inr, List, [], ◌∷◌, map, Option, Some, None, refl, sym, ap, ◌∙◌, subst}
use Rattle.std.proofs.lemmas.Option.{same_Some, none-some}
use Rattle.std.specs.Option.{option_and_then, option_map}
use Rattle.wasm_bodies.specs.BodyContext.{BodyContext}
use Rattle.wasm_bodies.specs.Bodies.{Code, done, simple, block, loop, if_then, if_else, flat, Entered, entered, start_of, after_block, IsExactly, IsTyped, IsBodyOf, Passes, LeadsTo}
use Rattle.wasm_bodies.specs.Effects.{Labels, effect}
use Rattle.wasm_bodies.specs.Operands.{State, taken, fresh}
use Rattle.wasm_bodies.specs.Operators.{BlockType, Operator, Block, Loop, If, Else, End}
use Rattle.wasm_bodies.proofs.Judging.{judge, complete, sound}
use Rattle.wasm_bodies_laws.specs.References.{AgreeOn, AreAllWanted, TakesAndGives, AreWantedIn, AreLabelsWanted, AreMapped, Below, context_map, state_map, labels_map, entered_map}
use Rattle.wasm_bodies_laws.proofs.HeldOptions.{held_at}
use Rattle.wasm_bodies_laws.proofs.MappedBlocks.{start_is, after_is, entered_is, if_entered_is, exactly_is, judge_is}
use Rattle.wasm_bodies_laws.proofs.MappedEffects.{effect_is}
use Rattle.wasm_bodies_laws.proofs.WantedTypes.{entered_wanted, if_entered_wanted}
use Rattle.wasm_spec.specs.TypeReferences.{val_map}
use Rattle.wasm_spec.specs.Types.{ValType, I32}

-- what a mapped option holds is the map of what the option holds
pub some_back : {A B : Type 0} (k : A → B) (o : Option A) (b : B) → option_map k o ≡ Some b → (a : A) × (o ≡ Some a) × (b ≡ k a)
some_back k None b e = absurd (none-some b e)
some_back k (Some a) b e = (a, refl, sym (same_Some (k a) b e))

-- what follows an operator that opens a block, whose label takes these types, as `LeadsTo` has it: it leads into the block's list, or past the block
abbrev GoesOn : {R : Type 0} → BodyContext R → List (ValType R) → Entered R → Labels R → Code → Code → List (Operator ℕ) → Labels R → State R → Type 0
GoesOn cx types b labels inner rest operators at last =
    LeadsTo cx (types ∷ labels) (start_of b) inner operators at last
    ⊎ Passes operators (λ others. flat inner (End ∷ others)) (λ others. LeadsTo cx labels (after_block b) rest others at last)

-- the same with a second list
abbrev GoesOnTwice : {R : Type 0} → BodyContext R → Entered R → Labels R → Code → Code → Code → List (Operator ℕ) → Labels R → State R → Type 0
GoesOnTwice cx b labels inner other rest operators at last =
    LeadsTo cx (b.signature.results ∷ labels) (start_of b) inner operators at last
    ⊎ (Passes operators (λ others. flat inner (Else ∷ others)) (λ others. LeadsTo cx (b.signature.results ∷ labels) (start_of b) other others at last)
    ⊎ Passes operators (λ others. flat inner (Else ∷ flat other (End ∷ others))) (λ others. LeadsTo cx labels (after_block b) rest others at last))

module _ {R S : Type 0} (Wanted : ValType R → Type 0) (f : R → S) (cx : BodyContext R) (below : Below S) (agree : AgreeOn Wanted f cx.items below) (wanted : AreWantedIn Wanted cx) where
  -- ---- what is entered takes and gives wanted types

  enters_wanted : (operator : Operator ℕ) (type : BlockType ℕ) (s : State R) (b : Entered R) → entered cx operator type s ≡ Some b → TakesAndGives Wanted b.signature
  enters_wanted operator type s b e = held_at _ (entered cx operator type s) b (entered_wanted Wanted cx wanted.items operator type s) e

  enters_if_wanted : (type : BlockType ℕ) (s : State R) (b : Entered R) → option_and_then (entered cx (If type) type) (taken cx.items I32 s) ≡ Some b → TakesAndGives Wanted b.signature
  enters_if_wanted type s b e =
      held_at _ (option_and_then (entered cx (If type) type) (taken cx.items I32 s)) b (if_entered_wanted Wanted cx wanted.items type s) e

  -- ---- whole bodies

  pub typed_along : (code : Code) → IsTyped cx code → IsTyped (context_map f cx below) code
  typed_along code t = (
    state_map f t.0,
    sound (context_map f cx below) _ _ code (state_map f t.0) (judge_is Wanted f cx below agree wanted code (cx.results ∷ []) (wanted.results, tt) (fresh [] []) ∙ ap (option_map (state_map f)) (complete cx (cx.results ∷ []) (fresh [] []) code t.0 t.1)),
    exactly_is Wanted f cx below agree cx.results wanted.results t.0 ∙ t.2,
  )

  pub typed_back : (code : Code) → IsTyped (context_map f cx below) code → IsTyped cx code
  typed_back code t =
      let led = complete (context_map f cx below) _ _ code t.0 t.1 in
      let p = some_back (state_map f) (judge cx (cx.results ∷ []) (fresh [] []) code) t.0 (sym (judge_is Wanted f cx below agree wanted code (cx.results ∷ []) (wanted.results, tt) (fresh [] [])) ∙ led) in (
        p.0,
        sound cx (cx.results ∷ []) (fresh [] []) code p.0 p.1,
        sym (exactly_is Wanted f cx below agree cx.results wanted.results p.0) ∙ subst (IsExactly (context_map f cx below).items (context_map f cx below).results) p.2 t.2,
      )

  pub body_along : (operators : List (Operator ℕ)) → IsBodyOf cx operators → IsBodyOf (context_map f cx below) operators
  body_along operators b = record { code = b.code; is_flat = b.is_flat; typed = typed_along b.code b.typed }

  pub body_back : (operators : List (Operator ℕ)) → IsBodyOf (context_map f cx below) operators → IsBodyOf cx operators
  body_back operators b = record { code = b.code; is_flat = b.is_flat; typed = typed_back b.code b.typed }

  -- ---- the first operators

  abbrev LeadsAlong : Code → Type 0
  LeadsAlong code =
      (labels : Labels R) → AreLabelsWanted Wanted labels → (s : State R) (operators : List (Operator ℕ)) (at : Labels R) (last : State R)
      → LeadsTo cx labels s code operators at last → LeadsTo (context_map f cx below) (labels_map f labels) (state_map f s) code operators (labels_map f at) (state_map f last)

  into_along : (code : Code) → LeadsAlong code → (types : List (ValType R)) → AreAllWanted Wanted types → (b : Entered R) (labels : Labels R) → AreLabelsWanted Wanted labels → (operators : List (Operator ℕ)) (at : Labels R) (last : State R) → LeadsTo cx (types ∷ labels) (start_of b) code operators at last → LeadsTo (context_map f cx below) (labels_map f (types ∷ labels)) (start_of (entered_map f b)) code operators (labels_map f at) (state_map f last)
  into_along code along types each b labels all operators at last h =
      subst (λ s. LeadsTo (context_map f cx below) (labels_map f (types ∷ labels)) s code operators (labels_map f at) (state_map f last)) (sym (start_is f b))
      (along (types ∷ labels) (each, all) (start_of b) operators at last h)

  past_along : (code : Code) → LeadsAlong code → (b : Entered R) (labels : Labels R) → AreLabelsWanted Wanted labels → (operators : List (Operator ℕ)) (at : Labels R) (last : State R) → LeadsTo cx labels (after_block b) code operators at last → LeadsTo (context_map f cx below) (labels_map f labels) (after_block (entered_map f b)) code operators (labels_map f at) (state_map f last)
  past_along code along b labels all operators at last h =
      subst (λ s. LeadsTo (context_map f cx below) (labels_map f labels) s code operators (labels_map f at) (state_map f last)) (sym (after_is f b))
      (along labels all (after_block b) operators at last h)

  goes_along : (inner rest : Code) → LeadsAlong inner → LeadsAlong rest → (types : List (ValType R)) → AreAllWanted Wanted types → (b : Entered R) (labels : Labels R) → AreLabelsWanted Wanted labels → (operators : List (Operator ℕ)) (at : Labels R) (last : State R) → GoesOn cx types b labels inner rest operators at last → GoesOn (context_map f cx below) (map (val_map f) types) (entered_map f b) (labels_map f labels) inner rest operators (labels_map f at) (state_map f last)
  goes_along inner rest inner_along rest_along types each b labels all operators at last (inl into) = inl (into_along inner inner_along types each b labels all operators at last into)
  goes_along inner rest inner_along rest_along types each b labels all operators at last (inr past) = inr (past.0, past.1, past_along rest rest_along b labels all past.0 at last past.2)

  effect_along : (labels : Labels R) → AreLabelsWanted Wanted labels → (s : State R) (operator : Operator ℕ) (m : State R) → effect cx labels s operator ≡ Some m → effect (context_map f cx below) (labels_map f labels) (state_map f s) operator ≡ Some (state_map f m)
  effect_along labels all s operator m e = effect_is Wanted f cx below agree wanted labels all s operator ∙ ap (option_map (state_map f)) e

  entered_along : (operator : Operator ℕ) (type : BlockType ℕ) (s : State R) (b : Entered R) → entered cx operator type s ≡ Some b → entered (context_map f cx below) operator type (state_map f s) ≡ Some (entered_map f b)
  entered_along operator type s b e = entered_is Wanted f cx below agree wanted.items operator type s ∙ ap (option_map (entered_map f)) e

  if_along : (type : BlockType ℕ) (s : State R) (b : Entered R) → option_and_then (entered cx (If type) type) (taken cx.items I32 s) ≡ Some b → option_and_then (entered (context_map f cx below) (If type) type) (taken (context_map f cx below).items I32 (state_map f s)) ≡ Some (entered_map f b)
  if_along type s b e = if_entered_is Wanted f cx below agree wanted.items type s ∙ ap (option_map (entered_map f)) e

  pub leads_along : (code : Code) → LeadsAlong code
  leads_along code labels all s [] at last h = (ap (labels_map f) h.0, ap (state_map f) h.1)
  leads_along done labels all s (operator ∷ operators) at last h = h
  leads_along (simple first rest) labels all s (operator ∷ operators) at last h =
      let m = h.1.0 in
      (h.0, (state_map f m, effect_along labels all s first m h.1.1, leads_along rest labels all m operators at last h.1.2))
  leads_along (block type inner rest) labels all s (operator ∷ operators) at last h =
      let b = h.1.0 in
      let both = enters_wanted (Block type) type s b h.1.1 in
      (h.0, (entered_map f b, entered_along (Block type) type s b h.1.1, goes_along inner rest (leads_along inner) (leads_along rest) b.signature.results both.1 b labels all operators at last h.1.2))
  leads_along (loop type inner rest) labels all s (operator ∷ operators) at last h =
      let b = h.1.0 in
      let both = enters_wanted (Loop type) type s b h.1.1 in
      (h.0, (entered_map f b, entered_along (Loop type) type s b h.1.1, goes_along inner rest (leads_along inner) (leads_along rest) b.signature.params both.0 b labels all operators at last h.1.2))
  leads_along (if_then type inner rest) labels all s (operator ∷ operators) at last h =
      let b = h.1.0 in
      let both = enters_if_wanted type s b h.1.1 in
      (h.0, (entered_map f b, if_along type s b h.1.1, goes_along inner rest (leads_along inner) (leads_along rest) b.signature.results both.1 b labels all operators at last h.1.2))
  leads_along (if_else type inner other rest) labels all s (operator ∷ operators) at last h =
      let b = h.1.0 in
      let both = enters_if_wanted type s b h.1.1 in (
        h.0,
        (
          entered_map f b,
          if_along type s b h.1.1,
          elim (h.1.2) [
            | inl into ↦ inl (into_along inner (leads_along inner) b.signature.results both.1 b labels all operators at last into)
            | inr (inl second) ↦ inr (inl (second.0, second.1, into_along other (leads_along other) b.signature.results both.1 b labels all second.0 at last second.2))
            | inr (inr past) ↦ inr (inr (past.0, past.1, past_along rest (leads_along rest) b labels all past.0 at last past.2))
          ],
        ),
      )

  -- ---- and back

  back_by : (at : Labels S) (last : State S) (P Q : Labels R → State R → Type 0) → ((from : Labels R) (reached : State R) → P from reached → Q from reached) → AreMapped f at last P → AreMapped f at last Q
  back_by at last P Q then b = (b.0, b.1, b.2, b.3, then b.0 b.1 b.4)

  abbrev LeadsBack : Code → Type 0
  LeadsBack code =
      (labels : Labels R) → AreLabelsWanted Wanted labels → (s : State R) (operators : List (Operator ℕ)) (at : Labels S) (last : State S)
      → LeadsTo (context_map f cx below) (labels_map f labels) (state_map f s) code operators at last → AreMapped f at last (LeadsTo cx labels s code operators)

  into_back : (code : Code) → LeadsBack code → (types : List (ValType R)) → AreAllWanted Wanted types → (b : Entered R) (labels : Labels R) → AreLabelsWanted Wanted labels → (operators : List (Operator ℕ)) (at : Labels S) (last : State S) → LeadsTo (context_map f cx below) (labels_map f (types ∷ labels)) (start_of (entered_map f b)) code operators at last → AreMapped f at last (LeadsTo cx (types ∷ labels) (start_of b) code operators)
  into_back code back types each b labels all operators at last h =
      back (types ∷ labels) (each, all) (start_of b) operators at last (subst (λ s. LeadsTo (context_map f cx below) (labels_map f (types ∷ labels)) s code operators at last) (start_is f b) h)

  past_back : (code : Code) → LeadsBack code → (b : Entered R) (labels : Labels R) → AreLabelsWanted Wanted labels → (operators : List (Operator ℕ)) (at : Labels S) (last : State S) → LeadsTo (context_map f cx below) (labels_map f labels) (after_block (entered_map f b)) code operators at last → AreMapped f at last (LeadsTo cx labels (after_block b) code operators)
  past_back code back b labels all operators at last h =
      back labels all (after_block b) operators at last (subst (λ s. LeadsTo (context_map f cx below) (labels_map f labels) s code operators at last) (after_is f b) h)

  goes_back : (inner rest : Code) → LeadsBack inner → LeadsBack rest → (types : List (ValType R)) → AreAllWanted Wanted types → (b : Entered R) (labels : Labels R) → AreLabelsWanted Wanted labels → (operators : List (Operator ℕ)) (at : Labels S) (last : State S) → GoesOn (context_map f cx below) (map (val_map f) types) (entered_map f b) (labels_map f labels) inner rest operators at last → AreMapped f at last (GoesOn cx types b labels inner rest operators)
  goes_back inner rest inner_back rest_back types each b labels all operators at last (inl into) =
      back_by at last _ _ (λ from reached l. inl l) (into_back inner inner_back types each b labels all operators at last into)
  goes_back inner rest inner_back rest_back types each b labels all operators at last (inr past) =
      back_by at last _ _ (λ from reached l. inr (past.0, past.1, l)) (past_back rest rest_back b labels all past.0 at last past.2)

  goes_back_twice : (inner other rest : Code) → LeadsBack inner → LeadsBack other → LeadsBack rest → (b : Entered R) → AreAllWanted Wanted b.signature.results → (labels : Labels R) → AreLabelsWanted Wanted labels → (operators : List (Operator ℕ)) (at : Labels S) (last : State S) → GoesOnTwice (context_map f cx below) (entered_map f b) (labels_map f labels) inner other rest operators at last → AreMapped f at last (GoesOnTwice cx b labels inner other rest operators)
  goes_back_twice inner other rest inner_back other_back rest_back b each labels all operators at last (inl into) =
      back_by at last _ _ (λ from reached l. inl l) (into_back inner inner_back b.signature.results each b labels all operators at last into)
  goes_back_twice inner other rest inner_back other_back rest_back b each labels all operators at last (inr (inl second)) =
      back_by at last _ _ (λ from reached l. inr (inl (second.0, second.1, l))) (into_back other other_back b.signature.results each b labels all second.0 at last second.2)
  goes_back_twice inner other rest inner_back other_back rest_back b each labels all operators at last (inr (inr past)) =
      back_by at last _ _ (λ from reached l. inr (inr (past.0, past.1, l))) (past_back rest rest_back b labels all past.0 at last past.2)

  effect_back : (labels : Labels R) → AreLabelsWanted Wanted labels → (s : State R) (operator : Operator ℕ) (m : State S) → effect (context_map f cx below) (labels_map f labels) (state_map f s) operator ≡ Some m → (n : State R) × (effect cx labels s operator ≡ Some n) × (m ≡ state_map f n)
  effect_back labels all s operator m e = some_back (state_map f) (effect cx labels s operator) m (sym (effect_is Wanted f cx below agree wanted labels all s operator) ∙ e)

  entered_back : (operator : Operator ℕ) (type : BlockType ℕ) (s : State R) (b : Entered S) → entered (context_map f cx below) operator type (state_map f s) ≡ Some b → (n : Entered R) × (entered cx operator type s ≡ Some n) × (b ≡ entered_map f n)
  entered_back operator type s b e = some_back (entered_map f) (entered cx operator type s) b (sym (entered_is Wanted f cx below agree wanted.items operator type s) ∙ e)

  if_back : (type : BlockType ℕ) (s : State R) (b : Entered S) → option_and_then (entered (context_map f cx below) (If type) type) (taken (context_map f cx below).items I32 (state_map f s)) ≡ Some b → (n : Entered R) × (option_and_then (entered cx (If type) type) (taken cx.items I32 s) ≡ Some n) × (b ≡ entered_map f n)
  if_back type s b e = some_back (entered_map f) (option_and_then (entered cx (If type) type) (taken cx.items I32 s)) b (sym (if_entered_is Wanted f cx below agree wanted.items type s) ∙ e)

  pub leads_back : (code : Code) → LeadsBack code
  leads_back code labels all s [] at last h = (labels, s, h.0, h.1, (refl, refl))
  leads_back done labels all s (operator ∷ operators) at last h = absurd h
  leads_back (simple first rest) labels all s (operator ∷ operators) at last h =
      let p = effect_back labels all s first h.1.0 h.1.1 in
      let led = subst (λ m. LeadsTo (context_map f cx below) (labels_map f labels) m rest operators at last) p.2 h.1.2 in
      back_by at last _ _ (λ from reached l. (h.0, (p.0, p.1, l))) (leads_back rest labels all p.0 operators at last led)
  leads_back (block type inner rest) labels all s (operator ∷ operators) at last h =
      let p = entered_back (Block type) type s h.1.0 h.1.1 in
      let both = enters_wanted (Block type) type s p.0 p.1 in
      let goes = subst (λ b. GoesOn (context_map f cx below) b.signature.results b (labels_map f labels) inner rest operators at last) p.2 h.1.2 in
      back_by at last _ _ (λ from reached l. (h.0, (p.0, p.1, l))) (goes_back inner rest (leads_back inner) (leads_back rest) p.0.signature.results both.1 p.0 labels all operators at last goes)
  leads_back (loop type inner rest) labels all s (operator ∷ operators) at last h =
      let p = entered_back (Loop type) type s h.1.0 h.1.1 in
      let both = enters_wanted (Loop type) type s p.0 p.1 in
      let goes = subst (λ b. GoesOn (context_map f cx below) b.signature.params b (labels_map f labels) inner rest operators at last) p.2 h.1.2 in
      back_by at last _ _ (λ from reached l. (h.0, (p.0, p.1, l))) (goes_back inner rest (leads_back inner) (leads_back rest) p.0.signature.params both.0 p.0 labels all operators at last goes)
  leads_back (if_then type inner rest) labels all s (operator ∷ operators) at last h =
      let p = if_back type s h.1.0 h.1.1 in
      let both = enters_if_wanted type s p.0 p.1 in
      let goes = subst (λ b. GoesOn (context_map f cx below) b.signature.results b (labels_map f labels) inner rest operators at last) p.2 h.1.2 in
      back_by at last _ _ (λ from reached l. (h.0, (p.0, p.1, l))) (goes_back inner rest (leads_back inner) (leads_back rest) p.0.signature.results both.1 p.0 labels all operators at last goes)
  leads_back (if_else type inner other rest) labels all s (operator ∷ operators) at last h =
      let p = if_back type s h.1.0 h.1.1 in
      let both = enters_if_wanted type s p.0 p.1 in
      let goes = subst (λ b. GoesOnTwice (context_map f cx below) b (labels_map f labels) inner other rest operators at last) p.2 h.1.2 in
      back_by at last _ _ (λ from reached l. (h.0, (p.0, p.1, l))) (goes_back_twice inner other rest (leads_back inner) (leads_back other) (leads_back rest) p.0 both.1 labels all operators at last goes)
