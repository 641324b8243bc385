-- Testing which operands are there, from the last one on.
use Rattle.std.proofs.Common.{◌≡◌, ◌≤◌, ℕ, ◌+◌, ◌-◌, ◌<◌, Bool, true, false, List, [], ◌∷◌, ◌++◌, length, get_or, take, reverse, refl, sym, ap, subst, ◌∙◌, Option, Some, None, arith}
use Rattle.std.specs.Prelude.{slice_get}
use Rattle.std.specs.Option.{option_and_then}
use Rattle.std.proofs.Math.ListN.{drop_of_length-le}
use Rattle.std.proofs.lemmas.List.{reverse-append, take_more}
use Rattle.std.proofs.lemmas.Option.{get_or_from_slice_get}
use Rattle.wasm_bodies.specs.BodyContext.{ModuleItems}
use Rattle.wasm_bodies.specs.Operands.{Operand, State, fits, popped, popped_from, taken, each_taken, all_taken}
use Rattle.wasm_spec.specs.Types.{ValType}
use Rattle.wasmparser_bodies.specs.StackChanges.{lowered}

-- where nothing is known of an open list, operands of any types are there
pub any_taken : {R : Type 0} (items : ModuleItems R) (types : List (ValType R)) (s : State R) → s.known ≡ [] → s.is_open ≡ true → each_taken items types s ≡ Some s
any_taken items [] s k o = refl
any_taken items (type ∷ types) s k o =
    let here : taken items type s ≡ Some s = rw (k, o) refl in
    rw here (any_taken items types s k o)

none_known : {R : Type 0} (n : ℕ) (s : State R) → length s.known ≤ n → (lowered n s).known ≡ []
none_known n s h = drop_of_length-le s.known h

-- no more than all known operands are left out
past_all : {R : Type 0} (n m : ℕ) (s : State R) → length s.known ≤ n → n ≤ m → lowered n s ≡ lowered m s
past_all n m s h le = ap (λ known. record s { known = known }) (none_known n s h ∙ sym (none_known m s (omega (arith, h, le))))

-- what is popped where nothing is known is popped of an open list
popped_open : {R : Type 0} (known : List (Operand R)) (m : State R) (x : Operand R) (after : State R) → known ≡ [] → popped_from known m ≡ Some (x, after) → m.is_open ≡ true
popped_open [] m x after k is = by_flag m.is_open refl
  where
    by_flag : (b : Bool) → m.is_open ≡ b → m.is_open ≡ true
    by_flag true e = e
    by_flag false e = let f = rw e at is in absurd cc
popped_open (y ∷ known) m x after k is = absurd cc

open_from : {R : Type 0} (n : ℕ) (s : State R) (x : Operand R) (after : State R) → (lowered n s).known ≡ [] → popped (lowered n s) ≡ Some (x, after) → s.is_open ≡ true
open_from n s x after k is = popped_open (lowered n s).known (lowered n s) x after k is

module _ {R : Type 0} (items : ModuleItems R) where
  -- operands of the first types are taken after that of the next one
  pub all_taken-last : (types : List (ValType R)) (i : ℕ) (d : ValType R) (s : State R) → i < length types
      → all_taken items (take (i + 1) types) s ≡ option_and_then (all_taken items (take i types)) (taken items (get_or types i d) s)
  all_taken-last types i d s h =
      ap (λ l. each_taken items (reverse l) s) (take_more types i d h) ∙ ap (λ l. each_taken items l s) (reverse-append (take i types) (get_or types i d ∷ []))

  taken_below : (type : ValType R) (s : State R) (n : ℕ) (x : Operand R) → popped (lowered n s) ≡ Some (x, lowered (n + 1) s) → fits items type x ≡ true
      → taken items type (lowered n s) ≡ Some (lowered (n + 1) s)
  taken_below type s n x p f = rw (p, f) refl

  pub unfit_below : (type : ValType R) (s : State R) (n : ℕ) (x : Operand R) → popped (lowered n s) ≡ Some (x, lowered (n + 1) s) → fits items type x ≡ false → taken items type (lowered n s) ≡ None
  unfit_below type s n x p f = rw (p, f) refl

  pub none_below : (type : ValType R) (s : State R) (n : ℕ) → popped (lowered n s) ≡ None → taken items type (lowered n s) ≡ None
  none_below type s n p = rw p refl

  -- Operands of the last types are there, below some, and those of the first l are left to be tested.
  module _ (types : List (ValType R)) (above : ℕ) (s : State R) (count l : ℕ) (counted : count ≡ length types) (some : 0 < l) (within : l ≤ length types)
      (same : all_taken items (take l types) (lowered (above + (length types - l)) s) ≡ all_taken items types (lowered above s)) where
    step_is : (t : ValType R) (o : Option (State R)) → Some t ≡ slice_get types (l - 1) → taken items t (lowered (above + (count - l)) s) ≡ o
        → option_and_then (all_taken items (take (l - 1) types)) o ≡ all_taken items types (lowered above s)
    step_is t o at is =
        let back : (l - 1) + 1 ≡ l = omega (arith, some) in
        let here : get_or types (l - 1) t ≡ t = get_or_from_slice_get types (l - 1) t t (sym at) in
        let depth : above + (length types - l) ≡ above + (count - l) = ap (λ n. above + (n - l)) (sym counted) in
        let split = all_taken-last types (l - 1) t (lowered (above + (count - l)) s) (omega (arith, some, within)) in
        let was : all_taken items (take ((l - 1) + 1) types) (lowered (above + (count - l)) s) ≡ all_taken items types (lowered above s) =
        subst (λ n. all_taken items (take n types) (lowered (above + (count - l)) s) ≡ all_taken items types (lowered above s)) (sym back)
        (subst (λ n. all_taken items (take l types) (lowered n s) ≡ all_taken items types (lowered above s)) depth same) in
        ap (option_and_then (all_taken items (take (l - 1) types))) (sym is ∙ ap (λ type. taken items type (lowered (above + (count - l)) s)) (sym here)) ∙ sym split ∙ was

    pub goes_on : (t : ValType R) (x : Operand R) → Some t ≡ slice_get types (l - 1) → popped (lowered (above + (count - l)) s) ≡ Some (x, lowered (above + (count - l) + 1) s) → fits items t x ≡ true
        → all_taken items (take (l - 1) types) (lowered (above + (length types - (l - 1))) s) ≡ all_taken items types (lowered above s)
    goes_on t x at p f =
        let next : above + (count - l) + 1 ≡ above + (length types - (l - 1)) = omega (arith, counted, some, within) in
        subst (λ n. all_taken items (take (l - 1) types) (lowered n s) ≡ all_taken items types (lowered above s)) next
        (step_is t (Some (lowered (above + (count - l) + 1) s)) at (taken_below t s (above + (count - l)) x p f))

    pub stops : (t : ValType R) → Some t ≡ slice_get types (l - 1) → taken items t (lowered (above + (count - l)) s) ≡ None → all_taken items types (lowered above s) ≡ None
    stops t at is = sym (step_is t None at is)

    -- none of those that are left is known, and the list is open
    pub past_known : (x : Operand R) → popped (lowered (above + (count - l)) s) ≡ Some (x, lowered (above + (count - l) + 1) s) → length s.known ≤ above + (count - l)
        → all_taken items types (lowered above s) ≡ Some (lowered (above + length types) s)
    past_known x is none =
        let none' : length s.known ≤ above + (length types - l) = omega (arith, counted, none) in
        let opened : s.is_open ≡ true = open_from (above + (count - l)) s x _ (none_known (above + (count - l)) s none) is in
        sym same ∙ any_taken items (reverse (take l types)) (lowered (above + (length types - l)) s) (none_known (above + (length types - l)) s none') opened
        ∙ ap (λ m. Some m) (past_all (above + (length types - l)) (above + length types) s none' (omega (arith, within)))

-- the last one is taken first
pub all_taken-more : {R : Type 0} (items : ModuleItems R) (types : List (ValType R)) (type : ValType R) (s : State R)
    → all_taken items (types ++ type ∷ []) s ≡ option_and_then (all_taken items types) (taken items type s)
all_taken-more items types type s = ap (λ l. each_taken items l s) (reverse-append types (type ∷ []))
