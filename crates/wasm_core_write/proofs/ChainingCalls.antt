-- A chaining call of any builder: its code, what it promises, and what the call that it makes promises.
--     Passed n       an argument, as the code hands it on:  held x, where it is;  moved x, through a local of its own
--     Chains n os R ps      the statement that `ChainsOf..` prove, of a builder with the row `R` and arguments `ps` at the `n` lifetimes after the builder's, of which some outlive others
use Rattle.std.proofs.Common.{◌≡◌, ℕ, List, [], ◌∷◌, MutBor}
use base.Logic.{sep, emp}
use mir.Syntax.{Body, Callee, Fn, Local, Opd, erased, named, local, value_local, w8, call, seq, assign, addr_of, deref, switch, arm, no_default, aggregate, int, rv_opd, variant, field, return, copy, place}
use prog.Model.{Model}
use prog.Wp.{Closed}
use seplogic.Ra.Ura.{Ura}
use types.Logic.{Logic, sem}
use contract.Lifetimes.{Lfts, Outlives, bounds_of}
use contract.Monad.{fact}
use contract.Running.{tables, Running}
use denote.Builtin.{unit}
use denote.Exit.{yes, no}
use denote.Param.{layout}
use denote.RattleType.{Denots, RattleType}
use denote.Ref.{MutRef}
use denote.Signature.{Slot, plain, mut_ref_to, types_at}
use denote.Triple.Clauses.{Clauses, Ended, closing}
use denote.Triple.End.{Kepts}
use denote.Triple.Entry.{Args}
use denote.Triple.Spec.{Meets}
use denote.Triple.Walked.{Stays, stay_dropped}
use Prim.Native.Nat.{suc}
use Rattle.std.specs.Borrow.{LendsIfOk}
use Rattle.std.specs.Prelude.{Result, IfOk, IfErr}
use Rattle.std.specs.contracts.result.Result as RS
use Rattle.wasm_core_write.specs.contracts.encode_error.EncodeError.{the_row as error_row}
use Rattle.wasm_core_write.proofs.Chains.{Error, Done, with_ok}
use Rattle.wasm_core_write.proofs.ChainArguments.{Argument, slot_of}

-- a local variable of a row with one machine value
abbrev of_row : RattleType → Local
of_row row = local (layout row) value_local

abbrev pub result_of : RattleType → RattleType
result_of row = RS.the_row row error_row

pub data Passed (n : ℕ) : Type 2 where
  held : Argument n → Passed n
  moved : Argument n → Passed n

abbrev pub argument : {n : ℕ} → Passed n → Argument n
argument (held x) = x
argument (moved x) = x

-- the parameters' locals, and then others
abbrev params_of : {n : ℕ} → List (Passed n) → List Local → List Local
params_of [] ls = ls
params_of (p ∷ ps) ls = local (argument p).type value_local ∷ params_of ps ls

-- the locals that arguments are moved to, and then others
abbrev moved_of : {n : ℕ} → List (Passed n) → List Local → List Local
moved_of [] ls = ls
moved_of (held x ∷ ps) ls = moved_of ps ls
moved_of (moved x ∷ ps) ls = local x.moved value_local ∷ moved_of ps ls

-- the local after the arguments', of which `i` is the first
abbrev past : {n : ℕ} → List (Passed n) → ℕ → ℕ
past [] i = i
past (p ∷ ps) i = past ps (suc i)

-- the local after those that arguments are moved to, of which `i` is the first
abbrev past_moved : {n : ℕ} → List (Passed n) → ℕ → ℕ
past_moved [] i = i
past_moved (held x ∷ ps) i = past_moved ps i
past_moved (moved x ∷ ps) i = past_moved ps (suc i)

-- what the call is made with: the parameters' locals begin at `i`, and those that they are moved to at `j`
abbrev operands : {n : ℕ} → List (Passed n) → ℕ → ℕ → List Opd
operands [] i j = []
operands (held x ∷ ps) i j = copy (place i []) ∷ operands ps (suc i) j
operands (moved x ∷ ps) i j = copy (place j []) ∷ operands ps (suc i) (suc j)

-- the moves, and then `body`
abbrev moves_then : {n : ℕ} → List (Passed n) → ℕ → ℕ → Body → Body
moves_then [] i j body = body
moves_then (held x ∷ ps) i j body = moves_then ps (suc i) j body
moves_then (moved x ∷ ps) i j body = seq (assign (place j []) (rv_opd (copy (place i [])))) (moves_then ps (suc i) (suc j) body)

abbrev slots_of : {n : ℕ} → List (Passed n) → List (Slot (suc n))
slots_of [] = []
slots_of (p ∷ ps) = slot_of (argument p) ∷ slots_of ps

abbrev all_kept : {n : ℕ} (ps : List (Passed n)) → Kepts (slots_of ps)
all_kept [] = tt
all_kept (p ∷ ps) = (yes, all_kept ps)

abbrev all_stay : {n : ℕ} (ps : List (Passed n)) → Stays (slots_of ps) (all_kept ps)
all_stay [] = tt
all_stay (p ∷ ps) = (stay_dropped (slot_of (argument p)) yes, all_stay ps)

-- the same arguments at another lifetime of the builder, which their types don't name
abbrev pub lent_with : {n : ℕ} (ps : List (Passed n)) (κs : Lfts (suc n)) (α : List ℕ) → Denots (types_at (slots_of ps) κs) → Denots (types_at (slots_of ps) (α, κs.1))
lent_with [] κs α a = tt
lent_with (p ∷ ps) κs α a = (a.0, lent_with ps κs α a.1)

module _ (n : ℕ) (os : List (Outlives (suc n))) (R : RattleType) (ps : List (Passed n)) where
  abbrev pub self : Slot (suc n)
  self = mut_ref_to (0 ∷ []) tt (plain (λ _. R))

  -- the code after the moves, with these values in the locals of these numbers
  abbrev tail_of : Callee → ℕ → ℕ → ℕ → ℕ → ℕ → Body
  tail_of callee error answer lent result reference =
      seq (call callee (copy (place lent []) ∷ operands ps 2 (suc lent)) (place answer []))
      (seq (switch (copy (place answer (variant 0 ∷ field 0 ∷ [])))
      (arm (0 ∷ []) (seq (assign (place reference []) (addr_of (place 1 (deref (layout R) ∷ [])))) (assign (place result []) (aggregate (int w8 0 ∷ copy (place reference []) ∷ []))))
      (arm (1 ∷ []) (seq (assign (place error []) (rv_opd (copy (place answer (variant 1 ∷ field 1 ∷ []))))) (assign (place result []) (aggregate (int w8 1 ∷ copy (place error []) ∷ []))))
      no_default)))
      (seq (assign (place 0 []) (rv_opd (copy (place result [])))) return))

  abbrev body_of : Callee → ℕ → ℕ → Body
  body_of callee error result = let lent = suc (suc error) in
      seq (assign (place lent []) (addr_of (place 1 (deref (layout R) ∷ []))))
      (moves_then ps 2 (suc lent) (tail_of callee error (suc error) lent result (suc result)))

  -- the compiled function, but for what it calls
  abbrev pub function : Callee → Fn
  function callee = record {
    lifetimes = suc n;
    outlives = bounds_of (suc n) os;
    ty_params = [];
    givens = 0;
    params = past ps 1;
    locals = of_row (result_of (MutRef (named 0) [] R)) ∷ of_row (MutRef (named 0) [] R) ∷ params_of ps (of_row error_row ∷ of_row (result_of unit)
        ∷ of_row (MutRef erased [] R) ∷ moved_of ps (of_row (result_of (MutRef erased [] R)) ∷ of_row (MutRef erased [] R) ∷ []));
    body = body_of callee (past ps 2) (past_moved ps (past ps 5));
  }

  abbrev pub chaining : Ended
  chaining = record {
    signature = record { lifetimes = suc n; outlives = os; params = self ∷ slots_of ps; result = plain (λ κs. result_of (MutRef (named 0) κs.0 R)) };
    kept = (no, all_kept ps);
  }

  -- the call that it makes
  abbrev pub adding : Ended
  adding = record {
    signature = record { lifetimes = suc n; outlives = os; params = self ∷ slots_of ps; result = plain (λ κs. result_of unit) };
    kept = (yes, all_kept ps);
  }

  abbrev pub stayed : Stays chaining.signature.params chaining.kept
  stayed = (stay_dropped self no, all_stay ps)

  -- `A` says what becomes of the builder, `W` when a call is refused
  module _ {M : Type 1} {𝓤 : Ura M} (𝓛 : Logic 𝓤) (A : (κs : Lfts (suc n)) → Args adding.signature κs → MutBor R.Denot → Type 0) where
    abbrev pub added : (W : (κs : Lfts (suc n)) → Args adding.signature κs → Done → Type 0) → Clauses 𝓤 adding
    added W κs a = record {
      ghost = Unit {0};
      requires = λ t. emp 𝓤;
      ensures = λ t res end. sep 𝓤 (fact 𝓤 (IfOk res (λ _. A κs a (record a.0 { now = end.0.now }))))
          (sep 𝓤 (fact 𝓤 (IfErr res (λ e. end.0.now ≡ a.0.now))) (fact 𝓤 (W κs a res)));
    }

    abbrev pub chained : (W : (κs : Lfts (suc n)) → Args adding.signature κs → Result (MutBor R.Denot) Error → Type 0) → Clauses 𝓤 chaining
    chained W κs a = record {
      ghost = Unit {0};
      requires = λ t. emp 𝓤;
      ensures = λ t res end. sep 𝓤 (sem 𝓛 (LendsIfOk R R a.0 res (λ w. w) a.0.now)) (sep 𝓤 (fact 𝓤 (IfOk res (λ s. s.ghost_name ≡ a.0.ghost_name)))
          (sep 𝓤 (fact 𝓤 (IfOk res (λ s. A κs a s))) (fact 𝓤 (W κs a res))));
    }

  -- the chaining call keeps its promise where the call that it makes does; the lent builder is another name for the builder, at a shorter lifetime `α`
  abbrev pub Chains : {M : Type 1} (𝓤 : Ura M) (𝓛 : Logic 𝓤) (𝓜 : Model 𝓤 𝓛.H) → Running 𝓤 𝓛.H 𝓜 → Type 2
  Chains 𝓤 𝓛 𝓜 𝓡 = (callee name : Callee)
      (W : (κs : Lfts (suc n)) → Args adding.signature κs → Done → Type 0)
      (A : (κs : Lfts (suc n)) → Args adding.signature κs → MutBor R.Denot → Type 0)
      (W' : (κs : Lfts (suc n)) → Args adding.signature κs → Result (MutBor R.Denot) Error → Type 0)
      → ((κs : Lfts (suc n)) (a : Args adding.signature κs) (α : List ℕ) (δ : ℕ) (new : R.Denot)
      → A (α, κs.1) (record a.0 { ghost_name = δ }, lent_with ps κs α a.1) (record a.0 { ghost_name = δ; now = new }) → A κs a (record a.0 { now = new }))
      → ((κs : Lfts (suc n)) (a : Args adding.signature κs) (α : List ℕ) (δ : ℕ) (s : MutBor R.Denot) (u : Done)
      → W (α, κs.1) (record a.0 { ghost_name = δ }, lent_with ps κs α a.1) u → W' κs a (with_ok s u))
      → Closed 𝓤 𝓛.H (tables 𝓤 𝓛.H 𝓜 𝓡 𝓡.env).C (tables 𝓤 𝓛.H 𝓜 𝓡 𝓡.env).Λ name (function callee)
      → Meets 𝓛 adding.signature (𝓡.run (𝓡.env callee)) (closing 𝓛 adding (added 𝓛 A W))
      → Meets 𝓛 chaining.signature (𝓡.run (𝓡.env name)) (closing 𝓛 chaining (chained 𝓛 A W'))
