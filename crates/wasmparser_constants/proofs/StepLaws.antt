-- What operators do with the operands.
use Rattle.std.proofs.Common.{◌≡◌, ℕ, IfErr, IfOk, Err, Ok, Result, List, [], ◌∷◌, ◌++◌, Option, Some, None, refl, ap, subst, sym, ◌∙◌}
use Rattle.std.proofs.lemmas.List.{append_assoc}
use Rattle.std.specs.Prelude.{⊤}
use Rattle.wasm_spec.specs.Constants.{ConstantExpression, ConstantOperator}
use Rattle.wasm_spec.specs.Features.{Features}
use Rattle.wasm_spec.specs.Trees.{DefType}
use Rattle.wasm_spec.specs.Types.{ValType, I32, I64, F32, F64, V128, Ref}
use Rattle.wasm_spec.specs.TypeReferences.{val_refs}
use Rattle.wasm_validity.specs.ConstantTyping.{Converts, Does, Effect, IsConstantOf, Leaves, Operands, Puts, Runs, TakesOff, effect}
use Rattle.wasm_validity.specs.Context.{Context}
use Rattle.wasmparser_constants.proofs.TakingLaws.{refuses_on}
use Rattle.wasmparser_constants.specs.Operands.{Operands as Kept, AreKnown, meant, meant_type}
use Rattle.wasmparser_constants.specs.Steps.{BeginsRightly, IsStuck, Leads, MayStand, Refuses, Steps}
use Rattle.wasmparser_error.specs.declared.error.Error.{Error}
use Rattle.wasmparser_error.specs.declared.error.ErrorKind.TheVariants as kinds
use Rattle.wasmparser_module_types.specs.ModuleTypes.{KnownTypes, AreIds}
use Rattle.wasmparser_types.specs.Index.{Index}

-- ---- operands that are taken off

taken_on : {P Q : Operands → Type 0} → ((others : Operands) → P others → Q others) → (types : List (ValType DefType)) (operands : Operands) → TakesOff types operands P → TakesOff types operands Q
taken_on f [] operands t = f operands t
taken_on f (type ∷ types) [] t = t
taken_on f (type ∷ types) (operand ∷ operands) t = (t.0, taken_on f types operands t.1)

taken_at : (P : Operands → Type 0) (types : List (ValType DefType)) (operands left : Operands) → TakesOff types operands (λ others. others ≡ left) → TakesOff types operands P → P left
taken_at P [] operands left e p = subst P e p
taken_at P (type ∷ types) [] left e p = absurd e
taken_at P (type ∷ types) (operand ∷ operands) left e p = taken_at P types operands left e.1 p.1

-- ---- operators

pub does_on : {P Q : Operands → Type 0} → ((next : Operands) → P next → Q next) → (effect : Option Effect) (operands : Operands) → Does effect operands P → Does effect operands Q
does_on f None operands d = d
does_on f (Some (Puts takes type)) operands d = taken_on (λ others p. f (type ∷ others) p) takes operands d
does_on f (Some (Converts from to)) (Ref nullable heap ∷ operands) d = (d.0, f _ d.1)
does_on f (Some (Converts from to)) [] d = d
does_on f (Some (Converts from to)) (I32 ∷ operands) d = d
does_on f (Some (Converts from to)) (I64 ∷ operands) d = d
does_on f (Some (Converts from to)) (F32 ∷ operands) d = d
does_on f (Some (Converts from to)) (F64 ∷ operands) d = d
does_on f (Some (Converts from to)) (V128 ∷ operands) d = d

-- ---- an operand that is put there

module _ (known : KnownTypes) (place : ℕ) where
  pub puts_pushed : (takes : List (ValType DefType)) (old mid new : Kept) (type : ValType Index) (result : Result (Unit {0}) Error)
      → TakesOff takes (meant known old) (λ others. others ≡ meant known mid) → AreKnown known mid → AreIds known (val_refs type)
      → IfOk result (λ _. new ≡ type ∷ mid) → IfErr result (λ e. (e ≡ record { offset = 0; kind = kinds.Memory }) × (new ≡ mid))
      → Steps known place (Some (Puts takes (meant_type known type))) old result new
  puts_pushed takes old mid new type (Ok x) taken are ids pushed refused =
      (taken_on (λ others e. ap (λ os. meant_type known type ∷ os) e ∙ ap (meant known) (sym pushed)) takes (meant known old) taken, subst (AreKnown known) (sym pushed) (ids, are))
  puts_pushed takes old mid new type (Err e) taken are ids pushed refused = rw (refused.0) (taken_on (λ others e. tt) takes (meant known old) taken, refl)

  -- operands that can't be taken off
  pub puts_stuck : (takes : List (ValType DefType)) (type : ValType DefType) (old new : Kept) (e : Error)
      → Refuses place (¬ (TakesOff takes (meant known old) (λ others. ⊤))) ⊥ e.kind e.offset → Steps known place (Some (Puts takes type)) old (Err e) new
  puts_stuck takes type old new e refuses = refuses_on place e.kind e.offset (λ stuck may. stuck (taken_on (λ others t. tt) takes (meant known old) may)) (λ none. absurd none) refuses

-- ---- operators one after the other

does_at : (P : Operands → Type 0) (effect : Option Effect) (operands next : Operands) → Leads effect operands next → Does effect operands P → P next
does_at P None operands next leads d = absurd d
does_at P (Some (Puts takes type)) operands next leads d = at_taken takes operands leads d
  where
    at_taken : (types : List (ValType DefType)) (os : Operands) → TakesOff types os (λ others. type ∷ others ≡ next) → TakesOff types os (λ others. P (type ∷ others)) → P next
    at_taken [] os e p = subst P e p
    at_taken (t ∷ ts) [] e p = absurd e
    at_taken (t ∷ ts) (o ∷ os) e p = at_taken ts os e.1 p.1
does_at P (Some (Converts from to)) (Ref nullable heap ∷ operands) next leads d = subst P leads.1 d.1
does_at P (Some (Converts from to)) [] next leads d = absurd d
does_at P (Some (Converts from to)) (I32 ∷ operands) next leads d = absurd d
does_at P (Some (Converts from to)) (I64 ∷ operands) next leads d = absurd d
does_at P (Some (Converts from to)) (F32 ∷ operands) next leads d = absurd d
does_at P (Some (Converts from to)) (F64 ∷ operands) next leads d = absurd d
does_at P (Some (Converts from to)) (V128 ∷ operands) next leads d = absurd d

-- what is left of an expression after these operands gives a value of the type where all of it does, and what came before leaves them
pub record IsAsGood (features : Features) (cx : Context) (known : KnownTypes) (wanted : ValType DefType) (all rest : ConstantExpression) (now : Kept) : Type 0 where
  pub are_known : AreKnown known now
  pub to : IsConstantOf features cx wanted all → Runs features cx rest (meant known now) (Leaves wanted)
  pub back : Runs features cx rest (meant known now) (Leaves wanted) → IsConstantOf features cx wanted all
  pub front : ConstantExpression
  pub parts : all ≡ front ++ rest
  pub run : Runs features cx front [] (λ operands. operands ≡ meant known now)

module _ (features : Features) (cx : Context) where
  -- operators that stand after others
  runs_more : (P Q : Operands → Type 0) (front rest : ConstantExpression) (operands : Operands) → ((next : Operands) → P next → Runs features cx rest next Q) → Runs features cx front operands P
      → Runs features cx (front ++ rest) operands Q
  runs_more P Q [] rest operands more run = more operands run
  runs_more P Q (operator ∷ front) rest operands more run = does_on (λ next r. runs_more P Q front rest next more r) (effect features cx operator) operands run

  module _ (known : KnownTypes) (wanted : ValType DefType) (all : ConstantExpression) where
    pub good_start : IsAsGood features cx known wanted all all []
    good_start = record { are_known = tt; to = λ is. is; back = λ runs. runs; front = []; parts = refl; run = refl }

    pub good_step : (operator : ConstantOperator) (rest : ConstantExpression) (now new : Kept) → IsAsGood features cx known wanted all (operator ∷ rest) now
        → Leads (effect features cx operator) (meant known now) (meant known new) → AreKnown known new → IsAsGood features cx known wanted all rest new
    good_step operator rest now new good leads are = record {
      are_known = are;
      to = λ is. does_at (λ next. Runs features cx rest next (Leaves wanted)) (effect features cx operator) (meant known now) (meant known new) leads (good.to is);
      back = λ runs. good.back (does_on (λ next e. subst (λ os. Runs features cx rest os (Leaves wanted)) (sym e) runs) (effect features cx operator) (meant known now) leads);
      front = good.front ++ operator ∷ [];
      parts = good.parts ∙ sym (append_assoc good.front (operator ∷ []) rest);
      run = runs_more (λ os. os ≡ meant known now) (λ os. os ≡ meant known new) good.front (operator ∷ []) [] (λ next e. subst (λ os. Leads (effect features cx operator) os (meant known new)) (sym e) leads) good.run;
    }

    pub good_stuck : (operator : ConstantOperator) (rest : ConstantExpression) (now : Kept) → IsAsGood features cx known wanted all (operator ∷ rest) now
        → IsStuck (effect features cx operator) (meant known now) → ¬ (IsConstantOf features cx wanted all)
    good_stuck operator rest now good stuck is = stuck (does_on (λ next r. tt) (effect features cx operator) (meant known now) (good.to is))

    -- memory ran out for an operator that may stand there
    pub good_so_far : (operator : ConstantOperator) (rest : ConstantExpression) (now : Kept) → IsAsGood features cx known wanted all (operator ∷ rest) now
        → MayStand (effect features cx operator) (meant known now) → BeginsRightly features cx all
    good_so_far operator rest now good may = record {
      front = good.front;
      last = operator;
      rest = rest;
      parts = good.parts;
      run = runs_more (λ os. os ≡ meant known now) (λ os. ⊤) good.front (operator ∷ []) [] (λ next e. subst (MayStand (effect features cx operator)) (sym e) may) good.run;
    }
