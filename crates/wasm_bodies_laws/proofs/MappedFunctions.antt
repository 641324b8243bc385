-- The bytes of bodies, over mapped references.
use Rattle.std.proofs.Common.{ℕ, ◌≡◌, List, [], ◌∷◌, map, replicate, Option, Some, None, refl, sym, ap, ◌∙◌, subst}
use Rattle.std.proofs.lemmas.List.{length-map, map-append}
use Rattle.std.specs.List.{AllByRecursion}
use Rattle.std.specs.Option.{IfSome, option_map, is_some}
use Rattle.wasm_bodies.specs.BodyContext.{ModuleItems, BodyContext, Local, written}
use Rattle.wasm_bodies.specs.Bodies.{Run, IsBodyOf, IsBegun, IsWritten, local_count, parameter, declared_local, locals_of_run, locals_of_runs, in_function, AreLocals, IsFunctionBody, HasManyLocals, HasOtherOperator}
use Rattle.wasm_bodies.specs.Effects.{Labels}
use Rattle.wasm_bodies.specs.Operands.{State, fresh}
use Rattle.wasm_bodies.specs.Operators.{Operator}
use Rattle.wasm_bodies_laws.specs.References.{AgreeOn, TakesAndGives, AreWanted, AreWantedIn, AreMapped, Below, items_map, local_map, context_map, state_map, labels_map}
use Rattle.wasm_bodies_laws.proofs.HeldOptions.{all_append, all_replicate}
use Rattle.wasm_bodies_laws.proofs.MappedBodies.{typed_along, typed_back, body_along, body_back, leads_along, leads_back}
use Rattle.wasm_bodies_laws.proofs.MappedOptions.{is_some_map, replicate_map}
use Rattle.wasm_bodies_laws.proofs.MappedSignatures.{is_defaultable_is, written_is}
use Rattle.wasm_bodies_laws.proofs.WantedTypes.{written_wanted}
use Rattle.wasm_spec.specs.Features.{Features}
use Rattle.wasm_spec.specs.Limits.{Locals, IsPassedBy}
use Rattle.wasm_spec.specs.TypeReferences.{val_map, func_map}
use Rattle.wasm_spec.specs.Types.{ValType, FuncType}
use Rattle.wasm_spec.proofs.GroupTrees.{all_each}
use Rattle.wasm_spec.proofs.MappedTypes.{all_map}

-- ---- locals

module _ {R S : Type 0} (f : R → S) where
  parameters_are : (types : List (ValType R)) → map parameter (map (val_map f) types) ≡ map (local_map f) (map parameter types)
  parameters_are [] = refl
  parameters_are (type ∷ types) = ap (λ locals. parameter (val_map f type) ∷ locals) (parameters_are types)

  declared_is : (type : ValType R) → declared_local (val_map f type) ≡ local_map f (declared_local type)
  declared_is type = ap (λ is_set. record { is_set = is_set; type = val_map f type }) (is_defaultable_is f type)

  run_is : (count : ℕ) (type : Option (ValType R)) → locals_of_run count (option_map (val_map f) type) ≡ map (local_map f) (locals_of_run count type)
  run_is count None = refl
  run_is count (Some type) = ap (replicate count) (declared_is type) ∙ replicate_map (local_map f) count (declared_local type)

  count_is : (type : FuncType R) (runs : List Run) → local_count (func_map f type) runs ≡ local_count type runs
  count_is type runs = rw (length-map type.params (val_map f))

module _ {R S : Type 0} (f : R → S) (features : Features) (items : ModuleItems R) (below : Below S) where
  runs_are : (runs : List Run) → locals_of_runs features (items_map f items below) runs ≡ map (local_map f) (locals_of_runs features items runs)
  runs_are [] = refl
  runs_are (run ∷ runs) =
      rw (written_is f items below features run.type, run_is f run.count (written features items run.type), runs_are runs)
      (sym (map-append (local_map f) (locals_of_run run.count (written features items run.type)) (locals_of_runs features items runs)))

  -- what a body is judged in, of a function of the mapped type
  pub in_function_is : (type : FuncType R) (runs : List Run) → in_function features (items_map f items below) (func_map f type) runs ≡ context_map f (in_function features items type runs) below
  in_function_is type runs =
      let context : List (Local S) → BodyContext S = λ locals. record { features = features; items = items_map f items below; locals = locals; results = map (val_map f) type.results } in
      ap context (rw (parameters_are f type.params, runs_are runs) (sym (map-append (local_map f) (map parameter type.params) (locals_of_runs features items runs))))

  is_written_is : (run : Run) → is_some (written features (items_map f items below) run.type) ≡ is_some (written features items run.type)
  is_written_is run = rw (written_is f items below features run.type) (is_some_map (val_map f) (written features items run.type))

  written_along : (runs : List Run) → AllByRecursion (IsWritten features items) runs → AllByRecursion (IsWritten features (items_map f items below)) runs
  written_along runs h = all_each _ _ (λ run w. is_written_is run ∙ w) runs h

  written_back : (runs : List Run) → AllByRecursion (IsWritten features (items_map f items below)) runs → AllByRecursion (IsWritten features items) runs
  written_back runs h = all_each _ _ (λ run w. sym (is_written_is run) ∙ w) runs h

  locals_along : (type : FuncType R) (bytes : List ℕ) (runs : List Run) → AreLocals features items type bytes runs → AreLocals features (items_map f items below) (func_map f type) bytes runs
  locals_along type bytes runs l =
      record { declared = l.declared; written = written_along runs l.written; within = subst (λ n. ¬ (IsPassedBy Locals n)) (sym (count_is f type runs)) l.within }

  locals_back : (type : FuncType R) (bytes : List ℕ) (runs : List Run) → AreLocals features (items_map f items below) (func_map f type) bytes runs → AreLocals features items type bytes runs
  locals_back type bytes runs l =
      record { declared = l.declared; written = written_back runs l.written; within = subst (λ n. ¬ (IsPassedBy Locals n)) (count_is f type runs) l.within }

-- ---- which types a function's body wants

module _ {R : Type 0} (Wanted : ValType R → Type 0) (features : Features) (items : ModuleItems R) (wanted : AreWanted Wanted features items) where
  run_wanted : (count : ℕ) (type : Option (ValType R)) → IfSome type Wanted → AllByRecursion (λ local. Wanted local.type) (locals_of_run count type)
  run_wanted count None one = tt
  run_wanted count (Some type) one = all_replicate (λ local. Wanted local.type) count (declared_local type) one

  runs_wanted : (runs : List Run) → AllByRecursion (λ local. Wanted local.type) (locals_of_runs features items runs)
  runs_wanted [] = tt
  runs_wanted (run ∷ runs) =
      all_append (λ local. Wanted local.type) (locals_of_run run.count (written features items run.type)) (locals_of_runs features items runs)
      (run_wanted run.count (written features items run.type) (written_wanted Wanted features items wanted run.type)) (runs_wanted runs)

  pub in_function_wanted : (type : FuncType R) → TakesAndGives Wanted type → (runs : List Run) → AreWantedIn Wanted (in_function features items type runs)
  in_function_wanted type both runs = record {
    items = wanted;
    locals = all_append (λ local. Wanted local.type) (map parameter type.params) (locals_of_runs features items runs) (all_map Wanted (λ local. Wanted local.type) parameter (λ t one. one) type.params both.0) (runs_wanted runs);
    results = both.1;
  }

-- ---- operators that a body begins with

module _ {R S : Type 0} (Wanted : ValType R → Type 0) (f : R → S) (cx : BodyContext R) (below : Below S) (agree : AgreeOn Wanted f cx.items below) (wanted : AreWantedIn Wanted cx) where
  pub begun_along : (operators : List (Operator ℕ)) (labels : Labels R) (s : State R) → IsBegun cx operators labels s → IsBegun (context_map f cx below) operators (labels_map f labels) (state_map f s)
  begun_along operators labels s b = record {
    ending = b.ending;
    whole = record { code = b.whole.code; is_flat = b.whole.is_flat; typed = typed_along Wanted f cx below agree wanted b.whole.code b.whole.typed };
    leads = leads_along Wanted f cx below agree wanted b.whole.code (cx.results ∷ []) (wanted.results, tt) (fresh [] []) operators labels s b.leads;
  }

  pub begun_back : (operators : List (Operator ℕ)) (labels : Labels S) (s : State S) → IsBegun (context_map f cx below) operators labels s → AreMapped f labels s (IsBegun cx operators)
  begun_back operators labels s b =
      let l = leads_back Wanted f cx below agree wanted b.whole.code (cx.results ∷ []) (wanted.results, tt) (fresh [] []) operators labels s b.leads in (
        l.0,
        l.1,
        l.2,
        l.3,
        record {
          ending = b.ending;
          whole = record { code = b.whole.code; is_flat = b.whole.is_flat; typed = typed_back Wanted f cx below agree wanted b.whole.code b.whole.typed };
          leads = l.4;
        },
      )

  pub begun_forth : (operators : List (Operator ℕ)) (labels : Labels S) (s : State S) → AreMapped f labels s (IsBegun cx operators) → IsBegun (context_map f cx below) operators labels s
  begun_forth operators labels s m =
      let begun = begun_along operators m.0 m.1 m.4 in
      subst (λ l. IsBegun (context_map f cx below) operators l s) (sym m.2) (subst (IsBegun (context_map f cx below) operators (labels_map f m.0)) (sym m.3) begun)

-- ---- too many locals, of which nothing has to fit

module _ {R S : Type 0} (f : R → S) (features : Features) (items : ModuleItems R) (below : Below S) (type : FuncType R) (bytes : List ℕ) where
  pub many_locals_along : HasManyLocals features items type bytes → HasManyLocals features (items_map f items below) (func_map f type) bytes
  many_locals_along m = record {
    stated = m.stated;
    runs = m.runs;
    count_encoding = m.count_encoding;
    runs_encoding = m.runs_encoding;
    rest = m.rest;
    begins = m.begins;
    counted = m.counted;
    among = m.among;
    declared = m.declared;
    written = written_along f features items below m.runs m.written;
    passes = subst (IsPassedBy Locals) (sym (count_is f type m.runs)) m.passes;
  }

  pub many_locals_back : HasManyLocals features (items_map f items below) (func_map f type) bytes → HasManyLocals features items type bytes
  many_locals_back m = record {
    stated = m.stated;
    runs = m.runs;
    count_encoding = m.count_encoding;
    runs_encoding = m.runs_encoding;
    rest = m.rest;
    begins = m.begins;
    counted = m.counted;
    among = m.among;
    declared = m.declared;
    written = written_back f features items below m.runs m.written;
    passes = subst (IsPassedBy Locals) (count_is f type m.runs) m.passes;
  }

-- ---- bodies

module _ {R S : Type 0} (Wanted : ValType R → Type 0) (f : R → S) (features : Features) (items : ModuleItems R) (below : Below S) (agree : AgreeOn Wanted f items below) (wanted : AreWanted Wanted features items) (type : FuncType R) (both : TakesAndGives Wanted type) (bytes : List ℕ) where
  pub function_body_along : IsFunctionBody features items type bytes → IsFunctionBody features (items_map f items below) (func_map f type) bytes
  function_body_along b = record {
    runs = b.runs;
    operators = b.operators;
    locals_encoding = b.locals_encoding;
    code_encoding = b.code_encoding;
    begins = b.begins;
    locals = locals_along f features items below type b.locals_encoding b.runs b.locals;
    spelled = b.spelled;
    typed = subst (λ cx. IsBodyOf cx b.operators) (sym (in_function_is f features items below type b.runs)) (body_along Wanted f (in_function features items type b.runs) below agree (in_function_wanted Wanted features items wanted type both b.runs) b.operators b.typed);
  }

  pub function_body_back : IsFunctionBody features (items_map f items below) (func_map f type) bytes → IsFunctionBody features items type bytes
  function_body_back b = record {
    runs = b.runs;
    operators = b.operators;
    locals_encoding = b.locals_encoding;
    code_encoding = b.code_encoding;
    begins = b.begins;
    locals = locals_back f features items below type b.locals_encoding b.runs b.locals;
    spelled = b.spelled;
    typed = body_back Wanted f (in_function features items type b.runs) below agree (in_function_wanted Wanted features items wanted type both b.runs) b.operators (subst (λ cx. IsBodyOf cx b.operators) (in_function_is f features items below type b.runs) b.typed);
  }

  pub other_operator_along : HasOtherOperator features items type bytes → HasOtherOperator features (items_map f items below) (func_map f type) bytes
  other_operator_along o = record {
    runs = o.runs;
    operators = o.operators;
    labels = labels_map f o.labels;
    reached = state_map f o.reached;
    other = o.other;
    locals_encoding = o.locals_encoding;
    code_encoding = o.code_encoding;
    rest = o.rest;
    begins = o.begins;
    locals = locals_along f features items below type o.locals_encoding o.runs o.locals;
    spelled = o.spelled;
    begun = subst (λ cx. IsBegun cx o.operators (labels_map f o.labels) (state_map f o.reached)) (sym (in_function_is f features items below type o.runs)) (begun_along Wanted f (in_function features items type o.runs) below agree (in_function_wanted Wanted features items wanted type both o.runs) o.operators o.labels o.reached o.begun);
    is_other = o.is_other;
  }

  pub other_operator_back : HasOtherOperator features (items_map f items below) (func_map f type) bytes → HasOtherOperator features items type bytes
  other_operator_back o =
      let b = begun_back Wanted f (in_function features items type o.runs) below agree (in_function_wanted Wanted features items wanted type both o.runs) o.operators o.labels o.reached (subst (λ cx. IsBegun cx o.operators o.labels o.reached) (in_function_is f features items below type o.runs) o.begun) in
      record {
        runs = o.runs;
        operators = o.operators;
        labels = b.0;
        reached = b.1;
        other = o.other;
        locals_encoding = o.locals_encoding;
        code_encoding = o.code_encoding;
        rest = o.rest;
        begins = o.begins;
        locals = locals_back f features items below type o.locals_encoding o.runs o.locals;
        spelled = o.spelled;
        begun = b.4;
        is_other = o.is_other;
      }
