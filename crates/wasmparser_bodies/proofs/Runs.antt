-- Operators that are read and validated, one after the other.
use Rattle.std.proofs.Common.{◌≡◌, ◌≢◌, ◌<◌, ℕ, List, [], ◌∷◌, ◌++◌, length, Some, refl, sym, ap, subst, ◌∙◌, arith}
use Rattle.std.specs.Prelude.{IsSome}
use Rattle.wasm_bodies.specs.BodyContext.{BodyContext}
use Rattle.wasm_bodies.specs.Operators.{Operator}
use Rattle.wasm_bodies_laws.specs.Machine.{Machine, stepped}
use Rattle.wasmparser_operators.specs.OperatorReading.{operator_at}
use Rattle.wasmparser_bodies.specs.CodeReading.{code_outcome}
use Rattle.wasmparser_bodies.specs.Fronts.{Passes, PassesBy, StopsInOperators}
use Rattle.wasmparser_bodies.specs.Runs.{LeadsOn}
use Rattle.wasmparser_bodies.proofs.CodeLaws.{code_goes_on}
use Rattle.wasmparser_bodies.proofs.OperatorLengths.{operator_shorter}

module _ {R : Type 0} (cx : BodyContext R) where
  -- none
  pub passes_none : (m : Machine R) (bytes : List ℕ) → Passes cx m m bytes bytes
  passes_none m bytes = record { operators = []; passed = (refl, refl) }

  -- one
  pub passes_one : (old new : Machine R) (operator : Operator ℕ) (bytes rest : List ℕ) → operator_at cx.features bytes ≡ Some (operator, rest) → stepped cx old operator ≡ Some new → Passes cx old new bytes rest
  passes_one old new operator bytes rest reads leads = record { operators = operator ∷ []; passed = (new, rest, reads, leads, (refl, refl)) }

  passed_both : (first second : List (Operator ℕ)) (old mid new : Machine R) (bytes rest after : List ℕ) → PassesBy cx first old bytes mid rest → PassesBy cx second mid rest new after
      → PassesBy cx (first ++ second) old bytes new after
  passed_both [] second old mid new bytes rest after p q = subst (λ m. PassesBy cx second m bytes new after) p.0 (subst (λ (l : List ℕ). PassesBy cx second mid l new after) p.1 q)
  passed_both (operator ∷ first) second old mid new bytes rest after p q = (p.0, p.1, p.2, p.3, passed_both first second p.0 mid new p.1 rest after p.4 q)

  pub passes_both : (old mid new : Machine R) (bytes rest after : List ℕ) → Passes cx old mid bytes rest → Passes cx mid new rest after → Passes cx old new bytes after
  passes_both old mid new bytes rest after p q = record { operators = p.operators ++ q.operators; passed = passed_both p.operators q.operators old mid new bytes rest after p.passed q.passed }

  passed_outcome : (operators : List (Operator ℕ)) (old new : Machine R) (bytes rest : List ℕ) → PassesBy cx operators old bytes new rest → code_outcome cx old bytes ≡ code_outcome cx new rest
  passed_outcome [] old new bytes rest p = ap (code_outcome cx old) (sym p.1) ∙ ap (λ m. code_outcome cx m rest) (sym p.0)
  passed_outcome (operator ∷ operators) old new bytes rest p = code_goes_on cx old p.0 bytes operator p.1 p.2 p.3 ∙ passed_outcome operators p.0 new p.1 rest p.4

  -- their outcome is that of all
  pub passes_outcome : (old new : Machine R) (bytes rest : List ℕ) → Passes cx old new bytes rest → code_outcome cx old bytes ≡ code_outcome cx new rest
  passes_outcome old new bytes rest p = passed_outcome p.operators old new bytes rest p.passed

  -- ---- where memory runs out

  pub stops_here : (m : Machine R) (operator : Operator ℕ) (bytes rest : List ℕ) (left : ℕ) → operator_at cx.features bytes ≡ Some (operator, rest) → IsSome (stepped cx m operator) → left ≡ length bytes
      → StopsInOperators cx m bytes left
  stops_here m operator bytes rest left reads leads place =
      record { reached = m; rest = bytes; passes = passes_none m bytes; operator = operator; after = rest; reads = reads; leads = leads; place = place }

  pub stops_later : (old mid : Machine R) (bytes rest : List ℕ) (left : ℕ) → Passes cx old mid bytes rest → StopsInOperators cx mid rest left → StopsInOperators cx old bytes left
  stops_later old mid bytes rest left p s =
      record { reached = s.reached; rest = s.rest; passes = passes_both old mid s.reached bytes rest s.rest p s.passes; operator = s.operator; after = s.after; reads = s.reads; leads = s.leads; place = s.place }

  -- ---- operators that are validated at once

  -- none
  pub leads_nowhere : (m : Machine R) (bytes : List ℕ) → m.frames ≢ [] → LeadsOn cx m m bytes bytes
  leads_nowhere m bytes inside = record { passes = passes_none m bytes; inside = inside; not_longer = omega arith }

  -- one more
  pub leads_further : (old mid new : Machine R) (operator : Operator ℕ) (bytes rest after : List ℕ) → LeadsOn cx old mid bytes rest → operator_at cx.features rest ≡ Some (operator, after) → stepped cx mid operator ≡ Some new → new.frames ≢ []
      → LeadsOn cx old new bytes after
  leads_further old mid new operator bytes rest after l reads leads inside = record {
    passes = passes_both old mid new bytes rest after l.passes (passes_one mid new operator rest after reads leads);
    inside = inside;
    not_longer = omega (arith, l.not_longer, operator_shorter cx.features rest operator after reads);
  }

  pub leads_both : (old mid new : Machine R) (bytes rest after : List ℕ) → LeadsOn cx old mid bytes rest → LeadsOn cx mid new rest after → LeadsOn cx old new bytes after
  leads_both old mid new bytes rest after l m =
      record { passes = passes_both old mid new bytes rest after l.passes m.passes; inside = m.inside; not_longer = omega (arith, l.not_longer, m.not_longer) }

  pub leaves_less : (operator : Operator ℕ) (bytes rest : List ℕ) → operator_at cx.features bytes ≡ Some (operator, rest) → length rest < length bytes
  leaves_less operator bytes rest reads = operator_shorter cx.features bytes operator rest reads
