-- Reading a body and validating it, operator by operator, as a loop does.
use Rattle.std.proofs.Common.{◌≡◌, ◌≢◌, ◌<◌, inl, inr, ℕ, zero, suc, Bool, false, List, [], length, map, Some, Result, Ok, Err, refl, sym, ap, subst, ◌∙◌, arith}
use Rattle.std.specs.Bool.{IsTrue}
use Rattle.wasm_bodies.specs.Bodies.{parameter}
use Rattle.wasm_bodies.specs.BodyContext.{Local}
use Rattle.wasm_bodies.specs.Operators.{Indexed, Operator}
use Rattle.wasm_bodies_laws.specs.Machine.{Machine, frame_type, stepped}
use Rattle.wasm_core_read.specs.Input.{Input, GoesOn, IsWithin}
use Rattle.wasm_core_read.proofs.ReadingLaws.{goes_further}
use Rattle.wasmparser_error.specs.declared.error.Error.{Error}
use Rattle.wasmparser_error.specs.declared.error.ErrorKind.{ErrorKind}
use Rattle.wasmparser_error.specs.declared.error.ErrorKind.TheVariants as kinds
use Rattle.wasmparser_types.specs.Index.{Index}
use Rattle.wasmparser_operators.specs.OperatorAnswers.{IsOperatorRefusal}
use Rattle.wasmparser_operators.specs.OperatorReading.{operator_at}
use Rattle.wasmparser_bodies.specs.BodyAnswers.{HasManyTypes, NamesFault, AnswersOutcome, left_at, with_code, body_outcome}
use Rattle.wasmparser_bodies.specs.BodyStates.{BodyState, with_locals_in, with_machine_in, context_in, IsAtStart, rest_outcome, StopsInRest, HasEnded, IsRefusedStep, ValidatesOperator, ReadsStep}
use Rattle.wasmparser_bodies.specs.CodeReading.{Broken, code_outcome}
use Rattle.wasmparser_bodies.specs.Fronts.{Passes, StopsInOperators, StopsInRuns, StopsIn, StopsInBody}
use Rattle.wasmparser_bodies.specs.LocalsAnswers.{NamesLocalsFault}
use Rattle.wasmparser_bodies.specs.LocalsReading.{Locals, locals_outcome}
use Rattle.wasmparser_bodies.proofs.AnswerLaws.{answered_later, broken_past_end, fault_later, left_here, left_later, placed_later, unread_operator}
use Rattle.wasmparser_bodies.proofs.CodeLaws.{code_refused}
use Rattle.wasmparser_bodies.proofs.LocalsSteps.{locals_refused}
use Rattle.wasmparser_bodies.proofs.Runs.{passes_both, passes_one, passes_outcome, stops_here, stops_later}
use Rattle.wasmparser_bodies.specs.Runs.{RunsOn}

-- ---- one operator

here : (from : Input) (at offset : ℕ) → at ≡ offset → offset ≡ from.position → IsWithin from at
here from at offset a o = record { from = omega (arith, a, o); to = omega (arith, a, o) }

refused : (old : BodyState) (from : Input) (operator : Operator ℕ) (rest : List ℕ) (kind : ErrorKind) (at offset : ℕ) → old.machine.frames ≢ [] → operator_at old.features from.rest ≡ Some (operator, rest) → offset ≡ from.position
    → IsRefusedStep kind at offset (stepped (context_in old) old.machine operator)
    → NamesFault (HasManyTypes old.items) (StopsInOperators (context_in old) old.machine from.rest (left_at from at)) kind (code_outcome (context_in old) old.machine from.rest) × IsWithin from at
refused old from operator rest kinds.Body at offset some e o h = (inl (code_refused (context_in old) old.machine from.rest operator rest some e h.0), here from at offset h.1 o)
refused old from operator rest kinds.Memory at offset some e o h =
    (stops_here (context_in old) old.machine operator from.rest rest (left_at from at) e h.0 (left_here from at offset h.1 o), here from at offset h.1 o)
refused old from operator rest _ at offset some e o h = absurd h

pub step_validated : (old new : BodyState) (from to : Input) (offset : ℕ) (operator : Operator ℕ) (answer : Result (Unit {0}) Error) → old.machine.frames ≢ [] → from.features ≡ old.features → offset ≡ from.position
    → operator_at from.features from.rest ≡ Some (operator, to.rest) → GoesOn from to → ValidatesOperator offset operator old new answer → ReadsStep old new from to answer
step_validated old new from to offset operator (Ok x) some same o e g h =
    (passes_one (context_in old) old.machine new.machine operator from.rest to.rest (ap (λ features. operator_at features from.rest) (sym same) ∙ e) h.0, h.1, g)
step_validated old new from to offset operator (Err x) some same o e g h =
    refused old from operator to.rest x.kind x.offset offset some (ap (λ features. operator_at features from.rest) (sym same) ∙ e) o h

pub step_unread : (old : BodyState) (from : Input) (kind : ErrorKind) (offset : ℕ) → old.machine.frames ≢ [] → from.features ≡ old.features
    → IsOperatorRefusal kind from.features from.rest → IsWithin from offset
    → NamesFault (HasManyTypes old.items) (StopsInOperators (context_in old) old.machine from.rest (left_at from offset)) kind (code_outcome (context_in old) old.machine from.rest) × IsWithin from offset
step_unread old from kind offset some same h w =
    unread_operator (context_in old) (StopsInOperators (context_in old) old.machine from.rest (left_at from offset)) old.machine from kind offset some same h w

-- ---- the loop over operators

pub after_step : (start old new : BodyState) → old ≡ with_machine_in old.machine start → new ≡ with_machine_in new.machine old → new ≡ with_machine_in new.machine start
after_step start old new a b = b ∙ ap (λ (s : BodyState). with_machine_in new.machine s) a

-- in one context
pub passes_later : (start old new : BodyState) (bytes mid after : List ℕ) → old ≡ with_machine_in old.machine start → Passes (context_in start) start.machine old.machine bytes mid
    → Passes (context_in old) old.machine new.machine mid after → Passes (context_in start) start.machine new.machine bytes after
passes_later start old new bytes mid after a so_far step =
    passes_both (context_in start) start.machine old.machine new.machine bytes mid after so_far (subst (λ (s : BodyState). Passes (context_in s) old.machine new.machine mid after) a step)

pub step_refused : (start old : BodyState) (from mid : Input) (kind : ErrorKind) (offset : ℕ) → old ≡ with_machine_in old.machine start → GoesOn from mid
    → Passes (context_in start) start.machine old.machine from.rest mid.rest
    → NamesFault (HasManyTypes old.items) (StopsInOperators (context_in old) old.machine mid.rest (left_at mid offset)) kind (code_outcome (context_in old) old.machine mid.rest) × IsWithin mid offset
    → NamesFault (HasManyTypes start.items) (StopsInOperators (context_in start) start.machine from.rest (left_at from offset)) kind (code_outcome (context_in start) start.machine from.rest) × IsWithin from offset
step_refused start old from mid kind offset a g so_far h =
    let cx = context_in start in
    let fault = subst (λ (s : BodyState). NamesFault (HasManyTypes s.items) (StopsInOperators (context_in s) old.machine mid.rest (left_at mid offset)) kind (code_outcome (context_in s) old.machine mid.rest)) a h.0 in (
      fault_later (HasManyTypes start.items) (HasManyTypes start.items) (StopsInOperators cx old.machine mid.rest (left_at mid offset)) (StopsInOperators cx start.machine from.rest (left_at from offset)) kind
          (code_outcome cx old.machine mid.rest) (code_outcome cx start.machine from.rest) (sym (passes_outcome cx start.machine old.machine from.rest mid.rest so_far)) (λ u. u)
          (λ s. stops_later cx start.machine old.machine from.rest mid.rest (left_at from offset) so_far (subst (StopsInOperators cx old.machine mid.rest) (left_later from mid offset g) s))
          fault,
      placed_later from mid offset g h.1,
    )

-- operators at once, and then the next one
pub ran_on : (start old new : BodyState) (from mid to : Input) (answer : Result (Unit {0}) Error) → GoesOn from mid → RunsOn start old from.rest mid.rest → ReadsStep old new mid to answer → ReadsStep start new from to answer
ran_on start old new from mid to (Ok x) g r s =
    (passes_later start old new from.rest mid.rest to.rest r.same r.leads.passes s.0, after_step start old new r.same s.1, goes_further from mid to g s.2)
ran_on start old new from mid to (Err e) g r s = step_refused start old from mid e.kind e.offset r.same g r.leads.passes s

pub some_left : (t : Bool) (n : ℕ) → (n ≡ 0 → IsTrue t) → t ≡ false → 0 < n
some_left t zero none off = let f = sym off ∙ none refl in absurd cc
some_left t (suc n) none off = omega arith

-- something follows the end
pub past_end : (start : BodyState) (m : Machine Index) (from mid : Input) (e : Error) (offset : ℕ) → m.frames ≡ [] → 0 < length mid.rest → GoesOn from mid
    → e ≡ record { offset = offset; kind = kinds.Body } → offset ≡ mid.position → Passes (context_in start) start.machine m from.rest mid.rest
    → NamesFault (HasManyTypes start.items) (StopsInOperators (context_in start) start.machine from.rest (left_at from e.offset)) e.kind (code_outcome (context_in start) start.machine from.rest) × IsWithin from e.offset
past_end start m from mid e offset closed some g is o so_far =
    let cx = context_in start in
    let all = code_outcome cx start.machine from.rest in
    let broken : all ≡ Broken = passes_outcome cx start.machine m from.rest mid.rest so_far ∙ broken_past_end cx m mid.rest closed some in
    let w : IsWithin from offset = placed_later from mid offset g (here mid offset offset refl o) in
    subst (λ (x : Error). NamesFault (HasManyTypes start.items) (StopsInOperators cx start.machine from.rest (left_at from x.offset)) x.kind all × IsWithin from x.offset) (sym is) (inl broken, w)

-- ---- the whole body

pub code_answered : (old new : BodyState) (from mid : Input) (answer : Result (Unit {0}) Error) → locals_outcome old.features old.items old.locals from.rest ≡ Locals new.locals mid.rest → new ≡ with_locals_in new.locals old
    → GoesOn from mid → AnswersOutcome (HasManyTypes new.items) (StopsInOperators (context_in new) new.machine mid.rest) mid answer (code_outcome (context_in new) new.machine mid.rest)
    → AnswersOutcome (HasManyTypes old.items) (StopsInRest old from.rest) from answer (rest_outcome old from.rest)
unfolding rest_outcome
code_answered old new from mid answer read same g h =
    let code = λ (locals : List (Local Index)) (rest : List ℕ). code_outcome (context_in (with_locals_in locals old)) old.machine rest in
    let all : rest_outcome old from.rest ≡ code_outcome (context_in new) new.machine mid.rest =
    ap (λ o. with_code o code) read ∙ ap (λ (s : BodyState). code_outcome (context_in s) s.machine mid.rest) (sym same) in
    answered_later (HasManyTypes old.items) (StopsInOperators (context_in new) new.machine mid.rest) (StopsInRest old from.rest) from mid answer _ _ g (sym all)
    (λ left s. inr (record { locals = new.locals; rest = mid.rest; declared = read; stops = subst (λ (d : BodyState). StopsInOperators (context_in d) d.machine mid.rest left) same s }))
    (subst (λ (s : BodyState). AnswersOutcome (HasManyTypes s.items) (StopsInOperators (context_in new) new.machine mid.rest) mid answer (code_outcome (context_in new) new.machine mid.rest)) same h)

pub locals_answered : (old : BodyState) (from : Input) (kind : ErrorKind) (offset : ℕ)
    → NamesLocalsFault (HasManyTypes old.items) (StopsInRuns old.features old.items old.locals from.rest (left_at from offset)) kind (locals_outcome old.features old.items old.locals from.rest) × IsWithin from offset
    → NamesFault (HasManyTypes old.items) (StopsInRest old from.rest (left_at from offset)) kind (rest_outcome old from.rest) × IsWithin from offset
unfolding rest_outcome
locals_answered old from kind offset h = (locals_refused (HasManyTypes old.items) _ (StopsInRest old from.rest (left_at from offset)) (λ s. inl s) kind _ _ h.0, h.1)

pub has_ended : (old mid new : BodyState) → mid ≡ with_locals_in mid.locals old → new.machine.frames ≡ [] → new ≡ with_machine_in new.machine mid → HasEnded old new
has_ended old mid new locals closed code =
    let more : new.locals ≡ mid.locals = ap (λ (s : BodyState). s.locals) code in
    (closed, code ∙ ap (λ (s : BodyState). with_machine_in new.machine s) locals ∙ ap (λ l. with_machine_in new.machine (with_locals_in l old)) (sym more))

-- where nothing was validated
pub from_start : (s : BodyState) (bytes : List ℕ) → IsAtStart s → rest_outcome s bytes ≡ body_outcome s.features s.items s.index bytes
unfolding rest_outcome body_outcome
from_start s bytes start =
    let code = λ (m : Machine Index) (locals : List (Local Index)) (rest : List ℕ). code_outcome (context_in (with_locals_in locals s)) m rest in
    ap (λ l. with_code (locals_outcome s.features s.items l bytes) (code s.machine)) start.parameters
    ∙ ap (λ m. with_code (locals_outcome s.features s.items (map parameter (frame_type s.items (Indexed s.index)).params) bytes) (code m)) start.begins

pub so_far_from_start : (s : BodyState) (bytes : List ℕ) (left : ℕ) → IsAtStart s → StopsInRest s bytes left → StopsInBody s.features s.items s.index bytes left
so_far_from_start s bytes left start h =
    let type = frame_type s.items (Indexed s.index) in
    subst (λ m. StopsIn s.features s.items type (map parameter type.params) m bytes left) start.begins
    (subst (λ (l : List (Local Index)). StopsIn s.features s.items type l s.machine bytes left) start.parameters h)
