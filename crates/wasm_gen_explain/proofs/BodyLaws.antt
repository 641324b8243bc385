-- Where in a body a place is.
use Rattle.std.proofs.Common.{◌≡◌, ◌≤◌, ◌<◌, inl, inr, ℕ, ◌-◌, length, List, Option, Some, None, sym, ap, subst, ◌∙◌, arith}
use Rattle.wasm_core_read.specs.Input.{Input, GoesOn, end}
use Rattle.wasm_core_read.specs.PartReading.{body_at}
use Rattle.wasm_core_read.specs.TypeReading.{list_at}
use Rattle.wasm_core_read.proofs.ReadingLaws.{some_is}
use Rattle.wasmparser_operators.specs.OperatorReading.{code_at}
use Rattle.wasmparser_payloads.specs.Locals.{run_at}
use Rattle.wasmparser_readers.specs.Passing.{rest_of}
use Rattle.wasm_gen_explain.specs.Bodies.{IsAtBody, IsBefore, IsNextBody, IsOperatorAt, PassesBody, StopsLocals, StopsSize, in_size, within}
use Rattle.wasm_gen_explain.specs.Items.{EndsPast}
use Rattle.wasm_gen_explain.specs.Operators.{BodyLeft, PassesOperator, front_name}
use Rattle.wasm_gen_explain.specs.Searches.{FindsAtBody, FindsInBody, PassesAll, StopsAt}
use Rattle.wasm_gen_explain.specs.declared.place.Place.{Place}
use Rattle.wasm_gen_explain.specs.declared.place.Place.TheVariants as places
use Rattle.wasm_gen_explain.proofs.PassedLaws.{kept}

past_place : {A : Type 0} (read : Option (A × List ℕ)) (old new : Input) (offset : ℕ) → rest_of read ≡ Some new.rest → GoesOn old new → offset < new.position → EndsPast (end old) offset read
past_place None old new offset e g lt = absurd cc
past_place (Some read) old new offset e g lt =
    let same : read.1 ≡ new.rest = some_is read.1 new.rest e in
    subst (λ (l : List ℕ). offset < end old - length l) (sym same) (omega (arith, lt, g.same_end))

pub no_locals : (body : Input) (offset : ℕ) → list_at run_at body.rest ≡ None → StopsLocals body offset
no_locals body offset e = inl e

pub past_locals : (body first : Input) (offset : ℕ) → rest_of (list_at run_at body.rest) ≡ Some first.rest → GoesOn body first → offset < first.position → StopsLocals body offset
past_locals body first offset e g lt = inr (past_place (list_at run_at body.rest) body first offset e g lt)

pub at_operator : (body first now : Input) (offset number : ℕ) (name : List ℕ) → rest_of (list_at run_at body.rest) ≡ Some first.rest → GoesOn body first → first.position ≤ offset → StopsAt first now offset number
    → name ≡ front_name (code_at now.rest) → IsOperatorAt body offset number name
at_operator body first now offset number name e g le h named = record {
  now = h.now;
  past = record { first = first; locals = e; goes_on = g; begins = le; operators = h.passed };
  stops = h.stops;
  named = named ∙ ap (λ (i : Input). front_name (code_at i.rest)) (sym h.left);
}

pub all_before : (body first : Input) (offset : ℕ) → rest_of (list_at run_at body.rest) ≡ Some first.rest → GoesOn body first → first.position ≤ offset → PassesAll first offset → IsBefore body offset
all_before body first offset e g le h = record { number = h.number; now = h.now; past = record { first = first; locals = e; goes_on = g; begins = le; operators = h.passed }; ends = h.ends }

-- (cited by the search for a place in a body)
pub ruleset body_steps = (no_locals, past_locals, at_operator, all_before)

-- ---- the next body

pub no_size : (i : Input) (offset : ℕ) → body_at i.rest ≡ None → StopsSize i offset
no_size i offset e = inl e

next_body : (old new body : Input) → body_at old.rest ≡ Some (body.rest, new.rest) → GoesOn old new → body.features ≡ old.features → end body ≡ new.position → IsNextBody old body new.rest
next_body old new body e g f at = record { reads = e; same_features = f; ends = omega (arith, at, g.same_end) }

pub past_size : (old new body : Input) (offset : ℕ) → body_at old.rest ≡ Some (body.rest, new.rest) → GoesOn old new → body.features ≡ old.features → end body ≡ new.position → offset < body.position → StopsSize old offset
past_size old new body offset e g f at lt = inr (body, new.rest, next_body old new body e g f at, lt)

pub at_size : (function : ℕ) (old : Input) (offset : ℕ) → StopsSize old offset → IsAtBody function old offset (places.Function function)
at_size function old offset h = in_size h

pub passed_early : (old new body : Input) (offset : ℕ) → body_at old.rest ≡ Some (body.rest, new.rest) → GoesOn old new → body.features ≡ old.features → end body ≡ new.position → new.position < offset → PassesBody offset old new
passed_early old new body offset e g f at lt = record { body = body; is_next = next_body old new body e g f at; goes_on = g; ends = omega (arith, lt); whole = inl lt }

-- what is left of a body, which ends where it did, up to a place
record IsBy (start : Input) (offset : ℕ) (now : BodyLeft) : Type 0 where
  pub same_end : end now.input ≡ end start
  pub by : now.input.position ≤ offset

-- all of a body is before a place, so its end is
end_before : (body : Input) (offset : ℕ) → IsBefore body offset → end body ≤ offset
end_before body offset b =
    let p = b.past in
    let last = kept (PassesOperator offset) (λ i. IsBy body offset i) (record { input = p.first; blocks = 1 }) b.now b.number
    (λ old new o by. record { same_end = o.goes_on.same_end ∙ by.same_end; by = o.ends }) (record { same_end = p.goes_on.same_end; by = p.begins }) p.operators in
    let none : length b.now.input.rest ≡ 0 = ap length b.ends.ended in
    omega (arith, none, last.same_end, last.by)

-- where a place is, by what is known of the body
pub in_next : (function : ℕ) (old new body : Input) (offset : ℕ) (place : Option Place) → body_at old.rest ≡ Some (body.rest, new.rest) → GoesOn old new → body.features ≡ old.features → end body ≡ new.position → body.position ≤ offset
    → offset ≤ new.position → FindsInBody function body offset place → FindsAtBody function old new offset place
in_next function old new body offset None e g f at le ge h =
    record { body = body; is_next = next_body old new body e g f at; goes_on = g; ends = omega (arith, at, end_before body offset h); whole = inr h }
in_next function old new body offset (Some place) e g f at le ge h =
    within place (record { body = body; rest = new.rest; is_next = next_body old new body e g f at; begins = le; ends = omega (arith, at, ge); stands = h })

-- (cited by the search for a place at the next body)
pub ruleset next_steps = (no_size, past_size, at_size, passed_early, in_next)
