-- The outcomes of the inputs that were met: none at first, and one more after each step.
use Rattle.std.proofs.Common.{◌≡◌, ◌≢◌, ◌<◌, ◌≤◌, ◌+◌, ℕ, List, [], ◌∷◌, ◌++◌, length, take, take_all, get_or, map, option_map, arith, Bool, true, false, Option, Some, None, Result, Ok, Err, refl, sym, ap, ◌∙◌, subst, append-nil, append_assoc}
use Rattle.std.specs.Prelude.{slice_get}
use Rattle.std.proofs.lemmas.List.{length-append, length-map, take_more}
use Rattle.std.proofs.lemmas.Option.{get_or_from_slice_get, slice_get-get_or, slice_get-map, slice_get_within}
use Rattle.wasm_gen_program.specs.CheckInputs.{ChecksNamed, EndsInput, Progress, Validates, ValidatesAll, ValidatesUntil, begun, ends_run, one_more, outcome, starting}
use Rattle.wasm_gen_program.specs.Device.{FailsWrite, SinkView, SourceView, WritesOn}
use Rattle.wasm_gen_program.specs.Explanation.{answer_of}
use Rattle.wasm_gen_program.specs.Inputs.{AddsEvents, Event}
use Rattle.wasm_gen_sessions.specs.History.{History}
use Rattle.wasm_gen_program.specs.declared.error.RunError.{RunError}
use Rattle.wasm_gen_program.specs.declared.error.RunError.TheVariants.{Generate, Memory, Read, TooLong, Write}
use Rattle.wasm_gen_program.specs.declared.explanation.Checked.{Checked}
use Rattle.wasm_gen_program.specs.declared.status.Outcome.{Outcome}
use Rattle.wasm_gen_program.proofs.ReadLaws.{joined}
use Rattle.wasm_gen_program.proofs.WriteLaws.{last_write_fails, none_written}

-- nothing is reported
pub none_told : (a : Option (List Event)) → AddsEvents a a []
none_told None = tt
none_told (Some events) = sym (append-nil events)

-- an input is opened, and then more is reported
pub told_after : (a b c : Option (List Event)) (first : Event) (more : List Event) → AddsEvents a b (first ∷ []) → AddsEvents b c more → AddsEvents a c (first ∷ more)
told_after a b c first more p q =
    joined _ _ _ (λ x y z is then. then ∙ ap (λ front. front ++ more) is ∙ append_assoc x (first ∷ []) more) a b c p q

goes_on_unless : (answer : Result Bool RunError) → ends_run answer ≡ false → answer ≢ Err Write
goes_on_unless answer goes_on is = let both : true ≡ false = sym (ap ends_run is) ∙ goes_on in absurd cc

ends_by_a_write : (answer : Result Bool RunError) → ends_run answer ≡ true → answer ≡ Err Write
ends_by_a_write (Ok is_yes) ends = absurd cc
ends_by_a_write (Err Read) ends = absurd cc
ends_by_a_write (Err TooLong) ends = absurd cc
ends_by_a_write (Err Memory) ends = absurd cc
ends_by_a_write (Err (Generate cause)) ends = absurd cc
ends_by_a_write (Err Write) ends = refl

is_write : (e : RunError) → answer_of (Err e) ≡ Err Write → e ≡ Write
is_write e is = cc

-- what became of an input
module _ (asked : Bool) (old : History) (next : ℕ) (new : History) (before after : SinkView) where
  ready_after : (found : Option SourceView) (checked : Result Checked RunError) → EndsInput asked found checked old next new before after → ends_run (answer_of checked) ≡ false
      → old.has_failed ≡ false → new.has_failed ≡ false
  ready_after None checked ended goes_on ready = rw ended.1 ready
  ready_after (Some unread) checked ended goes_on ready = ended.1.ready (λ is. goes_on_unless (answer_of checked) goes_on (ap answer_of is))

  written_on : (found : Option SourceView) (checked : Result Checked RunError) → EndsInput asked found checked old next new before after → ends_run (answer_of checked) ≡ false
      → WritesOn before.faults after.faults
  written_on None checked ended goes_on = rw ended.2 (none_written before.faults)
  written_on (Some unread) (Ok it) ended goes_on = ended.1.output.written
  written_on (Some unread) (Err e) ended goes_on = ended.1.output.unfailed_write (λ is. goes_on_unless (Err e) goes_on (ap Err is))

  fails_write : (found : Option SourceView) (checked : Result Checked RunError) → EndsInput asked found checked old next new before after → answer_of checked ≡ Err Write
      → FailsWrite before.faults after.faults
  fails_write found (Ok it) ended is = absurd cc
  fails_write None (Err e) ended is = let both = ended.0 in absurd cc
  fails_write (Some unread) (Err e) ended is = ended.1.output.write (is_write e is)

-- the first names, and the next one
one_name_more : (names : List (List ℕ)) (place : ℕ) (name : List ℕ) → slice_get names place ≡ Some name → take (place + 1) names ≡ take place names ++ name ∷ []
one_name_more names place name named =
    take_more names place name (slice_get_within names place name named)
    ∙ ap (λ (n : List ℕ). take place names ++ n ∷ []) (get_or_from_slice_get names place name name named)

pub none_met : (asked : Bool) (session : History) (outcomes : List Outcome) (names : List (List ℕ)) (sink : SinkView) (events : Option (List Event)) → outcomes ≡ [] → session ≡ (starting sink events).session
    → Validates asked (starting sink events) (take 0 names) outcomes (record { session = session; sink = sink; events = events })
none_met asked session outcomes names sink events empty is =
    subst (λ (os : List Outcome). Validates asked (starting sink events) [] os (record { session = session; sink = sink; events = events })) (sym empty)
    (subst (λ (s : History). Validates asked (starting sink events) [] [] (record { session = s; sink = sink; events = events })) (sym is) begun)

-- an input was checked, and the run goes on
module _ (asked : Bool) (old new : Progress) (name : List ℕ) (answer : Result Bool RunError) (next : ℕ) (ended : ChecksNamed asked name next old new answer) (goes_on : ends_run answer ≡ false) where
  its_answer_goes_on : ends_run (answer_of ended.checked) ≡ false
  its_answer_goes_on = ap ends_run (sym ended.same) ∙ goes_on

  pub still_ready : old.session.has_failed ≡ false → new.session.has_failed ≡ false
  still_ready = ready_after asked old.session next new.session old.sink new.sink ended.found ended.checked ended.ended its_answer_goes_on

  pub writes_on : WritesOn old.sink.faults new.sink.faults
  writes_on = written_on asked old.session next new.session old.sink new.sink ended.found ended.checked ended.ended its_answer_goes_on

-- one more input
module _ (asked : Bool) (names : List (List ℕ)) (start : Option (List Event)) (before : SinkView) (outcomes more : List Outcome) (old new : Progress) (name : List ℕ) (answer : Result Bool RunError)
    (met : Outcome) (place next : ℕ) (v : Validates asked (starting before start) (take place names) outcomes old)
    (ended : ChecksNamed asked name next old new answer) (named : slice_get names place ≡ Some name) (len : length outcomes ≡ place) (is : next ≡ place + 1) (are : met ≡ outcome answer) (items : more ≡ outcomes ++ met ∷ []) where
  -- the name of the next validator is the number of inputs
  by_number : ChecksNamed asked name (length outcomes + 1) old new answer
  by_number = subst (λ n. ChecksNamed asked name n old new answer) (is ∙ ap (λ n. n + 1) (sym len)) ended

  pub another_met : ends_run answer ≡ false → Validates asked (starting before start) (take (place + 1) names) more new
  another_met goes_on =
      subst (λ (ns : List (List ℕ)). Validates asked (starting before start) ns more new) (sym (one_name_more names place name named))
      (subst (λ (os : List Outcome). Validates asked (starting before start) (take place names ++ name ∷ []) os new) (sym (items ∙ ap (λ o. outcomes ++ o ∷ []) are))
      (one_more v name answer new goes_on by_number))

  pub last_met : WritesOn before.faults old.sink.faults → ends_run answer ≡ true → ValidatesUntil asked names more before new.sink start new.events
  last_met wrote ends =
      let write : answer ≡ Err Write = ends_by_a_write answer ends in
      let last : ChecksNamed asked name (length outcomes + 1) old new (Err Write) =
      subst (λ (a : Result Bool RunError). ChecksNamed asked name (length outcomes + 1) old new a) write by_number in
      record {
        others = outcomes;
        last = items ∙ ap (λ o. outcomes ++ o ∷ []) (are ∙ ap outcome write);
        reached = old;
        inputs = subst (λ n. Validates asked (starting before start) (take n names) outcomes old) (sym len) v;
        name = name;
        named = subst (λ n. slice_get names n ≡ Some name) (sym len) named;
        session = new.session;
        ended = last;
        failed = last_write_fails _ _ _ wrote (fails_write asked old.session (length outcomes + 1) new.session old.sink new.sink last.found last.checked last.ended (sym last.same));
      }

pub one_longer : (outcomes more : List Outcome) (met : Outcome) (place : ℕ) → length outcomes ≡ place → more ≡ outcomes ++ met ∷ [] → length more ≡ place + 1
one_longer outcomes more met place len items = ap length items ∙ length-append outcomes (met ∷ []) ∙ ap (λ n. n + 1) len

-- names behind references
module _ {A : Type 0} (f : A → List ℕ) (xs : List A) where
  pub named_at : (place : ℕ) (d : A) → place < length xs → slice_get (map f xs) place ≡ Some (f (get_or xs place d))
  named_at place d within = slice_get-map f xs place ∙ ap (option_map f) (slice_get-get_or xs place d within)

  pub few_met : (outcomes : List Outcome) (place : ℕ) → length outcomes ≡ place → place ≤ length xs → length outcomes ≤ length (map f xs)
  few_met outcomes place len within = omega (arith, length-map xs f)

  pub all_met : (asked : Bool) (start end : Option (List Event)) (before after : SinkView) (outcomes : List Outcome) (session : History) (place : ℕ)
      → Validates asked (starting before start) (take place (map f xs)) outcomes (record { session = session; sink = after; events = end })
      → length outcomes ≡ place → length xs ≤ place → place ≤ length xs → WritesOn before.faults after.faults → ValidatesAll asked (map f xs) outcomes before after start end
  all_met asked start end before after outcomes session place v len all few wrote = record {
    each = omega (arith, length-map xs f);
    session = session;
    inputs = subst (λ (ns : List (List ℕ)). Validates asked (starting before start) ns outcomes (record { session = session; sink = after; events = end }))
        (take_all place (map f xs) (omega (arith, length-map xs f))) v;
    written = wrote;
  }
