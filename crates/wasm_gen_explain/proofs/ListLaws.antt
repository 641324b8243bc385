-- Where in a list of entries a place is.
use Rattle.std.proofs.Common.{◌≡◌, ◌≤◌, ◌<◌, inl, inr, ℕ, length, List, [], ◌∷◌, Some, None, refl, sym, subst, ◌∙◌, arith}
use Rattle.wasm_core_read.specs.Input.{Input, GoesOn, end}
use Rattle.wasm_core_read.specs.Reading.{ReadingOf, unsigned_at}
use Rattle.wasm_spec.specs.Features.{Features}
use Rattle.wasm_gen_explain.specs.Items.{EndsPast, IsItemAt}
use Rattle.wasm_gen_explain.specs.Lists.{BeginsList, EndsItems, EndsList, HasMore, IsEntryAt, StopsAround, StopsCount}
use Rattle.wasm_gen_explain.specs.Passed.{ArePassed}
use Rattle.wasm_gen_explain.proofs.PassedLaws.{kept}

-- ---- the number of items

pub count_reads : (content items : Input) (offset count : ℕ) → unsigned_at 32 content.rest ≡ Some (count, items.rest) → GoesOn content items → items.position ≤ offset → BeginsList content offset count items
count_reads content items offset count e g le = record { reads = e; goes_on = g; begins = le }

pub no_count : (content : Input) (offset : ℕ) → unsigned_at 32 content.rest ≡ None → StopsCount content offset
no_count content offset e = inl e

pub past_count : (content items : Input) (offset count : ℕ) → unsigned_at 32 content.rest ≡ Some (count, items.rest) → GoesOn content items → offset < items.position → StopsCount content offset
past_count content items offset count e g lt = inr (subst (λ r. EndsPast (end content) offset r) (sym e) (omega (arith, lt, g.same_end)))

-- (cited by reading the number of items)
pub ruleset count_steps = (count_reads, no_count, past_count)

-- ---- the items

pub nothing_left : (bytes : List ℕ) → length bytes ≡ 0 → bytes ≡ []
nothing_left [] e = refl
nothing_left (b ∷ bs) e = absurd omega (arith, e)

ends : (Passes : Input → Input → Type 0) (content items last : Input) (offset count : ℕ) → BeginsList content offset count items → ArePassed Passes items count last → EndsItems Passes content offset last
ends Passes content items last offset count b passed = record { count = count; items = items; begins = b; passed = passed }

pub more_left : (Passes : Input → Input → Type 0) (content items last : Input) (offset count : ℕ) → BeginsList content offset count items → ArePassed Passes items count last → 0 < length last.rest → HasMore Passes content offset
more_left Passes content items last offset count b passed more = record { last = last; ends = ends Passes content items last offset count b passed; more = more }

pub all_read : (Passes : Input → Input → Type 0) (content items last : Input) (offset count : ℕ) → BeginsList content offset count items → ArePassed Passes items count last → length last.rest ≡ 0 → EndsList Passes content offset
all_read Passes content items last offset count b passed none = record { last = last; ends = ends Passes content items last offset count b passed; ended = nothing_left last.rest none }

-- a reader that has gone on in an input, up to a place
record IsBy (start : Input) (offset : ℕ) (now : Input) : Type 0 where
  pub same_end : end now ≡ end start
  pub by : now.position ≤ offset

-- a list of which nothing is left ends at a place or before it
pub list_ends : (Passes : Input → Input → Type 0) (content : Input) (offset : ℕ) → ((old new : Input) → Passes old new → GoesOn old new × (new.position ≤ offset)) → EndsList Passes content offset → end content ≤ offset
list_ends Passes content offset step e =
    let begins = e.ends.begins in
    let first : IsBy content offset e.ends.items = record { same_end = begins.goes_on.same_end; by = begins.begins } in
    let last = kept Passes (λ i. IsBy content offset i) e.ends.items e.last e.ends.count
    (λ old new p by. let on = step old new p in record { same_end = on.0.same_end ∙ by.same_end; by = on.1 }) first e.ends.passed in
    let none : length e.last.rest ≡ 0 = subst (λ (l : List ℕ). length l ≡ 0) (sym e.ended) refl in
    omega (arith, none, last.same_end, last.by)

pub in_count : (Passes : Input → Input → Type 0) (content : Input) (offset : ℕ) → StopsCount content offset → StopsAround Passes content offset
in_count Passes content offset stops = inl stops

pub at_entry : {A : Type 0} (item_at : Features → ReadingOf A) (indexes : A → List ℕ) (content items : Input) (offset count number : ℕ) → BeginsList content offset count items
    → IsItemAt item_at indexes count items offset number → IsEntryAt item_at indexes content offset number
at_entry item_at indexes content items offset count number b h = record { count = count; items = items; begins = b; item = h }

pub has_more : (Passes : Input → Input → Type 0) (content items last : Input) (offset count : ℕ) → BeginsList content offset count items → ArePassed Passes items count last → 0 < length last.rest → StopsAround Passes content offset
has_more Passes content items last offset count b passed more = inr (more_left Passes content items last offset count b passed more)

-- (cited by the search for an entry)
pub ruleset list_steps = (in_count, at_entry, has_more, all_read)
