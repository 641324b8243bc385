-- Passing operators, up to the one in which a place is.
use Rattle.std.proofs.Common.{◌≡◌, ◌≤◌, ◌<◌, inl, inr, ℕ, ◌+◌, length, List, [], ◌∷◌, Option, Some, None, refl, sym, ap, subst, arith}
use Rattle.std.specs.Prelude.{slice_get}
use Rattle.wasm_bodies.specs.OperatorGrammar.{IsOperator}
use Rattle.wasm_bodies.specs.Operators.{Operator}
use Rattle.wasm_core_read.specs.Input.{Input, GoesOn, end}
use Rattle.wasm_core_read.specs.Laws.{IsRead}
use Rattle.wasm_core_read.specs.Reading.{byte_at}
use Rattle.wasm_core_read.proofs.ReadingLaws.{some_is}
use Rattle.wasmparser_error.specs.declared.error.ErrorKind.{ErrorKind}
use Rattle.wasmparser_operators.specs.OperatorAnswers.{IsOperatorRefusal}
use Rattle.wasmparser_operators.specs.OperatorReading.{code_at, code_from, operator_at}
use Rattle.wasm_gen_explain.specs.Items.{EndsPast}
use Rattle.wasm_gen_explain.specs.Operators.{BodyLeft, IsUnpassed, PassesOperator, front_name, whole_body}
use Rattle.wasm_gen_explain.specs.Passed.{ArePassed}
use Rattle.wasm_gen_explain.specs.Searches.{PassesAll, ReadsOperator, StopsAt, open_from}
use Rattle.wasm_gen_explain.proofs.BlockLaws.{opens_by_byte}
use Rattle.wasm_gen_explain.proofs.ListLaws.{nothing_left}
use Rattle.wasm_gen_explain.proofs.PassedLaws.{next_passed, none_yet}

pub refused : (i : Input) (offset : ℕ) (kind : ErrorKind) → IsOperatorRefusal kind i.features i.rest → IsUnpassed offset i
refused i offset kind h = inl (record { kind = kind; refused = h })

pub past : {A : Type 0} (read : Option (A × List ℕ)) (v : A) (old new : Input) (offset : ℕ) → read ≡ Some (v, new.rest) → GoesOn old new → offset < new.position → EndsPast (end old) offset read
past read v old new offset e g lt = subst (λ r. EndsPast (end old) offset r) (sym e) (omega (arith, lt, g.same_end))

pub ends_past : (old new : Input) (offset : ℕ) → EndsPast (end old) offset (operator_at old.features old.rest) → IsUnpassed offset old
ends_past old new offset h = inr h

pub reads : (old new : Input) (v : Operator ℕ) → operator_at old.features old.rest ≡ Some (v, new.rest) → IsRead (IsOperator old.features) old new v → GoesOn old new → old.position < new.position → ReadsOperator old new
reads old new v e h g lt = record { operator = v; reads = e; goes_on = g; further = lt; opens = opens_by_byte old.features old.rest new.rest v e h.found }

-- (cited by passing an operator)
pub ruleset operator_steps = (refused, past, ends_past, reads)

-- ---- a loop over operators

abbrev pub left_of : Input → ℕ → BodyLeft
left_of input blocks = record { input = input; blocks = blocks }

pub begins : (offset : ℕ) (first : Input) → ArePassed (PassesOperator offset) (whole_body first) 0 (left_of first 1)
begins offset first = none_yet (PassesOperator offset) (whole_body first)

pub one_operator : (offset number blocks : ℕ) (first old new : Input) → ArePassed (PassesOperator offset) (whole_body first) number (left_of old blocks) → ReadsOperator old new → new.position ≤ offset
    → ArePassed (PassesOperator offset) (whole_body first) (number + 1) (left_of new (open_from (slice_get old.rest 0) blocks))
one_operator offset number blocks first old new passed r le =
    let step : PassesOperator offset (left_of old blocks) (left_of new (open_from (slice_get old.rest 0) blocks)) = record { operator = r.operator; reads = r.reads; goes_on = r.goes_on; ends = le; opens = r.opens blocks } in
    next_passed (PassesOperator offset) (whole_body first) (left_of old blocks) (left_of new (open_from (slice_get old.rest 0) blocks)) number passed step

pub few_open : (code : Option ℕ) (blocks most : ℕ) → blocks ≤ most → open_from code blocks ≤ most + 1
few_open None blocks most le = omega (arith, le)
few_open (Some b) blocks most le = grind (arith, le)

pub stops_open : (offset number blocks : ℕ) (first now : Input) → ArePassed (PassesOperator offset) (whole_body first) number (left_of now blocks) → 0 < blocks → IsUnpassed offset now → StopsAt first now offset number
stops_open offset number blocks first now passed lt stops = record { now = left_of now blocks; passed = passed; stops = record { lacks = inl lt; stops = stops }; left = refl }

pub stops_within : (offset number blocks : ℕ) (first now : Input) → ArePassed (PassesOperator offset) (whole_body first) number (left_of now blocks) → 0 < length now.rest → IsUnpassed offset now → StopsAt first now offset number
stops_within offset number blocks first now passed lt stops = record { now = left_of now blocks; passed = passed; stops = record { lacks = inr lt; stops = stops }; left = refl }

pub all_read : (offset number blocks : ℕ) (first now : Input) → ArePassed (PassesOperator offset) (whole_body first) number (left_of now blocks) → blocks ≤ 0 → length now.rest ≡ 0 → PassesAll first offset
all_read offset number blocks first now passed le none = record { number = number; now = left_of now blocks; passed = passed; ends = record { closed = omega (arith, le); ended = nothing_left now.rest none } }

-- (cited by a loop over operators)
pub ruleset operator_loop = (begins, stops_open, stops_within, all_read)

-- ---- names

pub no_name : (bytes : List ℕ) → byte_at bytes ≡ None → [] ≡ front_name (code_at bytes)
unfolding byte_at code_at
no_name [] e = refl
no_name (b ∷ bs) e = absurd cc

pub name_after : (bytes : List ℕ) (b : ℕ) (rest : List ℕ) → byte_at bytes ≡ Some (b, rest) → front_name (code_at bytes) ≡ front_name (code_from b rest)
unfolding byte_at code_at
name_after [] b rest e = absurd cc
name_after (c ∷ cs) b rest e = ap (λ (x : ℕ × List ℕ). front_name (code_from x.0 x.1)) (some_is (c, cs) (b, rest) e)

-- (cited by naming an operator)
pub ruleset name_steps = (no_name, name_after)
