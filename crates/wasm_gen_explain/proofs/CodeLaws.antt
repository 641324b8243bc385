-- In which body of a code section a place is.
use Rattle.std.proofs.Common.{◌≡◌, ◌≤◌, ◌<◌, ℕ, ◌+◌, length, List, Some, arith}
use Rattle.wasm_core_read.specs.Input.{Input}
use Rattle.wasm_core_read.specs.PartReading.{body_at}
use Rattle.wasm_core_read.specs.Reading.{bytes_at, unsigned_at}
use Rattle.wasm_core_read.proofs.ModuleForms.{number_shorter}
use Rattle.wasm_core_read.proofs.ReadingLaws.{bind_some, bytes_length}
use Rattle.wasm_gen_explain.specs.Bodies.{IsAtBody, IsInCode, IsInOneOf, PassesBody, after_bodies, in_bodies, in_count}
use Rattle.wasm_gen_explain.specs.Lists.{BeginsList, EndsList, StopsCount}
use Rattle.wasm_gen_explain.specs.Passed.{ArePassed}
use Rattle.wasm_gen_explain.specs.declared.place.Place.{Place}
use Rattle.wasm_gen_explain.specs.declared.place.Place.TheVariants as places
use Rattle.wasm_gen_explain.proofs.ListLaws.{all_read, more_left}
use Rattle.wasm_gen_explain.proofs.PassedLaws.{all_passed, next_passed, none_yet}

body_shorter : (bytes content rest : List ℕ) → body_at bytes ≡ Some (content, rest) → length rest < length bytes
unfolding body_at
body_shorter bytes content rest e =
    let n = bind_some (unsigned_at 32 bytes) (λ n. bytes_at n.0 n.1) (content, rest) e in
    omega (arith, number_shorter 32 bytes n.0.0 n.0.1 n.1, (bytes_length n.0.0 n.0.1 content rest n.2).1)

-- each body takes a byte
pub few_on : (imported number : ℕ) (old new : Input) (offset : ℕ) → imported + number ≤ old.position → PassesBody offset old new → imported + (number + 1) ≤ new.position
few_on imported number old new offset le p = omega (arith, le, body_shorter old.rest p.body.rest new.rest p.is_next.reads, p.goes_on.same_end)

pub in_one : (imported count number : ℕ) (items now : Input) (offset : ℕ) (place : Place) → number < count → ArePassed (PassesBody offset) items number now → IsAtBody (imported + number) now offset place
    → IsInOneOf imported count items offset place
in_one imported count number items now offset place lt passed h = record { number = number; now = now; among = lt; passed = passed; stands = h }

-- (cited by a loop over bodies)
pub ruleset bodies_loop = (none_yet, next_passed, in_one, all_passed)

-- ---- code sections

pub code_place : (imported count : ℕ) (content items : Input) (offset : ℕ) (place : Place) → BeginsList content offset count items → IsInOneOf imported count items offset place → IsInCode imported content offset place
code_place imported count content items offset place b h = in_bodies place (record { count = count; items = items; begins = b; in_one = h })

pub code_ends : (content items last : Input) (offset count : ℕ) → BeginsList content offset count items → ArePassed (PassesBody offset) items count last → length last.rest ≡ 0 → EndsList (PassesBody offset) content offset
code_ends content items last offset count b passed none = all_read (PassesBody offset) content items last offset count b passed none

pub code_more : (imported : ℕ) (content items last : Input) (offset count : ℕ) → BeginsList content offset count items → ArePassed (PassesBody offset) items count last → 0 < length last.rest
    → IsInCode imported content offset (places.Section 10)
code_more imported content items last offset count b passed more = after_bodies (more_left (PassesBody offset) content items last offset count b passed more)

pub code_count : (imported : ℕ) (content : Input) (offset : ℕ) → StopsCount content offset → IsInCode imported content offset (places.Section 10)
code_count imported content offset h = in_count h

-- (cited by the search for a place in a code section)
pub ruleset code_steps = (code_place, code_ends, code_more, code_count)
