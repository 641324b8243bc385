-- Where in a module a place is.
use Rattle.std.proofs.Common.{◌≡◌, ◌≤◌, ◌<◌, inl, inr, ℕ, ◌+◌, Bool, true, false, length, List, [], ◌∷◌, Option, Some, None, Result, Ok, Err, IfOk, refl, ap, subst, arith, nat_eq}
use Rattle.std.specs.List.{starts_with}
use Rattle.wasm_core_read.specs.Input.{Input}
use Rattle.wasm_core_read.specs.ModuleReading.{frame_at}
use Rattle.wasm_core_read.specs.Reading.{byte_at}
use Rattle.wasm_core_read.proofs.ReadingLaws.{frame_shorter}
use Rattle.wasm_spec.specs.Features.{CompactImports, Features, has}
use Rattle.wasm_spec.specs.Grammar.{header}
use Rattle.wasmparser_error.specs.declared.error.Error.{Error}
use Rattle.wasm_gen_explain.specs.Imports.{CountsNext, functions_among, imports_of}
use Rattle.wasm_gen_explain.specs.Passed.{ArePassed}
use Rattle.wasm_gen_explain.specs.Places.{Explains, IsAmong, IsPlace, ModuleLeft, PassesNext, after_header, in_header, in_sections}
use Rattle.wasm_gen_explain.specs.Sections.{IsAtSection, PassesSection, no_section}
use Rattle.wasm_gen_explain.specs.Text.{line_text}
use Rattle.wasm_gen_explain.specs.declared.place.Place.{Place}
use Rattle.wasm_gen_explain.specs.declared.place.Place.TheVariants as places
use Rattle.wasm_gen_explain.proofs.ImportLaws.{frame_parts}
use Rattle.wasm_gen_explain.proofs.PassedLaws.{next_passed, none_yet}

abbrev pub module_left : Input → ℕ → ModuleLeft
module_left input imported = record { input = input; imported = imported }

abbrev pub ArePast : Input → ℕ → ℕ → Input → Type 0
ArePast start offset imported now = (number : ℕ) × ArePassed (PassesNext offset) (module_left start 0) number (module_left now imported)

pub none_past : (start : Input) (offset : ℕ) → ArePast start offset 0 start
none_past start offset = (0, none_yet (PassesNext offset) (module_left start 0))

-- the imports of the next section, which reads
counts_read : (compact : Bool) (read : Option ((ℕ × List ℕ) × List ℕ)) (section : ℕ × List ℕ) (rest : List ℕ) (n : ℕ) → read ≡ Some (section, rest) → CountsNext compact read n
    → (n ≡ functions_among (imports_of compact section)) × (n ≤ length section.1)
counts_read compact read section rest n e h = subst (λ r. CountsNext compact r n) e h

pub one_past : (start old new : Input) (offset imported n : ℕ) → ArePast start offset imported old → PassesSection offset old new → CountsNext (has old.features CompactImports) (frame_at old.rest) n → ArePast start offset (imported + n) new
one_past start old new offset imported n past p counts =
    let next = counts_read (has old.features CompactImports) (frame_at old.rest) (p.id, p.content.rest) new.rest n p.frame.reads counts in
    let step : PassesNext offset (module_left old imported) (module_left new (imported + n)) = record { section = p; counted = ap (λ (k : ℕ). imported + k) next.0 } in
    (past.0 + 1, next_passed (PassesNext offset) (module_left start 0) (module_left old imported) (module_left new (imported + n)) past.0 past.1 step)

-- as many functions as were imported are no more than the bytes that were read
pub few_past : (old new : Input) (offset imported n : ℕ) → imported ≤ old.position → PassesSection offset old new → CountsNext (has old.features CompactImports) (frame_at old.rest) n → imported + n ≤ new.position
few_past old new offset imported n le p counts =
    let next = counts_read (has old.features CompactImports) (frame_at old.rest) (p.id, p.content.rest) new.rest n p.frame.reads counts in
    omega (arith, le, next.1, frame_parts old.rest p.id p.content.rest new.rest p.frame.reads, p.goes_on.same_end)

pub fewer_left : (old new : Input) (offset : ℕ) → PassesSection offset old new → length new.rest < length old.rest
fewer_left old new offset p = frame_shorter old.rest (p.id, p.content.rest) new.rest p.frame.reads

pub among : (start old : Input) (offset imported : ℕ) (place : Place) → ArePast start offset imported old → IsAtSection imported old offset place → IsAmong (module_left start 0) offset place
among start old offset imported place past s = record { number = past.0; now = module_left old imported; passed = past.1; stands = s }

no_byte : (bytes : List ℕ) → length bytes ≡ 0 → byte_at bytes ≡ None
unfolding byte_at
no_byte [] e = refl
no_byte (b ∷ bs) e = absurd omega (arith, e)

pub at_end : (start old : Input) (offset imported : ℕ) → ArePast start offset imported old → length old.rest ≡ 0 → IsAmong (module_left start 0) offset places.End
at_end start old offset imported past none = among start old offset imported places.End past (no_section (no_byte old.rest none))

-- (cited by a loop over sections)
pub ruleset section_loop = (none_past, one_past, few_past, fewer_left, among, at_end)

-- ---- the header

pub early : (features : Features) (bytes : List ℕ) (offset : ℕ) → offset < 8 → IsPlace features bytes offset places.Header
early features bytes offset lt = in_header (inl lt)

pub no_header : (features : Features) (bytes : List ℕ) (offset : ℕ) → starts_with nat_eq bytes header ≡ false → IsPlace features bytes offset places.Header
no_header features bytes offset e = in_header (inr e)

pub after : {E : Type 0} (features : Features) (bytes : List ℕ) (offset : ℕ) (start : Input) (result : Result Place E) → 8 ≤ offset → starts_with nat_eq bytes header ≡ true → module_left start 0 ≡ after_header features bytes
    → IfOk result (IsAmong (module_left start 0) offset) → IfOk result (IsPlace features bytes offset)
after features bytes offset start (Ok place) le begins e s = in_sections place le begins (subst (λ i. IsAmong i offset place) e s)
after features bytes offset start (Err error) le begins e s = s

-- (cited by the search for a place in a module)
pub ruleset header_steps = (early, no_header, after)

pub is_written : (features : Features) (bytes : List ℕ) (error : Error) (place : Place) (text : List ℕ) → IsPlace features bytes error.offset place → text ≡ line_text place error → Explains features bytes error text
is_written features bytes error place text s e = record { place = place; stands = s; written = e }

-- (cited by the explanation)
pub ruleset written = (is_written)
