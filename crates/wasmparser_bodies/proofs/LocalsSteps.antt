-- Reading the locals of a body run by run, as a loop does.
use Rattle.std.proofs.Common.{◌≡◌, ◌⊎◌, inl, inr, ℕ, suc, ◌+◌, ◌-◌, ◌<◌, ◌≤◌, true, List, ◌++◌, length, replicate, Option, Some, None, is_some, Result, Ok, Err, refl, sym, ap, subst, ◌∙◌, arith}
use Rattle.std.proofs.lemmas.Bool.Decides.{leb_tells}
use Rattle.std.proofs.lemmas.Bool.{cases_lt}
use Rattle.wasm_bodies.specs.Bodies.{Run, declared_local}
use Rattle.wasm_bodies.specs.BodyContext.{Local, written}
use Rattle.wasm_core_types.specs.declared.limits.Limit.{Limit}
use Rattle.wasm_core_types.specs.declared.limits.Limit.TheVariants as core
use Rattle.wasm_core_read.specs.Input.{Input, GoesOn, IsWithin}
use Rattle.wasm_core_read.specs.Reading.{unsigned_at}
use Rattle.wasm_core_read.specs.TypeReading.{val_type_at}
use Rattle.wasm_core_read.proofs.ReadingLaws.{goes_further}
use Rattle.wasm_spec.specs.Limits as limits
use Rattle.wasm_spec.specs.TypeReferences.{val_refs}
use Rattle.wasm_spec.specs.Types.{ValType}
use Rattle.wasmparser_error.specs.declared.error.Error.{Error}
use Rattle.wasmparser_error.specs.declared.error.ErrorKind.{ErrorKind}
use Rattle.wasmparser_error.specs.declared.error.ErrorKind.TheVariants as kinds
use Rattle.wasmparser_types.specs.Index.{Index, packable}
use Rattle.wasmparser_readers.specs.Answers.{HasLargeIndex}
use Rattle.wasmparser_bodies.specs.BodyAnswers.{HasManyTypes, NamesFault, left_at, with_code}
use Rattle.wasmparser_bodies.specs.BodyStates.{BodyState, with_locals_in}
use Rattle.wasmparser_bodies.specs.CodeReading.{BodyOutcome}
use Rattle.wasmparser_bodies.specs.Fronts.{Fits, StopsAmong, StopsInRuns}
use Rattle.wasmparser_bodies.specs.LocalsAnswers.{IsRefusedRun, DefinesRun, NamesLocalsFault, Others, run_outcome, ReadsRun}
use Rattle.wasmparser_bodies.specs.LocalsReading.{LocalsOutcome, Locals, NoLocals, run_at, runs_outcome, locals_outcome}
use Rattle.wasmparser_bodies.proofs.AnswerLaws.{left_here, left_later}
use Rattle.wasmparser_bodies.proofs.LargeIndexes.{large_unwritten}
use Rattle.wasmparser_bodies.proofs.LocalsLaws.{run_unread, run_unwritten, run_past, run_fits, count_unread, params_fit}

-- ---- one run

no_count : (bytes : List ℕ) → unsigned_at 32 bytes ≡ None → run_at bytes ≡ None
unfolding run_at
no_count bytes e = rw e refl

no_type : (bytes : List ℕ) (count : ℕ) (mid : List ℕ) → unsigned_at 32 bytes ≡ Some (count, mid) → val_type_at mid ≡ None → run_at bytes ≡ None
unfolding run_at
no_type bytes count mid e f = rw (e, f) refl

a_run : (bytes : List ℕ) (count : ℕ) (mid : List ℕ) (type : ValType ℕ) (rest : List ℕ) → unsigned_at 32 bytes ≡ Some (count, mid) → val_type_at mid ≡ Some (type, rest) → run_at bytes ≡ Some (record { count = count; type = type }, rest)
unfolding run_at
a_run bytes count mid type rest e f = rw (e, f) refl

pub run_without_count : (old : BodyState) (bytes : List ℕ) → unsigned_at 32 bytes ≡ None → (others : Others) → run_outcome old bytes others ≡ NoLocals
run_without_count old bytes e others = run_unread old.features old.items old.locals bytes others (no_count bytes e)

pub run_without_type : (old : BodyState) (bytes : List ℕ) (count : ℕ) (mid : List ℕ) → unsigned_at 32 bytes ≡ Some (count, mid)
    → (val_type_at mid ≡ None) ⊎ HasLargeIndex val_refs (val_type_at mid) → (others : Others) → (run_outcome old bytes others ≡ NoLocals) ⊎ HasManyTypes old.items
run_without_type old bytes count mid e (inl none) others = inl (run_unread old.features old.items old.locals bytes others (no_type bytes count mid e none))
run_without_type old bytes count mid e (inr large) others = elim (cases_lt packable (length old.items.types)) [ inl many ↦ inr many | inr few ↦ inl (by_read few (val_type_at mid) refl large) ]
  where
    by_read : length old.items.types ≤ packable → (read : Option (ValType ℕ × List ℕ)) → val_type_at mid ≡ read → HasLargeIndex val_refs read → run_outcome old bytes others ≡ NoLocals
    by_read few None f l = absurd l
    by_read few (Some x) f l =
        run_unwritten old.features old.items old.locals bytes (record { count = count; type = x.0 }) x.1 others (a_run bytes count mid x.0 x.1 e f) (large_unwritten old.features old.items few x.0 l)

fits : (n : ℕ) → ¬ (limits.IsPassedBy limits.Locals n) → n ≤ 50000
fits n not = elim (leb_tells n 50000) [ inl (t, le) ↦ le | inr (t, past) ↦ absurd (not past) ]

type_of : (o : Option (ValType Index)) → is_some o ≡ true → (t : ValType Index) × (o ≡ Some t)
type_of None e = absurd cc
type_of (Some t) e = (t, refl)

here : (from : Input) (at offset : ℕ) → at ≡ offset → offset ≡ from.position → IsWithin from at
here from at offset a o = record { from = omega (arith, a, o); to = omega (arith, a, o) }

module _ (old : BodyState) (from : Input) (count : ℕ) (mid : List ℕ) (type : ValType ℕ) (rest : List ℕ) (counted : unsigned_at 32 from.rest ≡ Some (count, mid)) (typed : val_type_at mid ≡ Some (type, rest)) where
  abbrev run : Run
  run = record { count = count; type = type }

  abbrev StopsAt : ℕ → Type 0
  StopsAt at = StopsAmong old.features old.items 1 old.locals from.rest (left_at from at)

  a_fit : (t : ValType Index) (more : List (Local Index)) → written old.features old.items type ≡ Some t → ¬ (limits.IsPassedBy limits.Locals (length old.locals + count)) → more ≡ old.locals ++ replicate count (declared_local t)
      → Fits old.features old.items old.locals from.rest run more rest
  a_fit t more w within adds = record { type = t; reads = a_run from.rest count mid type rest counted typed; stands = w; within = fits (length old.locals + count) within; adds = adds }

  limit_refused : (limit : Limit) (at offset : ℕ) → offset ≡ from.position → IsRefusedRun (kinds.Limit limit) at offset (length old.locals + count) (written old.features old.items type)
      → ((others : Others) → NamesLocalsFault (HasManyTypes old.items) (StopsAt at) (kinds.Limit limit) (run_outcome old from.rest others)) × IsWithin from at
  limit_refused core.Locals at offset o h =
      let t = type_of (written old.features old.items type) h.0 in
      ((λ others. run_past old.features old.items old.locals from.rest run rest t.0 others (a_run from.rest count mid type rest counted typed) t.1 h.1), here from at offset h.2 o)
  limit_refused _ at offset o h = absurd h

  refused : (kind : ErrorKind) (at offset : ℕ) → offset ≡ from.position → IsRefusedRun kind at offset (length old.locals + count) (written old.features old.items type)
      → ((others : Others) → NamesLocalsFault (HasManyTypes old.items) (StopsAt at) kind (run_outcome old from.rest others)) × IsWithin from at
  refused kinds.Body at offset o h =
      ((λ others. inl (run_unwritten old.features old.items old.locals from.rest run rest others (a_run from.rest count mid type rest counted typed) h.0)), here from at offset h.1 o)
  refused (kinds.Limit limit) at offset o h = limit_refused limit at offset o h
  refused kinds.Memory at offset o h =
      let t = type_of (written old.features old.items type) h.0 in (
        (λ others. (run, old.locals ++ replicate count (declared_local t.0), rest, a_fit t.0 (old.locals ++ replicate count (declared_local t.0)) t.1 h.1 refl, inl (left_here from at offset h.2 o))),
        here from at offset h.2 o,
      )
  refused _ at offset o h = absurd h

pub with_itself : (old new : BodyState) (locals : List (Local Index)) → new ≡ with_locals_in locals old → new ≡ with_locals_in new.locals old
with_itself old new locals e = e ∙ ap (λ l. with_locals_in l old) (sym (ap (λ d. d.locals) e))

pub run_answered : (old new : BodyState) (from mid to : Input) (offset count : ℕ) (type : ValType ℕ) (answer : Result (Unit {0}) Error) → offset ≡ from.position → unsigned_at 32 from.rest ≡ Some (count, mid.rest) → GoesOn from mid
    → val_type_at mid.rest ≡ Some (type, to.rest) → GoesOn mid to → DefinesRun offset count (written old.features old.items type) old new answer → ReadsRun old new from to answer
run_answered old new from mid to offset count type (Ok x) o counted g typed k ((t, w, is), within) = (
  (record { count = count; type = type }, a_fit old from count mid.rest type to.rest counted typed t new.locals w within (ap (λ d. d.locals) is)),
  with_itself old new (old.locals ++ replicate count (declared_local t)) is,
  goes_further from mid to g k,
)
run_answered old new from mid to offset count type (Err e) o counted g typed k h = refused old from count mid.rest type to.rest counted typed e.kind e.offset offset o h

-- ---- the loop over runs

pub runs_begin : (old : BodyState) (bytes : List ℕ) (n : ℕ) (rest : List ℕ) → unsigned_at 32 bytes ≡ Some (n, rest) → length old.locals ≤ 50000
    → runs_outcome old.features old.items (n - 0) old.locals rest ≡ locals_outcome old.features old.items old.locals bytes
runs_begin old bytes n rest e le =
    let k : n - 0 ≡ n = omega arith in
    ap (λ m. runs_outcome old.features old.items m old.locals rest) k ∙ sym (params_fit old.features old.items old.locals bytes n rest e le)

fitted : (old : BodyState) (bytes : List ℕ) (run : Run) (more : List (Local Index)) (after : List ℕ) → Fits old.features old.items old.locals bytes run more after → (others : Others) → run_outcome old bytes others ≡ others more after
fitted old bytes run more after f others = run_fits old.features old.items old.locals bytes run after f.type others f.reads f.stands f.within ∙ ap (λ l. others l after) (sym f.adds)

pub runs_go_on : (old new : BodyState) (n i : ℕ) (bytes after : List ℕ) (all : LocalsOutcome Index) → i < n → ((run : Run) × Fits old.features old.items old.locals bytes run new.locals after) → new ≡ with_locals_in new.locals old
    → runs_outcome old.features old.items (n - i) old.locals bytes ≡ all → runs_outcome new.features new.items (n - (i + 1)) new.locals after ≡ all
unfolding runs_outcome
runs_go_on old new n i bytes after all lt one same so_far =
    let k : n - i ≡ suc (n - (i + 1)) = omega arith in
    ap (λ (d : BodyState). runs_outcome d.features d.items (n - (i + 1)) new.locals after) same ∙ sym (fitted old bytes one.0 new.locals after one.1 (λ more rest. runs_outcome old.features old.items (n - (i + 1)) more rest)) ∙ (rw k at so_far)

-- where memory runs out

abbrev pub StopsSince : BodyState → List ℕ → BodyState → ℕ → List ℕ → Type 0
StopsSince start bytes old n rest = (left : ℕ) → StopsAmong old.features old.items n old.locals rest left → StopsInRuns start.features start.items start.locals bytes left

pub stops_begin : (old : BodyState) (bytes : List ℕ) (n : ℕ) (rest : List ℕ) → unsigned_at 32 bytes ≡ Some (n, rest) → StopsSince old bytes old (n - 0) rest
stops_begin old bytes n rest e left h =
    let k : n - 0 ≡ n = omega arith in
    record { count = n; rest = rest; counted = e; among = subst (λ m. StopsAmong old.features old.items m old.locals rest left) k h }

pub stops_go_on : (start old new : BodyState) (n i : ℕ) (bytes rest after : List ℕ) → i < n → ((run : Run) × Fits old.features old.items old.locals rest run new.locals after) → new ≡ with_locals_in new.locals old
    → StopsSince start bytes old (n - i) rest → StopsSince start bytes new (n - (i + 1)) after
stops_go_on start old new n i bytes rest after lt one same so_far left h =
    let k : suc (n - (i + 1)) ≡ n - i = omega arith in
    let later : StopsAmong old.features old.items (n - (i + 1)) new.locals after left = subst (λ (d : BodyState). StopsAmong d.features d.items (n - (i + 1)) new.locals after left) same h in
    so_far left (subst (λ m. StopsAmong old.features old.items m old.locals rest left) k (one.0, new.locals, after, one.1, inr later))

-- a run of one is a run of many
first_of_many : (old : BodyState) (n i : ℕ) (rest : List ℕ) (left : ℕ) → i < n → StopsAmong old.features old.items 1 old.locals rest left → StopsAmong old.features old.items (n - i) old.locals rest left
first_of_many old n i rest left lt (run, more, after, f, inr none) = absurd none
first_of_many old n i rest left lt (run, more, after, f, inl here) =
    let k : suc (n - (i + 1)) ≡ n - i = omega arith in
    subst (λ m. StopsAmong old.features old.items m old.locals rest left) k (run, more, after, f, inl here)

-- the fault of what was left is that of all
locals_fault_later : (unpacked so_far all_so_far : Type 0) (kind : ErrorKind) (outcome : LocalsOutcome Index) → (so_far → all_so_far) → NamesLocalsFault unpacked so_far kind outcome → NamesLocalsFault unpacked all_so_far kind outcome
locals_fault_later unpacked so_far all_so_far kinds.Body outcome further h = h
locals_fault_later unpacked so_far all_so_far (kinds.Limit limit) outcome further h = by_limit limit h
  where
    by_limit : (limit : Limit) → NamesLocalsFault unpacked so_far (kinds.Limit limit) outcome → NamesLocalsFault unpacked all_so_far (kinds.Limit limit) outcome
    by_limit core.Locals f = f
    by_limit _ f = absurd f
locals_fault_later unpacked so_far all_so_far kinds.Memory outcome further h = further h
locals_fault_later unpacked so_far all_so_far _ outcome further h = absurd h

pub runs_fail : (start old : BodyState) (from mid : Input) (kind : ErrorKind) (n i offset : ℕ) (all : LocalsOutcome Index) → old ≡ with_locals_in old.locals start → i < n → GoesOn from mid → StopsSince start from.rest old (n - i) mid.rest
    → ((others : Others) → NamesLocalsFault (HasManyTypes old.items) (StopsAmong old.features old.items 1 old.locals mid.rest (left_at mid offset)) kind (run_outcome old mid.rest others))
    → runs_outcome old.features old.items (n - i) old.locals mid.rest ≡ all
    → NamesLocalsFault (HasManyTypes start.items) (StopsInRuns start.features start.items start.locals from.rest (left_at from offset)) kind all
unfolding runs_outcome
runs_fail start old from mid kind n i offset all same lt g stops one so_far =
    let k : n - i ≡ suc (n - (i + 1)) = omega arith in
    let before = StopsAmong old.features old.items 1 old.locals mid.rest (left_at mid offset) in
    let after = StopsInRuns start.features start.items start.locals from.rest (left_at from offset) in
    let fault = subst (NamesLocalsFault (HasManyTypes old.items) before kind) (rw k at so_far) (one (λ more rest. runs_outcome old.features old.items (n - (i + 1)) more rest)) in
    locals_fault_later (HasManyTypes start.items) before after kind all
    (λ s. subst (StopsInRuns start.features start.items start.locals from.rest) (left_later from mid offset g) (stops (left_at mid offset) (first_of_many old n i mid.rest (left_at mid offset) lt s)))
    (subst (λ (d : BodyState). NamesLocalsFault (HasManyTypes d.items) before kind all) same fault)

pub all_read : (old : BodyState) (n i : ℕ) (bytes : List ℕ) (all : LocalsOutcome Index) → n ≤ i → runs_outcome old.features old.items (n - i) old.locals bytes ≡ all → all ≡ Locals old.locals bytes
unfolding runs_outcome
all_read old n i bytes all le so_far = let k : n - i ≡ 0 = omega arith in sym (rw k at so_far)

pub locals_unread : (old : BodyState) (bytes : List ℕ) → unsigned_at 32 bytes ≡ None → locals_outcome old.features old.items old.locals bytes ≡ NoLocals
locals_unread old bytes e = count_unread old.features old.items old.locals bytes e

-- with what was defined since, and then with that after it
pub since : (start old new : BodyState) → old ≡ with_locals_in old.locals start → new ≡ with_locals_in new.locals old → new ≡ with_locals_in new.locals start
since start old new a b = b ∙ ap (λ (d : BodyState). with_locals_in new.locals d) a

-- ---- refusals

pub broken_locals : (unpacked : Type 0) (so_far : ℕ → Type 0) (from : Input) (e : Error) (offset : ℕ) (outcome : LocalsOutcome Index) → e ≡ record { offset = offset; kind = kinds.Body } → offset ≡ from.position → outcome ≡ NoLocals
    → NamesLocalsFault unpacked (so_far (left_at from e.offset)) e.kind outcome × IsWithin from e.offset
broken_locals unpacked so_far from e offset outcome is o none =
    subst (λ (x : Error). NamesLocalsFault unpacked (so_far (left_at from x.offset)) x.kind outcome × IsWithin from x.offset) (sym is) (inl none, here from offset offset refl o)

pub broken_run : (unpacked : Type 0) (so_far : ℕ → Type 0) (from : Input) (e : Error) (offset : ℕ) (outcome : Others → LocalsOutcome Index) → e ≡ record { offset = offset; kind = kinds.Body } → offset ≡ from.position
    → ((others : Others) → (outcome others ≡ NoLocals) ⊎ unpacked) → ((others : Others) → NamesLocalsFault unpacked (so_far (left_at from e.offset)) e.kind (outcome others)) × IsWithin from e.offset
broken_run unpacked so_far from e offset outcome is o none =
    subst (λ (x : Error). ((others : Others) → NamesLocalsFault unpacked (so_far (left_at from x.offset)) x.kind (outcome others)) × IsWithin from x.offset) (sym is) (none, here from offset offset refl o)

-- ---- the whole body

-- what is refused of the locals is refused of the body
pub locals_refused : (unpacked so_far all_so_far : Type 0) → (so_far → all_so_far) → (kind : ErrorKind) (outcome : LocalsOutcome Index) (code : List (Local Index) → List ℕ → BodyOutcome)
    → NamesLocalsFault unpacked so_far kind outcome → NamesFault unpacked all_so_far kind (with_code outcome code)
locals_refused unpacked so_far all_so_far further kinds.Body outcome code (inl e) = inl (ap (λ o. with_code o code) e)
locals_refused unpacked so_far all_so_far further kinds.Body outcome code (inr h) = inr h
locals_refused unpacked so_far all_so_far further (kinds.Limit limit) outcome code e = by_limit limit e
  where
    by_limit : (limit : Limit) → NamesLocalsFault unpacked so_far (kinds.Limit limit) outcome → NamesFault unpacked all_so_far (kinds.Limit limit) (with_code outcome code)
    by_limit core.Locals f = ap (λ o. with_code o code) f
    by_limit _ f = absurd f
locals_refused unpacked so_far all_so_far further kinds.Memory outcome code e = further e
locals_refused unpacked so_far all_so_far further _ outcome code e = absurd e
