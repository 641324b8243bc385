-- Sections that were read are a module where there are as many bodies as functions, and as many data segments as the data count states.
use Rattle.std.proofs.Common.{◌≡◌, ◌⊎◌, inl, inr, Result, Ok, Err, ℕ, true, ◌==◌, ◌&&◌, ◌≤◌, false, List, [], ◌∷◌, length, Option, Some, None, refl, sym, ap, subst, ◌∙◌, arith}
use Rattle.std.specs.List.{AllByRecursion}
use Rattle.std.specs.Prelude.{⊤, IfOk}
use Rattle.std.proofs.lemmas.Bool.{and_parts, eq-eqb, eqb-true}
use Rattle.std.proofs.lemmas.List.{length-map}
use Rattle.wasm_core_read.specs.Input.{Input}
use Rattle.wasm_spec.specs.Features.{Features, CompactImports, has}
use Rattle.wasm_spec.specs.Grammar.{AreOrdered, IsModule}
use Rattle.wasm_spec.specs.Syntax.{Section, Custom, TypeSection, ImportSection, FunctionSection, TableSection, MemorySection, TagSection, GlobalSection, ExportSection, StartSection, ElementSection, DataCountSection, CodeSection, DataSection, functions_of, bodies_of, data_of, data_counts_of}
use Rattle.wasm_core_types.specs.Limits as core
use Rattle.wasm_validity.specs.Context.{Context, at_first}
use Rattle.wasm_validity.specs.Entries.{Entry, entries_of}
use Rattle.wasm_validity.specs.Rules.{KeepRules, PassLimit}
use Rattle.wasmparser_payloads.specs.PieceEntries.{entries_said, items_of, said_first}
use Rattle.wasmparser_payloads.specs.Pieces.{End}
use Rattle.wasmparser_payloads.proofs.ModuleFronts.{all_alike, module_is_whole, whole_is_module}
use Rattle.wasmparser_error.specs.declared.error.Error.{Error}
use Rattle.wasmparser_error.specs.declared.error.ErrorKind.{ErrorKind}
use Rattle.wasmparser_error.specs.declared.error.ErrorKind.TheVariants as kinds
use Rattle.wasm_spec.specs.Trees.{DefType}
use Rattle.wasmparser_module_state.specs.History.{EnterAll, OneFindsNoRoom}
use Rattle.wasmparser_module_state.specs.State.{context}
use Rattle.wasmparser_module_types.specs.ModuleTypes.{KnownTypes}
use Rattle.wasmparser_validator.specs.Judges.{AcceptsEnd, EndsModule, IsWaitedAt, Judge, NamesWaited, RefusesPiece, agrees, agrees_with_stated, may_stand_between, place_of, waits_for, waits_in}
use Rattle.wasmparser_validator.specs.KnownSpaces.{IsEndOf, KnownModule}
use Rattle.wasmparser_validator.specs.PieceJudging.{IsFirstOf, IsFrontOf, IsInPiece, by_itself, with_some}
use Rattle.wasmparser_validator.specs.Sections.{AreRead, AreAccepted, NamesSections, RefusesSections, ValidatesSections, latest}
use Rattle.wasmparser_validator.specs.declared.validator.Stage.TheVariants as stages
use Rattle.wasmparser_validator.proofs.SectionEntries.{functions_of_sections, segments_of_sections}

-- ---- one data count

-- no data count section comes after one
none_later : (last : ℕ) (sections : List Section) → 11 ≤ last → AreOrdered last sections → data_counts_of sections ≡ []
none_later last [] past h = refl
none_later last (Custom name contents ∷ sections) past h = none_later last sections past h.1
none_later last (TypeSection groups ∷ sections) past h = absurd (omega (arith, past, h.0))
none_later last (ImportSection imports ∷ sections) past h = absurd (omega (arith, past, h.0))
none_later last (FunctionSection indexes ∷ sections) past h = absurd (omega (arith, past, h.0))
none_later last (TableSection tables ∷ sections) past h = absurd (omega (arith, past, h.0))
none_later last (MemorySection types ∷ sections) past h = absurd (omega (arith, past, h.0))
none_later last (TagSection indexes ∷ sections) past h = absurd (omega (arith, past, h.0))
none_later last (GlobalSection globals ∷ sections) past h = absurd (omega (arith, past, h.0))
none_later last (ExportSection exports ∷ sections) past h = absurd (omega (arith, past, h.0))
none_later last (StartSection function ∷ sections) past h = absurd (omega (arith, past, h.0))
none_later last (ElementSection segments ∷ sections) past h = absurd (omega (arith, past, h.0))
none_later last (DataCountSection count ∷ sections) past h = absurd (omega (arith, past, h.0))
none_later last (CodeSection bodies ∷ sections) past h = none_later 12 sections (omega arith) h.1
none_later last (DataSection segments ∷ sections) past h = none_later 13 sections (omega arith) h.1

abbrev IsOneAtMost : List ℕ → Type 0
IsOneAtMost [] = ⊤
IsOneAtMost (number ∷ numbers) = numbers ≡ []

one_at_most : (last : ℕ) (sections : List Section) → AreOrdered last sections → IsOneAtMost (data_counts_of sections)
one_at_most last [] h = tt
one_at_most last (Custom name contents ∷ sections) h = one_at_most last sections h.1
one_at_most last (TypeSection groups ∷ sections) h = one_at_most 1 sections h.1
one_at_most last (ImportSection imports ∷ sections) h = one_at_most 2 sections h.1
one_at_most last (FunctionSection indexes ∷ sections) h = one_at_most 3 sections h.1
one_at_most last (TableSection tables ∷ sections) h = one_at_most 4 sections h.1
one_at_most last (MemorySection types ∷ sections) h = one_at_most 5 sections h.1
one_at_most last (TagSection indexes ∷ sections) h = one_at_most 6 sections h.1
one_at_most last (GlobalSection globals ∷ sections) h = one_at_most 7 sections h.1
one_at_most last (ExportSection exports ∷ sections) h = one_at_most 8 sections h.1
one_at_most last (StartSection function ∷ sections) h = one_at_most 9 sections h.1
one_at_most last (ElementSection segments ∷ sections) h = one_at_most 10 sections h.1
one_at_most last (DataCountSection count ∷ sections) h = none_later 11 sections (omega arith) h.1
one_at_most last (CodeSection bodies ∷ sections) h = one_at_most 12 sections h.1
one_at_most last (DataSection segments ∷ sections) h = one_at_most 13 sections h.1

all_counted : (segments : ℕ) (counts : List ℕ) → IsOneAtMost counts → agrees_with_stated segments (latest None counts) ≡ true → AllByRecursion (λ count. count ≡ segments) counts
all_counted segments [] one h = tt
all_counted segments (count ∷ []) one h = (eqb-true count segments h, tt)
all_counted segments (count ∷ (other ∷ counts)) one h = absurd cc

last_counted : (segments : ℕ) (counts : List ℕ) → IsOneAtMost counts → AllByRecursion (λ count. count ≡ segments) counts → agrees_with_stated segments (latest None counts) ≡ true
last_counted segments [] one h = refl
last_counted segments (count ∷ []) one h = eq-eqb count segments h.0
last_counted segments (count ∷ (other ∷ counts)) one h = absurd cc

-- ---- what was read, and what is known of it

module _ (features : Features) (bytes : List ℕ) (first_held : List DefType) (cx : Context) (held : List DefType) (given : List Input) (stated : Option ℕ) (r : AreRead features bytes first_held cx held given stated) where
  count_of_functions : length cx.own_functions ≡ length (functions_of r.sections)
  count_of_functions = ap (λ (c : Context). length c.own_functions) r.known ∙ ap (λ (l : List ℕ). length l) (functions_of_sections r.sections)

  count_of_bodies : length given ≡ length (bodies_of r.sections)
  count_of_bodies = sym (length-map given (λ (b : Input). b.rest)) ∙ ap (λ (l : List (List ℕ)). length l) r.bodies

  count_of_segments : cx.segments ≡ length (data_of r.sections)
  count_of_segments = ap (λ (c : Context). c.segments) r.known ∙ segments_of_sections r.sections

  one : IsOneAtMost (data_counts_of r.sections)
  one = one_at_most 0 r.sections r.reads.ordered

  -- the counts agree that are compared at the end
  abbrev Agree : Type 0
  Agree = ((length cx.own_functions == length given) && agrees_with_stated cx.segments stated) ≡ true

  agreeing : Agree → IsModule (has features CompactImports) bytes r.sections
  agreeing agree =
      let both = and_parts (length cx.own_functions == length given) (agrees_with_stated cx.segments stated) agree in
      whole_is_module (has features CompactImports) bytes r.sections r.reads
      (sym count_of_functions ∙ eqb-true (length cx.own_functions) (length given) both.0 ∙ count_of_bodies)
      (subst (λ (n : ℕ). AllByRecursion (λ count. count ≡ n) (data_counts_of r.sections)) count_of_segments
      (all_counted cx.segments (data_counts_of r.sections) one (subst (λ (o : Option ℕ). agrees_with_stated cx.segments o ≡ true) r.count both.1)))

  -- no other sections are read of the same bytes
  of_module : (sections : List Section) → IsModule (has features CompactImports) bytes sections → Agree
  of_module sections m =
      let same : sections ≡ r.sections = sym (all_alike (has features CompactImports) bytes r.sections sections r.reads (module_is_whole (has features CompactImports) bytes sections m)) in
      let here : IsModule (has features CompactImports) bytes r.sections = subst (IsModule (has features CompactImports) bytes) same m in
      let counted = last_counted cx.segments (data_counts_of r.sections) one
      (subst (λ (n : ℕ). AllByRecursion (λ count. count ≡ n) (data_counts_of r.sections)) (sym count_of_segments) here.counted) in
      rw (eq-eqb (length cx.own_functions) (length given) (count_of_functions ∙ here.agreeing ∙ sym count_of_bodies))
      (subst (λ (o : Option ℕ). agrees_with_stated cx.segments o ≡ true) (sym r.count) counted)

-- ---- the end

-- the end is accepted of sections that were read
accepted : (features : Features) (bytes : List ℕ) (first_held : List DefType) (j new : Judge) (position : ℕ) (known shown : KnownModule) (given : List Input)
    → AreRead features bytes first_held j.known j.held given j.stated → j.bodies ≡ length given → j.features ≡ features → AcceptsEnd j position shown new → IsEndOf known shown
    → AreAccepted features first_held bytes shown given
unfolding agrees
accepted features bytes first_held j new position known shown given r counted same a end = record {
  sections = r.sections;
  reads = agreeing features bytes first_held j.known j.held given j.stated r (subst (λ n. ((length j.known.own_functions == n) && agrees_with_stated j.known.segments j.stated) ≡ true) counted a.agreed);
  fine = r.fine;
  known = a.all ∙ r.known;
  entered = subst (λ held. EnterAll features at_first first_held (entries_of r.sections) held) (sym a.all_types) r.entered;
  rests = ap (λ (t : KnownTypes). t.grows) end.types;
  same_features = a.features ∙ same;
  bodies = r.bodies;
  inside = r.inside;
}

-- nothing stands at the front of the end
none_said : (position : ℕ) (front : List Entry) → IsFrontOf (End position) front → front ≡ []
unfolding said_first items_of
none_said position front (by_itself is) = is
none_said position front (with_some items others has reads is) = absurd cc

-- the end is refused only where the counts disagree, which no module's do, or memory runs out
refused : (features : Features) (bytes : List ℕ) (first_held : List DefType) (j new : Judge) (given : List Input) (e : Error) → AreRead features bytes first_held j.known j.held given j.stated
    → j.bodies ≡ length given → waits_for j (End (length bytes)) ≡ true → RefusesPiece (waits_for j (End (length bytes))) j (End (length bytes)) e new → RefusesSections features first_held bytes e
unfolding agrees entries_said said_first items_of place_of IsFirstOf
refused features bytes first_held j new given e r counted waited h = by_kind e.kind (rw waited at h).0 (rw waited at h).1
  where
    placed : (e.offset ≡ length bytes) ⊎ IsInPiece (End (length bytes)) e.offset → e.offset ≤ length bytes
    placed at = elim at [ inl end ↦ omega (arith, end) | inr there ↦ elim there [ inl first ↦ absurd first | inr among ↦ absurd among ] ]

    by_kind : (kind : ErrorKind) → NamesWaited j (End (length bytes)) kind → IsWaitedAt (End (length bytes)) e.offset
        → NamesSections features first_held bytes kind × (e.offset ≤ length bytes)
    by_kind kinds.Malformed names at = (
      λ sections m.
          let agree = of_module features bytes first_held j.known j.held given j.stated r sections m in
          elim names [
            | inl not ↦ let w = sym (subst (λ n. ((length j.known.own_functions == n) && agrees_with_stated j.known.segments j.stated) ≡ true) (sym counted) agree) ∙ not in absurd cc
            | inr none ↦ absurd cc
          ],
      placed at,
    )
    by_kind kinds.Invalid names at =
        absurd (names.holds (subst (λ es. KeepRules j.features j.known es) (sym (none_said (length bytes) names.front names.is)) tt))
    by_kind (kinds.Limit l) names at = absurd (subst (λ es. PassLimit (core.limit l) j.known es) (none_said (length bytes) names.front names.is) names.holds)
    by_kind kinds.Total names at = absurd (subst (λ es. OneFindsNoRoom j.features j.known j.held es) (none_said (length bytes) names.front names.is) names.holds)
    by_kind kinds.Memory names at = (tt, placed at)
    by_kind kinds.Operator names at = absurd names
    by_kind kinds.Body names at = absurd names
    by_kind kinds.Order names at = absurd names
    by_kind kinds.Failed names at = absurd names

pub ended : (features : Features) (bytes : List ℕ) (first_held : List DefType) (j new : Judge) (known : KnownModule) (given : List Input) (result : Result KnownModule Error)
    → AreRead features bytes first_held j.known j.held given j.stated → j.bodies ≡ length given → j.features ≡ features → j.stage ≡ stages.Sections
    → EndsModule j (length bytes) result new → IfOk result (IsEndOf known) → ValidatesSections features first_held bytes result given
unfolding waits_in may_stand_between
ended features bytes first_held j new known given (Ok shown) r counted same stage h end = accepted features bytes first_held j new (length bytes) known shown given r counted same h end
ended features bytes first_held j new known given (Err e) r counted same stage h end =
    refused features bytes first_held j new given e r counted (ap (λ s. waits_in s j (End (length bytes))) stage) h

-- there are as many bodies as functions where the end is accepted
pub paired : (j new : Judge) (position : ℕ) (given : List Input) (result : Result KnownModule Error) → j.bodies ≡ length given → EndsModule j position result new
    → IfOk result (λ ended. length (context ended.state).own_functions ≡ length given)
unfolding agrees
paired j new position given (Ok shown) counted a =
    ap (λ (cx : Context). length cx.own_functions) a.all ∙ eqb-true (length j.known.own_functions) j.bodies (and_parts (length j.known.own_functions == j.bodies) (agrees_with_stated j.known.segments j.stated) a.agreed).0 ∙ counted
paired j new position given (Err e) counted a = tt
