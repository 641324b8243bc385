-- Judging what a piece says, kind by kind.
use Rattle.std.proofs.Common.{◌≡◌, ◌≢◌, ◌<◌, ◌⊎◌, inl, inr, ℕ, List, [], ◌∷◌, ◌++◌, Some, None, IfErr, refl, sym, ap, subst, ◌∙◌, Ok, Err, Result}
use Rattle.std.specs.Prelude.{⊤}
use Rattle.wasm_core_types.specs.Limits as core
use Rattle.wasm_core_read.specs.Input.{Input, IsWithin}
use Rattle.wasm_core_read.specs.PartReading.{import_at, table_at, global_at, export_at, element_at, data_at}
use Rattle.wasm_core_read.specs.Reading.{ReadingOf, unsigned_at}
use Rattle.wasm_core_read.specs.TypeReading.{rec_group_at, limits_at, tag_type_at}
use Rattle.wasm_spec.specs.Features.{Features, CompactImports, has}
use Rattle.wasm_validity.specs.Context.{Context, after_all}
use Rattle.wasm_validity.specs.Entries.{Entry, OfCustom, OfType, OfImport, OfFunction, OfTable, OfMemory, OfTags, OfTag, OfGlobal, OfExport, OfStart, OfElement, OfDataCount, OfBody, OfData}
use Rattle.wasm_validity.specs.Rules.{KeepRules, KeepLimits, PassLimit, Passes, PassesByTypes, measures}
use Rattle.wasmparser_error.specs.declared.error.Error.{Error}
use Rattle.wasmparser_error.specs.declared.error.ErrorKind.{ErrorKind}
use Rattle.wasmparser_error.specs.declared.error.ErrorKind.TheVariants as kinds
use Rattle.wasmparser_payloads.specs.EntryReading.{type_entry_at, import_entry_at, function_entry_at, table_entry_at, memory_entry_at, tag_entry_at, global_entry_at, export_entry_at, element_entry_at, data_entry_at}
use Rattle.wasmparser_payloads.specs.PieceEntries.{items_of, said_first, with_items, entries_said}
use Rattle.wasm_spec.specs.Trees.{DefType}
use Rattle.wasmparser_module_state.specs.History.{EnterAll, EntersEntry, OneFindsNoRoom}
use Rattle.wasmparser_module_state.specs.Judging.{Accepts, Adds, NamesEntry, IsAt, Fronts, NamesEntries, OneRunsOut, AddsEntries}
use Rattle.wasmparser_module_types.specs.ModuleTypes.{KnownTypes}
use Rattle.wasmparser_payloads.specs.Pieces.{Piece, Place, Version, Types, Imports, Functions, Tables, Memories, Tags, Globals, Exports, Start, Elements, DataCount, CodeStart, Body, Segments, Custom, Unknown, End, Named}
use Rattle.wasmparser_readers.specs.Sections.{Left, Limited, left_items}
use Rattle.wasmparser_validator.specs.PieceJudging.{Says, by_itself, with_some, PieceBegins, IsFirstOf, IsAmong, IsInPiece, ReadsGroups, NamesPiece, AddsPiece, RefusesAt}
use Rattle.wasmparser_validator.proofs.EntryLists.{after_both, enter_both, keep_both, keep_others, no_room_both, past_others, runs_out_both, within_both}
use Rattle.wasmparser_validator.proofs.PieceItems.{as_entries}

-- ---- pieces that say one entry by themselves

-- a refusal of the entry refuses the piece
refused_first : (features : Features) (old : Context) (held : List DefType) (p : Piece) (entry : Entry) (place : ℕ) (kind : ErrorKind) (offset : ℕ) → said_first p ≡ entry ∷ [] → IsFirstOf p place
    → kind ≢ kinds.Memory → NamesEntry features old held entry kind × IsAt place kind offset → NamesPiece features old held p kind × IsInPiece p offset
refused_first features old held p entry place kind offset said first takes h = by_kind kind takes h
  where
    placed : offset ≡ place → IsInPiece p offset
    placed e = inl (subst (IsFirstOf p) (sym e) first)

    by_kind : (kind : ErrorKind) → kind ≢ kinds.Memory → NamesEntry features old held entry kind × IsAt place kind offset → NamesPiece features old held p kind × IsInPiece p offset
    by_kind kinds.Invalid t h = (record { front = entry ∷ []; is = by_itself (sym said); holds = λ k. h.0 k.0 }, placed h.1)
    by_kind (kinds.Limit l) t h = (record { front = entry ∷ []; is = by_itself (sym said); holds = of_entry h.0 }, placed h.1)
      where
        of_entry : Passes (core.limit l) (measures old entry) ⊎ PassesByTypes (core.limit l) old entry → PassLimit (core.limit l) old (entry ∷ [])
        of_entry (inl q) = inl q
        of_entry (inr q) = inr (inl q)
    by_kind kinds.Total t h = (record { front = entry ∷ []; is = by_itself (sym said); holds = inl h.0 }, placed h.1)
    by_kind kinds.Memory t h = absurd (t refl)
    by_kind kinds.Malformed t h = absurd h.0
    by_kind kinds.Operator t h = absurd h.0
    by_kind kinds.Body t h = absurd h.0
    by_kind kinds.Order t h = absurd h.0
    by_kind kinds.Failed t h = absurd h.0

-- a call that takes no memory
abbrev TakesNone : Result (Unit {0}) Error → Type 0
TakesNone result = IfErr result (λ e. e.kind ≢ kinds.Memory)

says_one : (features : Features) (old : Context) (held : List DefType) (p : Piece) (entry : Entry) (new : Context) → entries_said p ≡ Some (entry ∷ []) → EntersEntry features old held entry held
    → Accepts features old entry new → Says features old held p new held
says_one features old held p entry new said enters h =
    record { entries = entry ∷ []; said = said; rules = (h.rule, tt); limits = (h.limits, tt); known = h.known; entered = (held, enters, refl) }

adds_one : (features : Features) (old : Context) (held : List DefType) (p : Piece) (entry : Entry) (place : ℕ) (result : Result (Unit {0}) Error) (new : Context) → said_first p ≡ entry ∷ []
    → entries_said p ≡ Some (entry ∷ []) → IsFirstOf p place → EntersEntry features old held entry held → TakesNone result → Adds features old held entry place result new → AddsPiece features old held p result new held
adds_one features old held p entry place (Ok x) new first said placed enters none h = says_one features old held p entry new said enters h
adds_one features old held p entry place (Err e) new first said placed enters none h = refused_first features old held p entry place e.kind e.offset first placed none (h.0, h.1)

pub adds_start : (features : Features) (old : Context) (held : List DefType) (function : ℕ) (place : Place) (result : Result (Unit {0}) Error) → TakesNone result → Adds features old held (OfStart function) place.start result old → AddsPiece features old held (Start function place) result old held
unfolding said_first entries_said items_of IsFirstOf
adds_start features old held function place result none h = adds_one features old held (Start function place) (OfStart function) place.start result old refl refl refl refl none h

pub adds_custom : (features : Features) (old : Context) (held : List DefType) (section : Named) (result : Result (Unit {0}) Error) → TakesNone result → Adds features old held (OfCustom section.name) section.start result old → AddsPiece features old held (Custom section) result old held
unfolding said_first entries_said items_of IsFirstOf
adds_custom features old held section result none h = adds_one features old held (Custom section) (OfCustom section.name) section.start result old refl refl refl refl none h

pub adds_body : (features : Features) (old : Context) (held : List DefType) (body : Input) (result : Result (Unit {0}) Error) → TakesNone result → Adds features old held (OfBody body.rest) body.position result old → AddsPiece features old held (Body body) result old held
unfolding said_first entries_said items_of IsFirstOf
adds_body features old held body result none h = adds_one features old held (Body body) (OfBody body.rest) body.position result old refl refl refl refl none h

-- which changes nothing of the types
pub adds_data_count : (features : Features) (old new : Context) (types known : KnownTypes) (count : ℕ) (place : Place) (result : Result (Unit {0}) Error) → TakesNone result → known ≡ types
    → Adds features old types.interned (OfDataCount count) place.start result new → AddsPiece features old types.interned (DataCount count place) result new known.interned
unfolding said_first entries_said items_of IsFirstOf
adds_data_count features old new types known count place result none same h =
    subst (λ (held : List DefType). AddsPiece features old types.interned (DataCount count place) result new held) (sym (ap (λ (known : KnownTypes). known.interned) same))
    (adds_one features old types.interned (DataCount count place) (OfDataCount count) place.start result new refl refl refl refl none h)

-- ---- pieces that say nothing

says_nothing : (features : Features) (old : Context) (held : List DefType) (p : Piece) → entries_said p ≡ Some [] → Says features old held p old held
says_nothing features old held p said = record { entries = []; said = said; rules = tt; limits = tt; known = refl; entered = refl }

pub header_says_nothing : (features : Features) (old : Context) (held : List DefType) (num : ℕ) (place : Place) → Says features old held (Version num place) old held
unfolding said_first entries_said items_of
header_says_nothing features old held num place = says_nothing features old held (Version num place) refl

pub code_start_says_nothing : (features : Features) (old : Context) (held : List DefType) (count : ℕ) (place : Place) (size : ℕ) → Says features old held (CodeStart count place size) old held
unfolding said_first entries_said items_of
code_start_says_nothing features old held count place size = says_nothing features old held (CodeStart count place size) refl

pub end_says_nothing : (features : Features) (old : Context) (held : List DefType) (place : ℕ) → Says features old held (End place) old held
unfolding said_first entries_said items_of
end_says_nothing features old held place = says_nothing features old held (End place) refl

-- ---- pieces with items of one kind

-- a piece with these items, that says some entries first
record HasItems {A : Type 0} (p : Piece) (first : List Entry) (made : A → Entry) (form_at : Features → ReadingOf A) (left : Left) : Type 0 where
  items : items_of p ≡ Some (record { entry_at = as_entries made form_at; left = left })
  says_first : said_first p ≡ first
  said : entries_said p ≡ with_items first (Some (record { entry_at = as_entries made form_at; left = left }))

adds_items : {A : Type 0} (takes_memory : Type 0) (p : Piece) (left : Left) → (takes_memory → 0 < left.count → ReadsGroups p) → (features : Features) (old mid : Context) (held : List DefType) (first : List Entry) (made : A → Entry) (form_at : Features → ReadingOf A)
    (result : Result (Unit {0}) Error) (new : Context) (new_held : List DefType) → HasItems p first made form_at left → KeepRules features old first → KeepLimits old first → EnterAll features old held first held
    → mid ≡ after_all old first → AddsEntries features (as_entries made form_at) takes_memory mid held left result new new_held → AddsPiece features old held p result new new_held
adds_items takes_memory p left reads features old mid held first made form_at (Ok x) new new_held its rules limits enter known h =
    record {
      entries = first ++ h.entries;
      said = its.said ∙ rw h.reads refl;
      rules = keep_both features old first h.entries rules (subst (λ cx. KeepRules features cx h.entries) known h.rules);
      limits = within_both old first h.entries limits (subst (λ cx. KeepLimits cx h.entries) known h.limits);
      known = h.known ∙ ap (λ cx. after_all cx h.entries) known ∙ sym (after_both old first h.entries);
      entered = enter_both features old held held new_held first h.entries enter (subst (λ cx. EnterAll features cx held h.entries new_held) known h.entered);
    }
adds_items takes_memory p left reads features old mid held first made form_at (Err e) new new_held its rules limits enter known h = by_kind e.kind h
  where
    unread : left_items (as_entries made form_at) left ≡ None → entries_said p ≡ None
    unread none = its.said ∙ rw none refl

    placed : IsWithin left.input e.offset → IsInPiece p e.offset
    placed w = inr (subst (λ items. IsAmong items e.offset) (sym its.items) w)

    begun : (Holds Held : List Entry → Type 0) (f : Fronts (as_entries made form_at) left Holds) → Held (first ++ f.front) → PieceBegins p Held
    begun Holds Held f holds = record {
      front = first ++ f.front;
      is = with_some (record { entry_at = as_entries made form_at; left = left }) f.front its.items (record { number = f.number; rest = f.rest; among = f.among; reads = f.reads }) (ap (λ l. l ++ f.front) (sym its.says_first));
      holds = holds;
    }

    runs_out : (takes_memory × (0 < left.count)) ⊎ Fronts (as_entries made form_at) left (λ es. OneRunsOut features mid es) → ReadsGroups p ⊎ PieceBegins p (λ es. OneRunsOut features old es)
    runs_out (inl (takes, some)) = inl (reads takes some)
    runs_out (inr f) = inr (begun _ (λ es. OneRunsOut features old es) f (runs_out_both features old first f.front rules limits (subst (λ cx. OneRunsOut features cx f.front) known f.holds)))

    by_kind : (kind : ErrorKind) → NamesEntries features (as_entries made form_at) takes_memory mid held left kind × IsWithin left.input e.offset → NamesPiece features old held p kind × IsInPiece p e.offset
    by_kind kinds.Malformed h = (unread h.0, placed h.1)
    by_kind kinds.Invalid h =
        (begun _ (λ es. ¬ (KeepRules features old es)) h.0 (λ k. h.0.holds (subst (λ cx. KeepRules features cx h.0.front) (sym known) (keep_others features old first h.0.front k))), placed h.1)
    by_kind (kinds.Limit l) h =
        (begun _ (PassLimit (core.limit l) old) h.0 (past_others (core.limit l) old first h.0.front (subst (λ cx. PassLimit (core.limit l) cx h.0.front) known h.0.holds)), placed h.1)
    by_kind kinds.Total h =
        (begun _ (OneFindsNoRoom features old held) h.0 (no_room_both features old held held first h.0.front rules limits enter (subst (λ cx. OneFindsNoRoom features cx held h.0.front) known h.0.holds)), placed h.1)
    by_kind kinds.Memory h = (runs_out h.0, placed h.1)
    by_kind kinds.Operator h = absurd h.0
    by_kind kinds.Body h = absurd h.0
    by_kind kinds.Order h = absurd h.0
    by_kind kinds.Failed h = absurd h.0

pub adds_types : (features : Features) (old : Context) (held : List DefType) (items : Limited) (result : Result (Unit {0}) Error) (new : Context) (new_held : List DefType) → AddsEntries features type_entry_at ⊤ old held items.left result new new_held → AddsPiece features old held (Types items) result new new_held
unfolding said_first entries_said items_of ReadsGroups
adds_types features old held items result new new_held h =
    adds_items ⊤ (Types items) items.left (λ takes some. some) features old old held [] (λ x. OfType x) (λ _. rec_group_at) result new new_held (record { items = refl; says_first = refl; said = refl }) tt tt refl refl h

pub adds_imports : (features : Features) (old : Context) (held : List DefType) (items : Limited) (result : Result (Unit {0}) Error) (new : Context) (new_held : List DefType) → AddsEntries features import_entry_at ⊥ old held items.left result new new_held → AddsPiece features old held (Imports items) result new new_held
unfolding said_first entries_said items_of
adds_imports features old held items result new new_held h =
    adds_items ⊥ (Imports items) items.left (λ takes some. absurd takes) features old old held [] (λ x. OfImport x) (λ g. import_at (has g CompactImports)) result new new_held (record { items = refl; says_first = refl; said = refl }) tt tt refl refl h

pub adds_functions : (features : Features) (old : Context) (held : List DefType) (items : Limited) (result : Result (Unit {0}) Error) (new : Context) (new_held : List DefType) → AddsEntries features function_entry_at ⊥ old held items.left result new new_held → AddsPiece features old held (Functions items) result new new_held
unfolding said_first entries_said items_of
adds_functions features old held items result new new_held h =
    adds_items ⊥ (Functions items) items.left (λ takes some. absurd takes) features old old held [] (λ x. OfFunction x) (λ _. unsigned_at 32) result new new_held (record { items = refl; says_first = refl; said = refl }) tt tt refl refl h

pub adds_tables : (features : Features) (old : Context) (held : List DefType) (items : Limited) (result : Result (Unit {0}) Error) (new : Context) (new_held : List DefType) → AddsEntries features table_entry_at ⊥ old held items.left result new new_held → AddsPiece features old held (Tables items) result new new_held
unfolding said_first entries_said items_of
adds_tables features old held items result new new_held h =
    adds_items ⊥ (Tables items) items.left (λ takes some. absurd takes) features old old held [] (λ x. OfTable x) (λ _. table_at) result new new_held (record { items = refl; says_first = refl; said = refl }) tt tt refl refl h

pub adds_memories : (features : Features) (old : Context) (held : List DefType) (items : Limited) (result : Result (Unit {0}) Error) (new : Context) (new_held : List DefType) → AddsEntries features memory_entry_at ⊥ old held items.left result new new_held → AddsPiece features old held (Memories items) result new new_held
unfolding said_first entries_said items_of
adds_memories features old held items result new new_held h =
    adds_items ⊥ (Memories items) items.left (λ takes some. absurd takes) features old old held [] (λ x. OfMemory x) (λ _. limits_at) result new new_held (record { items = refl; says_first = refl; said = refl }) tt tt refl refl h

pub adds_globals : (features : Features) (old : Context) (held : List DefType) (items : Limited) (result : Result (Unit {0}) Error) (new : Context) (new_held : List DefType) → AddsEntries features global_entry_at ⊥ old held items.left result new new_held → AddsPiece features old held (Globals items) result new new_held
unfolding said_first entries_said items_of
adds_globals features old held items result new new_held h =
    adds_items ⊥ (Globals items) items.left (λ takes some. absurd takes) features old old held [] (λ x. OfGlobal x) (λ _. global_at) result new new_held (record { items = refl; says_first = refl; said = refl }) tt tt refl refl h

pub adds_exports : (features : Features) (old : Context) (held : List DefType) (items : Limited) (result : Result (Unit {0}) Error) (new : Context) (new_held : List DefType) → AddsEntries features export_entry_at ⊥ old held items.left result new new_held → AddsPiece features old held (Exports items) result new new_held
unfolding said_first entries_said items_of
adds_exports features old held items result new new_held h =
    adds_items ⊥ (Exports items) items.left (λ takes some. absurd takes) features old old held [] (λ x. OfExport x) (λ _. export_at) result new new_held (record { items = refl; says_first = refl; said = refl }) tt tt refl refl h

pub adds_elements : (features : Features) (old : Context) (held : List DefType) (items : Limited) (result : Result (Unit {0}) Error) (new : Context) (new_held : List DefType) → AddsEntries features element_entry_at ⊥ old held items.left result new new_held → AddsPiece features old held (Elements items) result new new_held
unfolding said_first entries_said items_of
adds_elements features old held items result new new_held h =
    adds_items ⊥ (Elements items) items.left (λ takes some. absurd takes) features old old held [] (λ x. OfElement x) (λ _. element_at) result new new_held (record { items = refl; says_first = refl; said = refl }) tt tt refl refl h

pub adds_segments : (features : Features) (old : Context) (held : List DefType) (items : Limited) (result : Result (Unit {0}) Error) (new : Context) (new_held : List DefType) → AddsEntries features data_entry_at ⊥ old held items.left result new new_held → AddsPiece features old held (Segments items) result new new_held
unfolding said_first entries_said items_of
adds_segments features old held items result new new_held h =
    adds_items ⊥ (Segments items) items.left (λ takes some. absurd takes) features old old held [] (λ x. OfData x) (λ _. data_at) result new new_held (record { items = refl; says_first = refl; said = refl }) tt tt refl refl h

-- a tag section was judged by itself, and then its items
pub adds_tags : (features : Features) (old mid : Context) (held : List DefType) (items : Limited) (result : Result (Unit {0}) Error) (new : Context) (new_held : List DefType) → Accepts features old OfTags mid
    → AddsEntries features tag_entry_at ⊥ mid held items.left result new new_held → AddsPiece features old held (Tags items) result new new_held
unfolding said_first entries_said items_of
adds_tags features old mid held items result new new_held begins h =
    adds_items ⊥ (Tags items) items.left (λ takes some. absurd takes) features old mid held (OfTags ∷ []) (λ x. OfTag x) (λ _. tag_type_at) result new new_held (record { items = refl; says_first = refl; said = refl }) (begins.rule, tt) (begins.limits, tt)
    (held, refl, refl) begins.known h

pub tags_refused : (features : Features) (old : Context) (held : List DefType) (items : Limited) (kind : ErrorKind) (offset : ℕ) → NamesEntry features old held OfTags kind × IsAt items.start kind offset → NamesPiece features old held (Tags items) kind × IsInPiece (Tags items) offset
unfolding said_first entries_said items_of IsFirstOf
tags_refused features old held items kind offset h = refused_first features old held (Tags items) OfTags items.start kind offset refl refl (λ is. subst (NamesEntry features old held OfTags) is h.0) h

-- ---- unknown sections

pub refuses_unknown : (features : Features) (old : Context) (held new_held : List DefType) (id : ℕ) (contents : List ℕ) (place : Place) (result : Result (Unit {0}) Error) → RefusesAt place.start result → AddsPiece features old held (Unknown id contents place) result old new_held
unfolding said_first entries_said items_of IsFirstOf
refuses_unknown features old held new_held id contents place (Ok x) h = absurd h
refuses_unknown features old held new_held id contents place (Err e) h = rw h (refl, inl refl)

pub ruleset tag_steps = (adds_tags, tags_refused)

pub ruleset piece_steps = (header_says_nothing, code_start_says_nothing, end_says_nothing, adds_start, adds_custom, adds_body, adds_data_count, adds_types, adds_imports, adds_functions, adds_tables, adds_memories, adds_globals, adds_exports, adds_elements, adds_segments, refuses_unknown)
