-- Judging a module piece by piece is judging what its sections say.
use Rattle.std.proofs.Common.{◌≡◌, ◌≤◌, ◌<◌, ℕ, List, [], ◌∷◌, ◌++◌, length, Option, Some, None, refl, sym, ap, ap₂, subst, ◌∙◌, append-nil, arith, Err}
use Rattle.std.proofs.lemmas.Grind.{flat_map-append}
use Rattle.std.proofs.lemmas.List.{map-append}
use Rattle.wasm_core_types.specs.Limits as core
use Rattle.wasm_core_read.specs.Input.{Input}
use Rattle.wasm_spec.specs.Bytes.{AreBytes}
use Rattle.wasm_spec.specs.Features.{Features, CompactImports, has}
use Rattle.wasm_validity.specs.Context.{Context, after_all, at_first}
use Rattle.wasm_validity.specs.Entries.{Entry}
use Rattle.wasm_validity.specs.Fronts.{BeginsWith}
use Rattle.wasm_validity.specs.Rules.{KeepRules, KeepLimits, PassLimit}
use Rattle.wasmparser_error.specs.declared.error.Error.{Error}
use Rattle.wasmparser_error.specs.declared.error.ErrorKind.{ErrorKind}
use Rattle.wasmparser_error.specs.declared.error.ErrorKind.TheVariants as kinds
use Rattle.wasmparser_payloads.specs.PieceEntries.{Reaches, Begun, Further, no_piece, no_items, ReachesEnd, items_of, said_first, entries_said}
use Rattle.wasmparser_payloads.proofs.BeginLaws.{front_is_begun, said_is_begun}
use Rattle.wasmparser_payloads.proofs.EndLaws.{ended_is_whole}
use Rattle.wasmparser_payloads.proofs.Steps.{is_going}
use Rattle.wasmparser_payloads.proofs.UnreadLaws.{unread_is_none}
use Rattle.wasmparser_payloads.proofs.Places.{stays, whole_lies, place_lies}
use Rattle.wasmparser_payloads.specs.declared.payloads.Stage.{Stage}
use Rattle.wasmparser_payloads.specs.declared.payloads.Stage.TheVariants.{Done}
use Rattle.wasmparser_payloads.specs.Parsing.{Settings, whole_module, IsInside, LieBetween, at_most_remaining}
use Rattle.wasmparser_payloads.specs.Pieces.{Piece, Version, Types, Imports, Functions, Tables, Memories, Tags, Globals, Exports, Start, Elements, DataCount, CodeStart, Body, Segments, Custom, Unknown, End, Remains, next_piece}
use Rattle.wasm_spec.specs.Trees.{DefType}
use Rattle.wasmparser_module_state.specs.History.{EnterAll, OneFindsNoRoom}
use Rattle.wasmparser_validator.specs.PieceJudging.{Says, IsFrontOf, by_itself, with_some, IsInPiece, NamesPiece, AddsPiece, body_in, count_in}
use Rattle.wasmparser_validator.specs.Judges.{stated_with}
use Rattle.wasmparser_validator.specs.Sections.{contents_of, EndBy, AreRead, NamesSections, RefusesSections, latest}
use Rattle.wasmparser_validator.proofs.EntryLists.{after_both, enter_both, keep_both, keep_others, no_room_both, within_both, past_others}
use Rattle.wasmparser_validator.proofs.PieceItems.{body_of_piece, count_of_piece}
use Rattle.wasmparser_validator.proofs.PiecePlaces.{PieceLies, piece_lies}
use Rattle.wasmparser_validator.proofs.SectionEntries.{body_said, bodies_said, bodies_of_sections, count_said, data_counts_said, counts_of_sections}

-- how bytes are read under these features
abbrev pub settings_of : Features → Settings
settings_of features = record { offset = 0; features = features }

-- The context, and the types that the list holds, after some pieces of a module, which say entries that keep the rules and limits, with these bodies and this data
-- count; and what is left of it.
pub record Progress (features : Features) (bytes : List ℕ) (first_held : List DefType) (cx : Context) (held : List DefType) (given : List Input) (stated : Option ℕ) (now : Remains) : Type 0 where
  pub entries : List Entry
  pub reached : Reaches (whole_module (settings_of features) bytes) entries now
  pub rules : KeepRules features at_first entries
  pub limits : KeepLimits at_first entries
  pub known : cx ≡ after_all at_first entries
  pub entered : EnterAll features at_first first_held entries held
  pub bodies : contents_of given ≡ bodies_said entries
  pub count : stated ≡ latest None (data_counts_said entries)
  pub inside : EndBy (length bytes) given
  pub lie : LieBetween 0 (length bytes) now
  pub ended : now.stage ≡ Done → ReachesEnd (whole_module (settings_of features) bytes) entries

pub begins : (features : Features) (bytes : List ℕ) (cx : Context) (held : List DefType) (given : List Input) (stated : Option ℕ) → cx ≡ at_first → given ≡ [] → stated ≡ None
    → Progress features bytes held cx held given stated (whole_module (settings_of features) bytes)
begins features bytes cx held given stated nothing none no_count = record {
  entries = [];
  reached = Begun;
  rules = tt;
  limits = tt;
  known = nothing;
  entered = refl;
  bodies = ap contents_of none;
  count = no_count;
  inside = subst (EndBy (length bytes)) (sym none) tt;
  lie = subst (λ n. LieBetween 0 n (whole_module (settings_of features) bytes)) (omega arith) (whole_lies (settings_of features) bytes);
  ended = λ e. absurd cc;
}

-- ---- one piece more

-- the data count that is stated after a piece is the last one
stated_last : (p : Piece) (stated : Option ℕ) → stated_with p stated ≡ latest stated (count_in p)
unfolding stated_with count_in
stated_last (Version num range) stated = refl
stated_last (Types items) stated = refl
stated_last (Imports items) stated = refl
stated_last (Functions items) stated = refl
stated_last (Tables items) stated = refl
stated_last (Memories items) stated = refl
stated_last (Tags items) stated = refl
stated_last (Globals items) stated = refl
stated_last (Exports items) stated = refl
stated_last (Start function range) stated = refl
stated_last (Elements items) stated = refl
stated_last (DataCount count range) stated = refl
stated_last (CodeStart count range size) stated = refl
stated_last (Body body) stated = refl
stated_last (Segments items) stated = refl
stated_last (Custom section) stated = refl
stated_last (Unknown id contents range) stated = refl
stated_last (End place) stated = refl

latest_append : (last : Option ℕ) (a b : List ℕ) → latest last (a ++ b) ≡ latest (latest last a) b
latest_append last [] b = refl
latest_append last (number ∷ a) b = latest_append (Some number) a b

end_by_both : (last : ℕ) (a b : List Input) → EndBy last a → EndBy last b → EndBy last (a ++ b)
end_by_both last [] b h k = k
end_by_both last (x ∷ a) b h k = (h.0, end_by_both last a b h.1 k)

-- the place of the end, where a piece is that
abbrev end_in : Piece → Option ℕ
end_in (End place) = Some place
end_in _ = None

is_end : (p : Piece) (place : ℕ) → end_in p ≡ Some place → p ≡ End place
is_end (Version num range) place e = absurd cc
is_end (Types items) place e = absurd cc
is_end (Imports items) place e = absurd cc
is_end (Functions items) place e = absurd cc
is_end (Tables items) place e = absurd cc
is_end (Memories items) place e = absurd cc
is_end (Tags items) place e = absurd cc
is_end (Globals items) place e = absurd cc
is_end (Exports items) place e = absurd cc
is_end (Start function range) place e = absurd cc
is_end (Elements items) place e = absurd cc
is_end (DataCount count range) place e = absurd cc
is_end (CodeStart count range size) place e = absurd cc
is_end (Body body) place e = absurd cc
is_end (Segments items) place e = absurd cc
is_end (Custom section) place e = absurd cc
is_end (Unknown id contents range) place e = absurd cc
is_end (End other) place e = cc

end_says : (place : ℕ) (entries : List Entry) → entries_said (End place) ≡ Some entries → entries ≡ []
unfolding entries_said said_first items_of
end_says place [] e = refl
end_says place (x ∷ entries) e = absurd cc

-- the next piece is the end where nothing is left after it
end_reached : (start now new : Remains) (p : Piece) (before said : List Entry) → Reaches start before now → next_piece now ≡ Some (p, new) → entries_said p ≡ Some said → new.stage ≡ Done → ReachesEnd start (before ++ said)
end_reached start now new p before said reached e says done = by_end (end_in p) refl
  where
    by_end : (found : Option ℕ) → end_in p ≡ found → ReachesEnd start (before ++ said)
    by_end None f = absurd (is_going now new p e (λ place is. let w = sym f ∙ ap end_in is in absurd cc) done)
    by_end (Some place) f =
        let is : p ≡ End place = is_end p place f in
        let none : said ≡ [] = end_says place said (subst (λ q. entries_said q ≡ Some said) is says) in
        let same : before ≡ before ++ said = sym (append-nil before) ∙ ap (λ (l : List Entry). before ++ l) (sym none) in
        subst (ReachesEnd start) same (record { now = now; reached = reached; place = place; next = new; ended = subst (λ q. next_piece now ≡ Some (q, new)) is e })

pub goes_on : (features : Features) (bytes : List ℕ) (first_held : List DefType) (cx next : Context) (held next_held : List DefType) (given more : List Input) (stated others : Option ℕ) (now new : Remains) (p : Piece)
    → Progress features bytes first_held cx held given stated now → next_piece now ≡ Some (p, new) → Says features cx held p next next_held → more ≡ given ++ body_in p → others ≡ stated_with p stated
    → Progress features bytes first_held next next_held more others new
goes_on features bytes first_held cx next held next_held given more stated others now new p s e says added counted =
    record {
      entries = s.entries ++ says.entries;
      reached = Further p says.entries s.reached e says.said;
      rules = keep_both features at_first s.entries says.entries s.rules (subst (λ c. KeepRules features c says.entries) s.known says.rules);
      limits = within_both at_first s.entries says.entries s.limits (subst (λ c. KeepLimits c says.entries) s.known says.limits);
      known = says.known ∙ ap (λ c. after_all c says.entries) s.known ∙ sym (after_both at_first s.entries says.entries);
      entered = enter_both features at_first first_held held next_held s.entries says.entries s.entered (subst (λ c. EnterAll features c held says.entries next_held) s.known says.entered);
      bodies = ap contents_of added ∙ map-append (λ (b : Input). b.rest) given (body_in p) ∙ ap₂ (λ (a b : List (List ℕ)). a ++ b) s.bodies (sym (body_of_piece p says.entries says.said))
          ∙ sym (flat_map-append body_said s.entries says.entries);
      count = counted ∙ stated_last p stated ∙ ap₂ latest s.count (sym (count_of_piece p says.entries says.said)) ∙ sym (latest_append None (data_counts_said s.entries) (data_counts_said says.entries))
          ∙ ap (latest None) (sym (flat_map-append count_said s.entries says.entries));
      inside = subst (EndBy (length bytes)) (sym added) (end_by_both (length bytes) given (body_in p) s.inside (piece_lies 0 (length bytes) now new p s.lie e).body);
      lie = stays 0 (length bytes) now new p s.lie e;
      ended = λ done. end_reached (whole_module (settings_of features) bytes) now new p s.entries says.entries s.reached e says.said done;
    }

-- ---- refusals

-- a refusal of a piece refuses the module
pub refused : (features : Features) (bytes : List ℕ) (first_held : List DefType) (cx new-cx : Context) (held new_held : List DefType) (given : List Input) (stated : Option ℕ) (now new : Remains) (p : Piece) (error : Error)
    → AreBytes bytes → Progress features bytes first_held cx held given stated now → next_piece now ≡ Some (p, new) → AddsPiece features cx held p (Err error) new-cx new_held → RefusesSections features first_held bytes error
refused features bytes first_held cx new-cx held new_held given stated now new p error are s e h = by_kind error.kind h.0 h.1
  where
    lies : PieceLies 0 (length bytes) p
    lies = piece_lies 0 (length bytes) now new p s.lie e

    -- entries at the front of the piece stand at the front of the bytes
    begins_with : (front : List Entry) → IsFrontOf p front → BeginsWith (has features CompactImports) bytes (s.entries ++ front)
    begins_with front (by_itself is) =
        said_is_begun (settings_of features) bytes (s.entries ++ front) are
        (record { before = s.entries; now = now; reached = s.reached; piece = p; next = new; is_next = e; say = ap (λ (l : List Entry). s.entries ++ l) is })
    begins_with front (with_some items others has_items reads is) =
        front_is_begun (settings_of features) bytes (s.entries ++ front) are
        (record { before = s.entries; now = now; reached = s.reached; piece = p; next = new; is_next = e; items = items; has = has_items; front = others; reads = reads; say = ap (λ (l : List Entry). s.entries ++ l) is })

    by_kind : (kind : ErrorKind) → NamesPiece features cx held p kind → IsInPiece p error.offset → NamesSections features first_held bytes kind × (error.offset ≤ length bytes)
    by_kind kinds.Malformed names placed = (λ sections m. unread_is_none (settings_of features) bytes are (no_items p s.reached e names) sections m, (lies.places error.offset placed).1)
    by_kind kinds.Invalid names placed = (
      record {
        entries = s.entries ++ names.front;
        begins = begins_with names.front names.is;
        breaks = λ keep. names.holds (subst (λ c. KeepRules features c names.front) (sym s.known) (keep_others features at_first s.entries names.front keep));
      },
      (lies.places error.offset placed).1,
    )
    by_kind (kinds.Limit l) names placed = (
      record {
        entries = s.entries ++ names.front;
        begins = begins_with names.front names.is;
        passes = past_others (core.limit l) at_first s.entries names.front (subst (λ c. PassLimit (core.limit l) c names.front) s.known names.holds);
      },
      (lies.places error.offset placed).1,
    )
    by_kind kinds.Total names placed = (
      record {
        entries = s.entries ++ names.front;
        begins = begins_with names.front names.is;
        no_room = no_room_both features at_first first_held held s.entries names.front s.rules s.limits s.entered (subst (λ c. OneFindsNoRoom features c held names.front) s.known names.holds);
      },
      (lies.places error.offset placed).1,
    )
    by_kind kinds.Memory names placed = (tt, (lies.places error.offset placed).1)
    by_kind kinds.Operator names placed = absurd names
    by_kind kinds.Body names placed = absurd names
    by_kind kinds.Order names placed = absurd names
    by_kind kinds.Failed names placed = absurd names

-- after the end nothing more is given
pub not_ended : (s new : Remains) → at_most_remaining new.stage new < at_most_remaining s.stage s → ¬ (s.stage ≡ Done)
not_ended s new less done = absurd (omega (arith, subst (λ (g : Stage). at_most_remaining new.stage new < at_most_remaining g s) done less))

-- where the next piece isn't there before the end, the bytes are no module
pub unread : (features : Features) (bytes : List ℕ) (first_held : List DefType) (cx : Context) (held : List DefType) (given : List Input) (stated : Option ℕ) (now : Remains) (error : Error) → AreBytes bytes
    → Progress features bytes first_held cx held given stated now → ¬ (now.stage ≡ Done)
    → next_piece now ≡ None → error.kind ≡ kinds.Malformed → IsInside now error.offset → RefusesSections features first_held bytes error
unread features bytes first_held cx held given stated now error are s going none kind inside =
    rw kind (λ sections m. unread_is_none (settings_of features) bytes are (no_piece s.reached going none) sections m, (place_lies 0 (length bytes) now error.offset s.lie inside).1)

-- ---- the end

pub all_read : (features : Features) (bytes : List ℕ) (first_held : List DefType) (cx : Context) (held : List DefType) (given : List Input) (stated : Option ℕ) (now : Remains) → AreBytes bytes
    → Progress features bytes first_held cx held given stated now → now.stage ≡ Done → AreRead features bytes first_held cx held given stated
all_read features bytes first_held cx held given stated now are s done =
    let w = ended_is_whole (settings_of features) bytes s.entries are (s.ended done) in
    record {
      sections = w.0;
      reads = w.1;
      fine = record { rules = subst (λ es. KeepRules features at_first es) w.2 s.rules; limits = subst (λ es. KeepLimits at_first es) w.2 s.limits };
      known = s.known ∙ ap (after_all at_first) w.2;
      entered = subst (λ es. EnterAll features at_first first_held es held) w.2 s.entered;
      bodies = s.bodies ∙ ap bodies_said w.2 ∙ bodies_of_sections w.0;
      count = s.count ∙ ap (λ (es : List Entry). latest None (data_counts_said es)) w.2 ∙ ap (latest None) (counts_of_sections w.0);
      inside = s.inside;
    }
