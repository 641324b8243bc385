-- Up to the end, the pieces of a module say what its sections say.
use Rattle.std.proofs.Common.{◌≡◌, ℕ, List, [], ◌++◌, sym, ap, ◌∙◌}
use Rattle.std.proofs.lemmas.List.{append-nil}
use Rattle.wasm_spec.specs.Bytes.{AreBytes}
use Rattle.wasm_spec.specs.Features.{CompactImports, has}
use Rattle.wasm_spec.specs.Grammar.{header}
use Rattle.wasm_spec.specs.Syntax.{Section}
use Rattle.wasm_validity.specs.Entries.{Entry, entries_of}
use Rattle.wasmparser_payloads.specs.PieceEntries.{ReachesEnd, HasAllSections}
use Rattle.wasmparser_payloads.proofs.FrontParts.{Between}
use Rattle.wasmparser_payloads.proofs.FrontStates.{completed, IsReached, nothing, some, reached}
use Rattle.wasmparser_payloads.proofs.Steps.{IsStep, is_header, is_body, is_section, is_end, step_of}
use Rattle.wasmparser_payloads.specs.declared.payloads.Stage.TheVariants.{Parts}
use Rattle.wasmparser_payloads.specs.Parsing.{Settings, whole_module}
use Rattle.wasmparser_payloads.specs.Pieces.{End, Remains, framed}
use Rattle.wasmparser_payloads.proofs.PieceKinds.{no_end}

abbrev pub IsWhole : Settings → List ℕ → List Entry → Type 0
IsWhole settings bytes entries = (sections : List Section) × HasAllSections (has settings.features CompactImports) bytes sections × (entries ≡ entries_of sections)

whole : (settings : Settings) (bytes : List ℕ) (last : ℕ) (rest : List ℕ) (entries : List Entry) → rest ≡ [] → Between (has settings.features CompactImports) bytes last rest entries → IsWhole settings bytes entries
whole settings bytes last rest entries none b =
    let all : b.front ++ rest ≡ b.front = ap (λ (l : List ℕ). b.front ++ l) none ∙ append-nil b.front in
    (b.sections, record { body = b.front; begins = b.begins ∙ ap (λ (l : List ℕ). header ++ l) all; holds = b.holds; ordered = b.ordered }, b.say)

pub ended_is_whole : (settings : Settings) (bytes : List ℕ) (entries : List Entry) → AreBytes bytes → ReachesEnd (whole_module settings bytes) entries → IsWhole settings bytes entries
ended_is_whole settings bytes entries are r = by_step (step_of r.now (End r.place) r.next r.ended) (reached settings bytes are r.reached)
  where
    by_state : r.now.stage ≡ Parts → r.now.bodies.count ≡ 0 → r.now.bodies.input.rest ≡ [] → r.now.input.rest ≡ [] → IsReached (has settings.features CompactImports) bytes (whole_module settings bytes) r.now entries → IsWhole settings bytes entries
    by_state stage count ended rest (nothing same none) = let w = sym stage ∙ ap (λ (x : Remains). x.stage) same in absurd cc
    by_state stage count ended rest (some front) =
        whole settings bytes r.now.last r.now.input.rest entries rest (completed (has settings.features CompactImports) bytes r.now entries front count ended)

    by_step : IsStep r.now (End r.place) r.next → IsReached (has settings.features CompactImports) bytes (whole_module settings bytes) r.now entries → IsWhole settings bytes entries
    by_step (is_header num place rest stage begins is leaves) h = absurd cc
    by_step (is_body others body rest stage count reads is leaves) h = absurd cc
    by_step (is_section f stage count ended frame after reads leaves) h = absurd (no_end f.0.0 (framed r.now.input f).content r.place reads)
    by_step (is_end place stage count ended rest is leaves) h = by_state stage count ended rest h
