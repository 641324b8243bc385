-- Modules of lists are accepted one after the other, and shown as their lists.
use Rattle.std.proofs.Common.{◌≡◌, ◌⊎◌, ℕ, Bool, true, false, not, List, [], ◌∷◌, map, None, Result, Ok, Err, refl, sym, subst, ap, ◌∙◌}
use Rattle.std.specs.List.{AllByRecursion}
use Rattle.wasm_spec.specs.Features.{CompactImports, has}
use Rattle.wasm_spec.specs.Syntax.{Section}
use Rattle.wasm_spec.specs.Trees.{section_types}
use Rattle.wasm_spec.specs.Types.{RecGroup}
use Rattle.wasm_validity.specs.IndexSpaces.{spaces_of}
use Rattle.wasm_core_read.proofs.ModuleForms.{module_one}
use Rattle.wasmparser_error.specs.declared.error.Error.{Error}
use Rattle.wasmparser_error.specs.declared.error.ErrorKind.TheVariants.{Memory, Total}
use Rattle.wasmparser_validator.specs.KnownSpaces.{KnownModule, spaces_known}
use Rattle.wasmparser_validator.specs.Validation.{IsAccepted, IsValidated}
use Rattle.wasm_smith.specs.ValidGroups.{entry}
use Rattle.wasm_smith_module.specs.Generating.{bare_body, bare_module}
use Rattle.wasm_smith_validity.specs.Sections.{sections_with}
use Rattle.wasm_smith_validity.proofs.ValidModules.{valid_without_raw}
use Rattle.wasm_gen_sessions.specs.History.{History}
use Rattle.wasm_gen_sessions.specs.Lists.{AreShown, ChecksAll, IsMadeUnder, MadeList, spaces_of_list}
use Rattle.wasm_gen_sessions.specs.Session.{Checks}

-- the sections of the list's module
abbrev sections_of : (session : History) (made : MadeList) → IsMadeUnder session.features made → List Section
sections_of session made h = sections_with h.config.bulk_memory_enabled h.generated.bodies (bare_module (map entry made.groups) made.funcs)

-- no body of the list's module is raw
none_raw : (funcs : List ℕ) → AllByRecursion (λ body. body.raw ≡ None) (map (λ _. bare_body) funcs)
none_raw [] = tt
none_raw (function ∷ funcs) = (refl, none_raw funcs)

accepted : (session : History) (made : MadeList) (h : IsMadeUnder session.features made) → IsAccepted session.features made.bytes (sections_of session made h)
accepted session made h = record {
  reads = h.generated.reads session.features h.features_are;
  valid = valid_without_raw session.features (map (λ _. bare_body) made.funcs) (sections_of session made h) (h.generated.valid session.features h.features_are) (none_raw made.funcs);
}

-- what a module of types and functions, and of nothing else, shows
abbrev pub ShownLaw : Type 0
ShownLaw = (counted : Bool) (groups : List (RecGroup ℕ)) (funcs : List ℕ) (bodies : List (List ℕ)) → spaces_of (sections_with counted bodies (bare_module groups funcs)) ≡ record {
  types = section_types groups;
  functions = funcs;
  tables = [];
  memories = [];
  globals = [];
  tags = [];
  elements = [];
  imported = [];
  exports = [];
}

shown : ShownLaw → (session next : History) (made : MadeList) (known : KnownModule) → session.has_failed ≡ false → IsMadeUnder session.features made
    → Checks session made.bytes (Ok known) next → spaces_known known ≡ spaces_of_list made
shown law session next made known going h checks =
    let validated : IsValidated session.features session.held made.bytes (Ok known) = checks.validated going in
    let right = validated.right in
    let one : right.0 ≡ sections_of session made h =
    module_one (has session.features CompactImports) made.bytes right.0 (sections_of session made h) right.1.reads (accepted session made h).reads in
    right.2 ∙ ap spaces_of one ∙ law h.config.bulk_memory_enabled (map entry made.groups) made.funcs h.generated.bodies

refused : (session next : History) (made : MadeList) (e : Error) → session.has_failed ≡ false → IsMadeUnder session.features made → Checks session made.bytes (Err e) next
    → (e.kind ≡ Memory) ⊎ (e.kind ≡ Total)
refused session next made e going h checks =
    let validated : IsValidated session.features session.held made.bytes (Err e) = checks.validated going in
    validated.complete (sections_of session made h) (accepted session made h)

not_failed : (b : Bool) → not b ≡ true → b ≡ false
not_failed true e = absurd cc
not_failed false e = refl

-- after a yes the session goes on
goes_on : (session next : History) (made : MadeList) (known : KnownModule) → session.has_failed ≡ false → Checks session made.bytes (Ok known) next → next.has_failed ≡ false
goes_on session next made known going checks = let on = checks.goes_on going in not_failed next.has_failed on.0

pub all_shown : ShownLaw → (session : History) (lists : List MadeList) (verdicts : List (Result KnownModule Error)) → session.has_failed ≡ false
    → AllByRecursion (IsMadeUnder session.features) lists → ChecksAll session (map (λ made. made.bytes) lists) verdicts → AreShown lists verdicts
all_shown law session [] [] going all checks = refl
all_shown law session [] (verdict ∷ verdicts) going all checks = absurd checks
all_shown law session (made ∷ lists) [] going all checks = absurd checks
all_shown law session (made ∷ lists) (Err e ∷ verdicts) going all checks = refused session checks.0 made e going all.0 checks.1
all_shown law session (made ∷ lists) (Ok known ∷ verdicts) going all checks =
    let next = checks.0 in (
      shown law session next made known going all.0 checks.1,
      all_shown law next lists verdicts (goes_on session next made known going checks.1)
          (subst (λ features. AllByRecursion (IsMadeUnder features) lists) (sym checks.1.features_kept) all.1) checks.2,
    )
