-- Bounds on the numbers of a made module that is valid by index, within bounds, and passes no limit.
use Rattle.std.specs.Prelude.{⊤}
use Rattle.std.proofs.Common.{◌≡◌, ℕ, ◌≤◌, Bool, true, false, not, List, [], ◌∷◌, length, refl, ◌∙◌, arith}
use Rattle.std.specs.List.{AllByRecursion}
use Rattle.std.proofs.lemmas.Bool.{and_parts, ltb-false}
use Rattle.wasm_smith_config.specs.declared.config.Config.{Config}
use Rattle.wasm_smith_externs.specs.Imports.{IsMadeEntry}
use Rattle.wasm_smith_module.specs.Customs.{IsBoundedCustom}
use Rattle.wasm_smith_module.specs.Bounds.{IsWithinBounds}
use Rattle.wasm_smith_sections.specs.SmallModules.{IsReadable, IsSmallBody}
use Rattle.wasm_smith_validity.specs.Made.{Made, MadeBody}
use Rattle.wasm_spec.specs.Limits.{Limit, Name, most}
use Rattle.wasm_spec.specs.Syntax.{ImportEntry, Import, CompactItems, CompactNames}
use Rattle.wasm_validity.specs.Rules.{are_within, is_past}
use Rattle.wasm_gen_sessions.specs.Written.{CanBeStated}
use Rattle.wasm_gen_sessions.proofs.BodyEncodings.{AreFewSmall}
use Rattle.wasm_gen_sessions.proofs.Forms.{all_are, both}

-- ---- limits

not_past : (past : Bool) → not past ≡ true → past ≡ false
not_past true e = absurd cc
not_past false e = refl

-- the first number is within its limit
abbrev pub IsFirstWithin : List (Limit × ℕ) → Type 0
IsFirstWithin [] = ⊤
IsFirstWithin (m ∷ ms) = m.1 ≤ most m.0

pub first_within : (ms : List (Limit × ℕ)) → are_within ms ≡ true → IsFirstWithin ms
first_within [] e = tt
first_within (m ∷ ms) e = ltb-false (most m.0) m.1 (not_past (is_past m.0 m.1) (and_parts (not (is_past m.0 m.1)) (are_within ms) e).0)

-- ---- imports

enabled : (c : Config) → (c.compact_imports_enabled ≡ false → ⊥) → c.compact_imports_enabled ≡ true
enabled c h = by_test c.compact_imports_enabled h
  where
    by_test : (b : Bool) → (b ≡ false → ⊥) → b ≡ true
    by_test true h = refl
    by_test false h = absurd (h refl)

one_readable : (c : Config) (compact : Bool) → compact ≡ c.compact_imports_enabled → (entry : ImportEntry) → IsMadeEntry c entry → IsReadable compact entry
one_readable c compact is (Import origin name type) made = tt
one_readable c compact is (CompactItems origin items) made = is ∙ enabled c made.lone
one_readable c compact is (CompactNames origin type names) made = is ∙ enabled c made.lone

pub readable : (c : Config) (compact : Bool) → compact ≡ c.compact_imports_enabled → (entries : List ImportEntry) → AllByRecursion (IsMadeEntry c) entries
    → AllByRecursion (IsReadable compact) entries
readable c compact is entries made = all_are (IsMadeEntry c) (IsReadable compact) (one_readable c compact is) entries made

-- ---- custom sections

pub legal_names : (c : Config) (m : Made) → IsWithinBounds c m → AllByRecursion (λ custom. length custom.name ≤ most Name) m.customs
legal_names c m bounds = all_are IsBoundedCustom (λ custom. length custom.name ≤ most Name) (λ custom h. omega (arith, h.name)) m.customs bounds.customs

-- ---- locals

pub few_small : (c : Config) (m : Made) → IsWithinBounds c m → CanBeStated m → AllByRecursion (λ body. AreFewSmall body.locals) m.bodies
few_small c m bounds small =
    let stated = small c.compact_imports_enabled (readable c c.compact_imports_enabled refl m.imports bounds.made_imports) in
    all_are (λ (body : MadeBody). (length body.locals ≤ 100) × IsSmallBody body) (λ body. AreFewSmall body.locals) (λ body h. (h.0, h.1.0)) m.bodies
    (both (λ (body : MadeBody). length body.locals ≤ 100) IsSmallBody m.bodies bounds.few_locals stated.bodies)
