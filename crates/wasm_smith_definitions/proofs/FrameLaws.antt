-- The parts of the index spaces that a step leaves as they were, and the promise on tables that later steps ask.
use Rattle.std.proofs.Common.{◌≡◌, ℕ, zero, suc, true, List, [], ◌∷◌, map, refl, ap, sym, ◌∙◌, inl, inr, subst, Some, slice_get}
use Rattle.std.proofs.lemmas.Bool.{and_parts}
use Rattle.wasm_spec.specs.Features.{Features}
use Rattle.wasm_spec.specs.Syntax.{Table}
use Rattle.wasm_validity.specs.Entries.{Entry}
use Rattle.wasm_smith_config.specs.Config.{AreFeaturesOf}
use Rattle.wasm_smith_config.specs.declared.config.Config.{Config}
use Rattle.wasm_spec.proofs.Places.{get_cases}
use Rattle.wasm_smith_validity.specs.Spaces.{Spaces, spaces_after, spaces_after_all}
use Rattle.wasm_smith_validity.specs.Rules.{KeepAll, is_table_type}
use Rattle.wasm_smith_definitions.specs.Kinds.{of_table}
use Rattle.wasm_smith_definitions.specs.Steps.{IsStep, TablesKeep}

-- a part of what is known that no item of a kind changes
pub kept : {A X : Type 0} (part : Spaces → X) (entry : A → Entry) → ((k : Spaces) (x : A) → part (spaces_after k (entry x)) ≡ part k) → (k : Spaces) (xs : List A) → part (spaces_after_all k (map entry xs)) ≡ part k
kept part entry one k [] = refl
kept part entry one k (x ∷ xs) = kept part entry one (spaces_after k (entry x)) xs ∙ one k x

pub kept_by : {A X : Type 0} (part : Spaces → X) (c : Config) (entry : A → Entry) (old new : Spaces) (xs : List A) → ((k : Spaces) (x : A) → part (spaces_after k (entry x)) ≡ part k) → IsStep c entry old new xs → part new ≡ part old
kept_by part c entry old new xs one h = ap part h.known ∙ kept part entry one old xs

-- ---- tables

pub tables_still_keep : (c : Config) (k new : Spaces) → new.types ≡ k.types → new.tables ≡ k.tables → TablesKeep c k → TablesKeep c new
tables_still_keep c k new types tables h index type at features f = rw types (h index type (rw tables at at) features f)

last_is : {A : Type 0} (x y : A) (j : ℕ) → slice_get (x ∷ []) j ≡ Some y → x ≡ y
last_is x y zero e = cc
last_is x y (suc j) e = absurd cc

more_tables : (c : Config) (k : Spaces) (ts : List Table) → TablesKeep c k → ((features : Features) → AreFeaturesOf c features → KeepAll features k (map of_table ts)) → TablesKeep c (spaces_after_all k (map of_table ts))
more_tables c k [] h keep = h
more_tables c k (t ∷ ts) h keep =
    more_tables c (spaces_after k (of_table t)) ts (λ index type at features f.
    elim (get_cases k.tables (t.type ∷ []) index type at) [
      | inl before ↦ h index type before features f
      | inr last ↦
          let is : t.type ≡ type = last_is t.type type last.0 last.2 in
          let kept = (and_parts (is_table_type features k.types t.type) _ (keep features f).0.type).0 in
          (subst (λ it. is_table_type features k.types it ≡ true) is kept)
    ]) (λ features f. (keep features f).1)

pub tables_keep : (c : Config) (old new : Spaces) (ts : List Table) → old.tables ≡ [] → IsStep c of_table old new ts → TablesKeep c new
tables_keep c old new ts none h =
    subst (TablesKeep c) (sym h.known) (more_tables c old ts (λ index type at. let nothing : slice_get [] index ≡ Some type = rw none at at in absurd cc) h.keep)
