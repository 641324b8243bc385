-- Functions and tags of types that are asked for are steps.
use Rattle.std.proofs.Common.{◌≡◌, ℕ, true, List, [], ◌∷◌, map, is_some}
use Rattle.std.specs.List.{AllByRecursion}
use Rattle.wasm_spec.specs.Features.{Features}
use Rattle.wasm_smith_config.specs.Config.{AreFeaturesOf}
use Rattle.wasm_smith_config.specs.declared.config.Config.{Config}
use Rattle.wasm_smith_definitions.specs.Steps.{IsStep}
use Rattle.wasm_smith_validity.specs.Rules.{KeepAll, keeps_tag}
use Rattle.wasm_smith_validity.specs.Spaces.{Spaces, func_type_at, spaces_after, spaces_after_all}
use Rattle.wasm_smith_externs.specs.Wanted.{of_function, of_tag}

functions_keep : (features : Features) (k : Spaces) (indexes : List ℕ) → AllByRecursion (λ index. is_some (func_type_at k.types index) ≡ true) indexes → KeepAll features k (map of_function indexes)
functions_keep features k [] all = tt
functions_keep features k (index ∷ indexes) all = (all.0, functions_keep features (spaces_after k (of_function index)) indexes all.1)

pub functions_step : (c : Config) (old new : Spaces) (made all : List ℕ) → made ≡ all → new ≡ spaces_after_all old (map of_function made)
    → ((features : Features) → AreFeaturesOf c features → AllByRecursion (λ index. is_some (func_type_at old.types index) ≡ true) all) → IsStep c of_function old new made
functions_step c old new made all is known kept = record { keep = λ features f. rw is (functions_keep features old all (kept features f)); known = known }

tags_keep : (features : Features) (k : Spaces) (indexes : List ℕ) → AllByRecursion (λ index. keeps_tag features k index ≡ true) indexes → KeepAll features k (map of_tag indexes)
tags_keep features k [] all = tt
tags_keep features k (index ∷ indexes) all = (all.0, tags_keep features (spaces_after k (of_tag index)) indexes all.1)

pub tags_step : (c : Config) (old new : Spaces) (made all : List ℕ) → made ≡ all → new ≡ spaces_after_all old (map of_tag made)
    → ((features : Features) → AreFeaturesOf c features → AllByRecursion (λ index. keeps_tag features old index ≡ true) all) → IsStep c of_tag old new made
tags_step c old new made all is known kept = record { keep = λ features f. rw is (tags_keep features old all (kept features f)); known = known }
