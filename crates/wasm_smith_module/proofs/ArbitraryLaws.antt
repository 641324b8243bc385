-- A module for a configuration that is drawn first.
use Rattle.std.proofs.Common.{◌≡◌, ℕ, ◌-◌, ◌<◌, ◌≤◌, Bool, true, false, List, [], ◌∷◌, None, is_some, Result, Ok, Err, get_or, sym, ap, ◌∙◌, subst, arith, if◌then◌else◌}
use Rattle.std.specs.List.{AllByRecursion}
use Rattle.std.specs.Prelude.{◌≢◌, IfOk, IfErr, IfSome, Option}
use Rattle.wasm_smith_config.proofs.ArbitraryLaws.{IsKept, drawn_kept, kept_of}
use Rattle.wasm_smith_config.specs.Arbitrary.{IsArbitrary}
use Rattle.wasm_smith_config.specs.Config.{sanitized}
use Rattle.wasm_smith_config.specs.declared.config.Config.{Config}
use Rattle.wasm_smith_unstructured.specs.declared.error.Error.{Error}
use Rattle.wasm_smith_unstructured.specs.declared.error.Error.TheVariants.{IncorrectFormat}
use Rattle.wasm_smith_module.proofs.OwedLaws.{fewer_exports}
use Rattle.wasm_smith_module.specs.ArbitraryModules.{IsArbitraryModule, IsArbitraryReason}
use Rattle.wasm_smith_module.specs.Generating.{HasFront, front_at}
use Rattle.wasm_smith_module.specs.ModuleValue.{ModuleValue}
use Rattle.wasm_smith_module.specs.Promise.{IsBadConfig, IsMadeFor, IsReason, least_imports, least_types, owed}
use Rattle.wasm_smith_externs.specs.Named.{HasPlainName, all_named}
use Rattle.wasm_smith_shapes.specs.Shapes.{ShapeValue}
use Rattle.wasm_smith_types.specs.Given.{import_shape, or_else, type_count}

abbrev HasDrawn : List ℕ → List ℕ → ModuleValue → Config → Type 0
HasDrawn after left m c = IfSome (front_at c after) (λ drawn. HasFront c drawn m.made left)

pub made_from_drawn : (s after left : List ℕ) (c : Config) (r : Result ModuleValue Error) → IsArbitrary s c after → sanitized c ≡ c → IfOk r (IsMadeFor (sanitized c))
    → IfOk r (λ m. HasDrawn after left m (sanitized c)) → IfOk r (IsArbitraryModule s left)
made_from_drawn s after left c (Ok m) drawn same made front =
    let is : m.config ≡ sanitized c = made.config in
    record {
      after = after;
      config = subst (λ (x : Config). IsArbitrary s x after) (sym (is ∙ same)) drawn;
      made = subst (λ (x : Config). IsMadeFor x m) (sym is) made;
      drawn = subst (HasDrawn after left m) (sym is) front;
    }
made_from_drawn s after left c (Err e) drawn same made front = tt

pub refused_from_drawn : (s after left : List ℕ) (c : Config) (r : Result ModuleValue Error) → IsArbitrary s c after → sanitized c ≡ c → IfErr r (IsReason (sanitized c))
    → IfErr r (λ e. IsBadConfig e → left ≡ after) → IfErr r (IsArbitraryReason s left)
refused_from_drawn s after left c (Ok m) drawn same reason unread = tt
refused_from_drawn s after left c (Err e) drawn same reason unread =
    record { config = c; after = after; drawn = drawn; reason = subst (λ (x : Config). IsReason x e) same reason; unread = unread }

no_shape : (c : Config) → IsKept c → (i : ℕ) → get_or (kept_of c).1 i None ≡ get_or (None ∷ None ∷ None ∷ []) i None
no_shape c kept i = ap (λ (rest : List ℕ × List (Option ShapeValue)). get_or rest.1 i None) kept

least_types_none : (c : Config) → IsKept c → least_types c ≡ 0
least_types_none c kept = ap (λ (asked : Option ShapeValue). if is_some asked then c.min_types - type_count c.module_shape else 0) (no_shape c kept 0)

fewer_imports : (c : Config) → least_imports c ≤ c.min_imports
fewer_imports c = go (is_some (import_shape c))
  where
    go : (shaped : Bool) → (if shaped then 0 else c.min_imports) ≤ c.min_imports
    go true = omega arith
    go false = omega arith

-- a drawn configuration has no imports from a shape
no_imports : (c : Config) → IsKept c → import_shape c ≡ None
no_imports c kept = ap (λ m. or_else m c.available_imports) (no_shape c kept 0) ∙ no_shape c kept 1

pub plain_drawn : (s after : List ℕ) (c : Config) (r : Result ModuleValue Error) → IsArbitrary s c after → sanitized c ≡ c → IfOk r (IsMadeFor (sanitized c))
    → IfOk r (λ m. import_shape m.config ≡ None → AllByRecursion HasPlainName (all_named m.made.imports)) → IfOk r (λ m. AllByRecursion HasPlainName (all_named m.made.imports))
plain_drawn s after c (Ok m) drawn same made plain = plain (ap import_shape (made.config ∙ same) ∙ no_imports c (drawn_kept s after c drawn))
plain_drawn s after c (Err e) drawn same made plain = tt

none_owed : (c : Config) → IsKept c → 0 < owed c → ⊥
none_owed c kept some =
    let least = ap (λ (rest : List ℕ × List (Option ShapeValue)). rest.0) kept in
    let imports : c.min_imports ≡ 0 = ap (λ numbers. get_or numbers 5 0) least in
    let tags : c.min_tags ≡ 0 = ap (λ numbers. get_or numbers 6 0) least in
    let funcs : c.min_funcs ≡ 0 = ap (λ numbers. get_or numbers 7 0) least in
    let exports : c.min_exports ≡ 0 = ap (λ numbers. get_or numbers 9 0) least in
    let element_segments : c.min_element_segments ≡ 0 = ap (λ numbers. get_or numbers 10 0) least in
    let data_segments : c.min_data_segments ≡ 0 = ap (λ numbers. get_or numbers 12 0) least in
    omega (arith, some, least_types_none c kept, fewer_imports c, imports, tags, funcs, exports, fewer_exports c, element_segments, data_segments)

pub nothing_owed : (s after : List ℕ) (c : Config) (r : Result ModuleValue Error) → IsArbitrary s c after → sanitized c ≡ c → IfErr r (IsReason (sanitized c)) → IfErr r (λ e. e ≢ IncorrectFormat)
nothing_owed s after c (Ok m) drawn same reason = tt
nothing_owed s after c (Err e) drawn same reason = λ is.
    let owes = subst (λ (x : Error). IsReason c x) is (subst (λ (x : Config). IsReason x e) same reason) in none_owed c (drawn_kept s after c drawn) owes.some
