-- Exports of items that are there, with names that are new, keep the rule.
use Rattle.std.specs.Prelude.{bytes_eq}
use Rattle.std.proofs.Common.{◌≡◌, ℕ, ◌+◌, ◌<◌, Bool, true, false, not, ◌||◌, List, [], ◌∷◌, ◌++◌, length, map, refl, ap, sym, ◌∙◌, Some, slice_get}
use Rattle.std.specs.List.{list_any}
use Rattle.std.proofs.lemmas.Bool.{and_from}
use Rattle.std.proofs.lemmas.Slice.Eq.{bytes_eq-Decides}
use Rattle.std.proofs.lemmas.List.{map_push}
use Rattle.std.proofs.lemmas.List.Sums.{sum_by_push}
use Rattle.wasm_spec.specs.Features.{Features, MutableGlobal}
use Rattle.wasm_spec.specs.Syntax.{Export}
use Rattle.wasm_spec.specs.Types.{ExternalKind, FuncKind, TableKind, MemoryKind, GlobalKind, TagKind, ExternalType, FuncExternal, TableExternal, MemoryExternal, GlobalExternal, TagExternal}
use Rattle.wasm_spec.proofs.Places.{get_some}
use Rattle.wasm_validity.specs.Context.{names_of}
use Rattle.wasm_validity.specs.Rules.{may_leave}
use Rattle.wasm_validity.specs.TypeRules.{implies}
use Rattle.wasm_smith_config.specs.Config.{AreFeaturesOf}
use Rattle.wasm_smith_config.specs.declared.config.Config.{Config}
use Rattle.wasm_smith_definitions.specs.Kinds.{count_of, of_export}
use Rattle.wasm_smith_definitions.specs.Steps.{Allows}
use Rattle.wasm_smith_definitions.proofs.SpaceLaws.{got_mapped}
use Rattle.wasm_smith_validity.specs.Rules.{item_at}
use Rattle.wasm_smith_validity.specs.Spaces.{Spaces, functions_of, globals_of}
use Rattle.wasm_smith_types.proofs.GroupDraws.{any_more}
use Rattle.wasm_smith_externs.specs.Exports.{AreNames, IsAddedName}
use Rattle.wasm_smith_externs.specs.Sizes.{item_size, exports_size}

implies_from : (a b : Bool) → b ≡ true → implies a b ≡ true
implies_from true b e = e
implies_from false b e = refl

leaves : {A : Type 0} (features : Features) (as_external : A → ExternalType ℕ) (items : List A) (index : ℕ) → index < length items → ((x : A) → may_leave features (Some (as_external x)) ≡ true)
    → may_leave features (slice_get (map as_external items) index) ≡ true
leaves features as_external items index lt may = let at = get_some items index lt in rw (got_mapped as_external items index, at.1) (may at.0)

may_be_exported : (c : Config) (features : Features) (k : Spaces) (kind : ExternalKind) (index : ℕ) → AreFeaturesOf c features → index < count_of k kind → may_leave features (item_at k kind index) ≡ true
may_be_exported c features k FuncKind index f lt = leaves features (λ x. FuncExternal x) (functions_of k) index lt (λ x. refl)
may_be_exported c features k TableKind index f lt = leaves features (λ x. TableExternal x) k.tables index lt (λ x. refl)
may_be_exported c features k MemoryKind index f lt = leaves features (λ x. MemoryExternal x) k.memories index lt (λ x. refl)
may_be_exported c features k GlobalKind index f lt = leaves features (λ x. GlobalExternal x) (globals_of k) index lt (λ x. implies_from x.mutable _ (f MutableGlobal))
may_be_exported c features k TagKind index f lt = leaves features (λ x. TagExternal x) k.tags index lt (λ x. refl)

pub export_allowed : (c : Config) (k : Spaces) (export : Export) → export.index < count_of k export.kind → list_any (bytes_eq export.name) (names_of k.exports) ≡ false → Allows c k (of_export export)
export_allowed c k export lt new features f = and_from _ _ (may_be_exported c features k export.kind export.index f lt) (ap not new)

-- ---- the names of exports are among those that differ

pub bytes_alike : (xs ys : List ℕ) → bytes_eq xs ys ≡ bytes_eq ys xs
bytes_alike xs ys = go (bytes_eq xs ys) (bytes_eq ys xs) refl refl
  where
    go : (a b : Bool) → bytes_eq xs ys ≡ a → bytes_eq ys xs ≡ b → a ≡ b
    go true true e f = refl
    go true false e f = let same : ys ≡ xs = sym ((bytes_eq-Decides xs ys).0 e) in sym ((bytes_eq-Decides ys xs).1 same) ∙ f
    go false true e f = let same : xs ≡ ys = sym ((bytes_eq-Decides ys xs).0 f) in sym e ∙ (bytes_eq-Decides xs ys).1 same
    go false false e f = refl

either_way : (a b : Bool) → (a || b) ≡ (b || a)
either_way true true = refl
either_way true false = refl
either_way false true = refl
either_way false false = refl

pub one_more_name : (old new : List (List ℕ)) (exports all : List Export) (export : Export) → all ≡ exports ++ export ∷ [] → IsAddedName old new export.name → AreNames old exports → AreNames new all
one_more_name old new exports all export pushed added names text =
    let here = bytes_eq export.name text in
    let before = list_any (bytes_eq text) (names_of exports) in
    added.added text ∙ ap (λ b. here || b) (names text) ∙ either_way here before ∙ ap (λ b. before || b) (bytes_alike export.name text)
    ∙ sym (ap (λ (xs : List Export). list_any (bytes_eq text) (names_of xs)) pushed ∙ ap (list_any (bytes_eq text)) (map_push (λ (e : Export). e.name) exports export)
    ∙ any_more (bytes_eq text) (names_of exports) export.name)

pub one_more_size : (k : Spaces) (export : Export)
    → exports_size (record k { exports = k.exports ++ export ∷ [] }) ≡ exports_size k + item_size k.types (functions_of k) k.tags export.kind export.index
one_more_size k export = sum_by_push (λ (e : Export). item_size k.types (functions_of k) k.tags e.kind e.index) k.exports export
