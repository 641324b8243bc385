-- Items that are asked for come right behind the items that there were.
use Rattle.std.proofs.Common.{◌≡◌, ℕ, ◌+◌, ◌≤◌, ◌^◌, List, [], ◌∷◌, ◌++◌, map, length, Option, Some, None, refl, ap, sym, ◌∙◌, subst, arith, append_assoc}
use Rattle.std.proofs.lemmas.List.{append-nil, length-map}
use Rattle.wasm_spec.specs.TypeReferences.{external_map}
use Rattle.wasm_spec.specs.Types.{ExternalKind, ExternalType, FuncKind, TableKind, MemoryKind, GlobalKind, TagKind, SubType}
use Rattle.wasm_validity.specs.Entries.{Entry}
use Rattle.wasm_smith_config.proofs.UnionLaws.{flags, grown_by}
use Rattle.wasm_smith_config.specs.Rows.{switches}
use Rattle.wasm_smith_config.specs.declared.config.Config.{Config}
use Rattle.wasm_smith_definitions.proofs.OwnItemLaws.{as_many_own}
use Rattle.wasm_smith_definitions.specs.Steps.{IsFilled, IsStep, Wanted}
use Rattle.wasm_smith_externs.specs.ShapeExports.{BeginsWith, moved_types}
use Rattle.wasm_smith_module.specs.Asked.{HasGoodShapes, IsGoodFor, asked_items, exports_in, exports_start, own_of}
use Rattle.wasm_smith_module.specs.Bounds.{own_count}
use Rattle.wasm_smith_shapes.specs.Shapes.{ShapeValue}
use Rattle.wasm_smith_shapes.specs.declared.shape.ShapeUse.{ShapeUse}
use Rattle.wasm_smith_shapes.specs.declared.shape.ShapeUse.TheVariants.{Module, Exports}
use Rattle.wasm_smith_types.specs.Given.{export_shape, or_else}
use Rattle.wasm_smith_validity.specs.Spaces.{Spaces, spaces_after, spaces_after_all}

-- ---- what a step adds

-- one item of a kind puts one thing at the end
abbrev pub AddsOne : {A X : Type 0} → (Spaces → List X) → (A → Entry) → (A → X) → Type 0
AddsOne {A = A} part entry view = (k : Spaces) (x : A) → part (spaces_after k (entry x)) ≡ part k ++ view x ∷ []

all_added : {A X : Type 0} (part : Spaces → List X) (entry : A → Entry) (view : A → X) → AddsOne part entry view → (k : Spaces) (xs : List A) → part (spaces_after_all k (map entry xs)) ≡ part k ++ map view xs
all_added part entry view one k [] = sym (append-nil (part k))
all_added part entry view one k (x ∷ xs) =
    all_added part entry view one (spaces_after k (entry x)) xs ∙ ap (λ front. front ++ map view xs) (one k x) ∙ append_assoc (part k) (view x ∷ []) (map view xs)

pub step_added : {A X : Type 0} (part : Spaces → List X) (c : Config) (entry : A → Entry) (view : A → X) → AddsOne part entry view → (old new : Spaces) (xs : List A) → IsStep c entry old new xs
    → part new ≡ part old ++ map view xs
step_added part c entry view one old new xs h = ap part h.known ∙ all_added part entry view one old xs

module _ {A X : Type 0} (part : Spaces → List X) (c : Config) (wanted : Wanted) (entry : A → Entry) (Bound : A → Type 0) (type : A → X) (one : AddsOne part entry type) (types : List X) (old : Spaces) (s : List ℕ)
    (new : Spaces) (left : List ℕ) (items : List A) (h : IsFilled c wanted entry Bound type types old s new left items) where
  -- what is there after the items that are asked for
  pub filled_between : part h.between ≡ part old ++ types
  filled_between = step_added part c entry type one old h.between h.own h.first ∙ ap (λ xs. part old ++ xs) h.are

  -- and after all
  pub filled_first : BeginsWith (part old ++ types) (part new)
  filled_first = (map type h.drawn, step_added part c entry type one h.between new h.drawn h.grown.step ∙ ap (λ front. front ++ map type h.drawn) filled_between)

  -- as many items are made as are asked for
  pub filled_own : length h.own ≡ length types
  filled_own = sym (length-map h.own type) ∙ ap length h.are

-- ---- how many items are asked for

-- modules have few exports that a shape has
pub few_exports : (c : Config) (purpose : ShapeUse) (shape : ShapeValue) → IsGoodFor c purpose (Some shape) → length shape.exports ≤ 2 ^ 29
few_exports c purpose shape is_good = let few = (is_good (grown_by 0 (switches c)) (flags c)).exports.few in omega (arith, few)

pub few_asked : (c : Config) (count : ℕ) → HasGoodShapes c → length (asked_items c count) ≤ 2 ^ 29
few_asked c count shapes = go c.module_shape refl
  where
    from : (purpose : ShapeUse) (shape : ShapeValue) → IsGoodFor c purpose (Some shape) → export_shape c ≡ Some shape → length (asked_items c count) ≤ 2 ^ 29
    from purpose shape is_good asked =
        let many : length (asked_items c count) ≡ length shape.exports =
        ap (λ x. length (moved_types (λ r. exports_start c count + r) (exports_in x))) asked ∙ length-map shape.exports (λ item. external_map (λ r. exports_start c count + r) item.type) in
        omega (arith, many, few_exports c purpose shape is_good)

    beside : c.module_shape ≡ None → (asked : Option ShapeValue) → c.exports ≡ asked → length (asked_items c count) ≤ 2 ^ 29
    beside alone (Some shape) e = from Exports shape (subst (IsGoodFor c Exports) e shapes.exports) (ap (λ m. or_else m c.exports) alone ∙ e)
    beside alone None e =
        let none : length (asked_items c count) ≡ 0 = ap (λ x. length (moved_types (λ r. exports_start c count + r) (exports_in x))) (ap (λ m. or_else m c.exports) alone ∙ e) in omega (arith, none)

    go : (asked : Option ShapeValue) → c.module_shape ≡ asked → length (asked_items c count) ≤ 2 ^ 29
    go (Some shape) e = from Module shape (subst (IsGoodFor c Module) e shapes.module_shape) (ap (λ m. or_else m c.exports) e)
    go None e = beside e c.exports refl

-- so are those of each kind
pub few_own : (c : Config) (types : List (SubType ℕ)) → HasGoodShapes c → (kind : ExternalKind) → own_count (own_of c types) kind ≤ 2 ^ 29
few_own c types shapes kind = go kind
  where
    items : List (ExternalType ℕ)
    items = asked_items c (length types)

    few : length items ≤ 2 ^ 29
    few = few_asked c (length types) shapes

    go : (kind : ExternalKind) → own_count (own_of c types) kind ≤ 2 ^ 29
    go FuncKind = omega (arith, few, as_many_own items)
    go TableKind = omega (arith, few, as_many_own items)
    go MemoryKind = omega (arith, few, as_many_own items)
    go GlobalKind = omega (arith, few, as_many_own items)
    go TagKind = omega (arith, few, as_many_own items)
