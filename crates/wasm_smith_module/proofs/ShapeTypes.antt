-- Where the types of shapes stand among those of a module.
use Rattle.std.proofs.Common.{◌≡◌, ℕ, ◌+◌, ◌&&◌, ◌||◌, IsFalse, List, [], ◌++◌, map, length, Option, Some, None, is_some, refl, sym, ap, ◌∙◌, subst, arith, append_assoc, length-append}
use Rattle.std.proofs.lemmas.List.{append-nil, length-map}
use Rattle.wasm_spec.specs.TypeReferences.{sub_map}
use Rattle.wasm_spec.specs.Types.{RecGroup, SubType}
use Rattle.wasm_smith_config.specs.Config.{IsGood, at_least}
use Rattle.wasm_smith_config.specs.declared.config.Config.{Config}
use Rattle.wasm_smith_definitions.proofs.MovedTypes.{Moves, moved_among, moved_first}
use Rattle.wasm_smith_module.specs.Asked.{exports_start, imports_start}
use Rattle.wasm_smith_module.specs.TrueToShapes.{AreTypesOf, HasTypesOf}
use Rattle.wasm_smith_shapes.specs.Shapes.{ShapeValue, shape_types}
use Rattle.wasm_smith_types.proofs.GivenLaws.{given_count, given_types_at}
use Rattle.wasm_smith_types.specs.Given.{export_shape, import_shape, or_else, type_count, types_given, with_given}
use Rattle.wasm_smith_validity.specs.ValidGroups.{types_of}

-- ---- the shape of a whole module stands alone

pub stands_alone : (c : Config) (shape : ShapeValue) → IsGood c → c.module_shape ≡ Some shape → (c.available_imports ≡ None) × (c.exports ≡ None)
stands_alone c shape good e = go c.available_imports c.exports (subst (λ asked. IsFalse (is_some asked && (is_some c.available_imports || is_some c.exports))) e (good 26 (at_least [] 0 0) (omega arith)))
  where
    go : (a b : Option ShapeValue) → IsFalse (is_some (Some shape) && (is_some a || is_some b)) → (a ≡ None) × (b ≡ None)
    go None None h = (refl, refl)
    go (Some a) b h = absurd cc
    go None (Some b) h = absurd cc

some_is : {A : Type 0} (x y : A) → Some x ≡ Some y → x ≡ y
some_is x y e = cc

-- all types of a module are those of its shape
whole_moved : (types : List (SubType ℕ)) (shape : ShapeValue) (start : ℕ) → types ≡ shape_types shape → start ≡ 0 → Moves (λ r. start + r) (shape_types shape) types
whole_moved types shape start are none =
    rw (none, are) (subst (λ ts. Moves (λ r. 0 + r) (shape_types shape) ts) (append-nil (shape_types shape)) (moved_first (shape_types shape) []))

module _ (c : Config) (types : List (SubType ℕ)) (good : IsGood c) (h : AreTypesOf c types) where
  -- the types of imports stand before those of exports
  imports_first : (drawn : List (RecGroup ℕ)) (shape : ShapeValue) → c.available_imports ≡ Some shape → types ≡ types_of (with_given c drawn) → import_shape c ≡ Some shape
      → Moves (λ r. imports_start c (length types) + r) (shape_types shape) types
  imports_first drawn shape asked are is =
      let n = length (types_of drawn) in
      let m = n + type_count c.available_imports in
      let start : n ≡ imports_start c (length types) =
      let count = given_count c drawn in let many = ap length are in let given = ap type_count is in let same = ap type_count asked in omega (arith, count, many, given, same) in
      let all = are ∙ given_types_at c drawn n m refl refl in
      let placed : types ≡ types_of drawn ++ (map (sub_map (λ r. n + r)) (shape_types shape) ++ map (sub_map (λ r. m + r)) (types_given c.exports)) =
      subst (λ (x : Option ShapeValue). types ≡ types_of drawn ++ (map (sub_map (λ r. n + r)) (types_given x) ++ map (sub_map (λ r. m + r)) (types_given c.exports))) asked all in
      subst (λ k. Moves (λ r. k + r) (shape_types shape) types) start (moved_among n (types_of drawn) (shape_types shape) (map (sub_map (λ r. m + r)) (types_given c.exports)) types refl placed)

  -- the types of exports stand last
  exports_last : (drawn : List (RecGroup ℕ)) (shape : ShapeValue) → c.exports ≡ Some shape → types ≡ types_of (with_given c drawn) → export_shape c ≡ Some shape
      → Moves (λ r. exports_start c (length types) + r) (shape_types shape) types
  exports_last drawn shape asked are is =
      let n = length (types_of drawn) in
      let m = n + type_count c.available_imports in
      let middle = map (sub_map (λ r. n + r)) (types_given c.available_imports) in
      let start : m ≡ exports_start c (length types) =
      let count = given_count c drawn in let many = ap length are in let given = ap type_count is in let same = ap type_count asked in omega (arith, count, many, given, same) in
      let front : length (types_of drawn ++ middle) ≡ m = length-append (types_of drawn) middle ∙ ap (λ k. n + k) (length-map (types_given c.available_imports) (sub_map (λ r. n + r)) ∙ given_length c.available_imports) in
      let all = are ∙ given_types_at c drawn n m refl refl in
      let placed : types ≡ types_of drawn ++ (middle ++ map (sub_map (λ r. m + r)) (shape_types shape)) =
      subst (λ (x : Option ShapeValue). types ≡ types_of drawn ++ (middle ++ map (sub_map (λ r. m + r)) (types_given x))) asked all in
      let last : types ≡ (types_of drawn ++ middle) ++ (map (sub_map (λ r. m + r)) (shape_types shape) ++ []) =
      placed ∙ sym (append_assoc (types_of drawn) middle (map (sub_map (λ r. m + r)) (shape_types shape))) ∙ ap (λ ts. (types_of drawn ++ middle) ++ ts) (sym (append-nil _)) in
      subst (λ k. Moves (λ r. k + r) (shape_types shape) types) start (moved_among m (types_of drawn ++ middle) (shape_types shape) [] types front last)
    where
      given_length : (asked : Option ShapeValue) → length (types_given asked) ≡ type_count asked
      given_length (Some shape) = refl
      given_length None = refl

  pub exports_moved : (shape : ShapeValue) → export_shape c ≡ Some shape → Moves (λ r. exports_start c (length types) + r) (shape_types shape) types
  exports_moved shape asked = go c.module_shape refl h.shaped
    where
      go : (m : Option ShapeValue) → c.module_shape ≡ m → HasTypesOf m c h.groups → Moves (λ r. exports_start c (length types) + r) (shape_types shape) types
      go (Some own) e shaped =
          let same : own ≡ shape = some_is own shape (sym (ap (λ m. or_else m c.exports) e) ∙ asked) in
          let are : types ≡ shape_types shape = h.are ∙ ap types_of shaped ∙ ap shape_types same in
          let given : type_count (export_shape c) ≡ length (shape_types shape) = ap type_count asked in
          whole_moved types shape (exports_start c (length types)) are (let many = ap length are in omega (arith, many, given))
      go None e shaped = exports_last shaped.drawn shape (sym (ap (λ m. or_else m c.exports) e) ∙ asked) (h.are ∙ ap types_of shaped.are) asked

  pub imports_moved : (shape : ShapeValue) → import_shape c ≡ Some shape → Moves (λ r. imports_start c (length types) + r) (shape_types shape) types
  imports_moved shape asked = go c.module_shape refl h.shaped
    where
      go : (m : Option ShapeValue) → c.module_shape ≡ m → HasTypesOf m c h.groups → Moves (λ r. imports_start c (length types) + r) (shape_types shape) types
      go (Some own) e shaped =
          let same : own ≡ shape = some_is own shape (sym (ap (λ m. or_else m c.available_imports) e) ∙ asked) in
          let are : types ≡ shape_types shape = h.are ∙ ap types_of shaped ∙ ap shape_types same in
          let given : type_count (import_shape c) ≡ length (shape_types shape) = ap type_count asked in
          whole_moved types shape (imports_start c (length types)) are (let many = ap length are in omega (arith, many, given))
      go None e shaped = imports_first shaped.drawn shape (sym (ap (λ m. or_else m c.available_imports) e) ∙ asked) (h.are ∙ ap types_of shaped.are) asked
