-- The types of shapes behind others.
use Rattle.std.proofs.Common.{◌≡◌, ℕ, ◌+◌, ◌-◌, ◌^◌, ◌≤◌, ◌<◌, List, [], ◌∷◌, ◌++◌, map, max, length, Option, Some, None, IfSome, append_assoc, refl, sym, ap, ◌∙◌, subst, arith, length-append}
use Rattle.std.proofs.Math.Nat.{max-zero}
use Rattle.std.proofs.Math.Path.{fun_ext}
use Rattle.std.proofs.lemmas.Bool.{le-ltb}
use Rattle.std.proofs.lemmas.Grind.{flat_map-append}
use Rattle.std.proofs.lemmas.List.{append-nil, length-map, map-append}
use Rattle.std.proofs.lemmas.Option.{slice_get_within, slice_get-map}
use Rattle.std.specs.List.{AllByRecursion}
use Rattle.std.specs.Prelude.{option_map, slice_get}
use Rattle.wasm_spec.specs.Syntax.{members}
use Rattle.wasm_spec.specs.Trees.{AreInRange}
use Rattle.wasm_spec.specs.TypeReferences.{sub_map, group_map, group_refs}
use Rattle.wasm_spec.specs.Types.{SubType, RecGroup, Single, Group}
use Rattle.wasm_spec.proofs.GroupTrees.{all_each}
use Rattle.wasm_spec.proofs.Places.{get_left, get_right}
use Rattle.wasm_spec.proofs.TypeMaps.{sub_map_agree, subs_map_agree}
use Rattle.wasm_smith_config.specs.declared.config.Config.{Config}
use Rattle.wasm_smith_shapes.specs.Shapes.{ShapeValue, shape_types}
use Rattle.wasm_smith_types.specs.Bounds.{AreSmall}
use Rattle.wasm_smith_types.specs.Copies.{shifted_index}
use Rattle.wasm_smith_types.specs.Drawing.{total}
use Rattle.wasm_smith_types.specs.DrawnGroups.{AreSome, drawn_groups_at}
use Rattle.wasm_smith_types.specs.Given.{type_count, types_given, given_types, then_groups, with_given, for_drawing, AreDrawnBeside, AreMade, AreMadeFor, AskForMore, HasGivenGroups, HaveGoodGroups, HaveMoreFor}
use Rattle.wasm_smith_types.specs.Grouped.{grouped}
use Rattle.wasm_smith_types.proofs.CloneLaws.{members_map}
use Rattle.wasm_smith_types.proofs.CloneSteps.{entry_map}
use Rattle.wasm_smith_types.proofs.GroupedLaws.{grouped_more, types_of_grouped, whole_more}
use Rattle.wasm_smith_validity.proofs.GroupLaws.{sub_map-id}
use Rattle.wasm_smith_validity.specs.ValidGroups.{types_of, entry}

-- ---- one more group

pub shifted_whole : (f : ℕ → ℕ) (sizes sizes' : List ℕ) (ts now own : List (SubType ℕ)) (n : ℕ) → total sizes ≡ length ts → now ≡ ts ++ map (sub_map f) own
    → sizes' ≡ sizes ++ n ∷ [] → n ≡ length own → total sizes' ≡ length now
shifted_whole f sizes sizes' ts now own n whole added pushed count =
    rw (added, pushed) (whole_more sizes ts (map (sub_map f) own) n whole (length-map own (sub_map f) ∙ sym count))

pub shifted_more : (f : ℕ → ℕ) (sizes sizes' : List ℕ) (ts now own : List (SubType ℕ)) (n : ℕ) → total sizes ≡ length ts → now ≡ ts ++ map (sub_map f) own
    → sizes' ≡ sizes ++ n ∷ [] → n ≡ length own → grouped sizes' now ≡ grouped sizes ts ++ group_map f (entry own) ∷ []
shifted_more f sizes sizes' ts now own n whole added pushed count =
    let size : n ≡ length (map (sub_map f) own) = count ∙ sym (length-map own (sub_map f)) in
    rw (added, pushed, size) (grouped_more sizes ts (map (sub_map f) own) whole) ∙ ap (λ g. grouped sizes ts ++ g ∷ []) (sym (entry_map f own))

-- ---- a shift of all references

from_start : (by r end : ℕ) → r < end → by + end ≤ 2 ^ 32 → shifted_index 0 by r ≡ by + r
from_start by r end low few = rw (le-ltb r 0 (omega arith)) (omega (arith, low, few))

group_agree : (f h : ℕ → ℕ) (group : RecGroup ℕ) → AllByRecursion (λ r. f r ≡ h r) (group_refs group) → group_map f group ≡ group_map h group
group_agree f h (Single type) same = ap Single (sub_map_agree 0 f h type same)
group_agree f h (Group types) same = ap Group (subs_map_agree 0 f h types same)

groups_agree : (by before : ℕ) (groups : List (RecGroup ℕ)) → AreInRange before groups → by + (before + length (types_of groups)) ≤ 2 ^ 32
    → map (group_map (shifted_index 0 by)) groups ≡ map (group_map (λ r. by + r)) groups
groups_agree by before [] range few = refl
groups_agree by before (group ∷ groups) range few =
    let end = before + length (members group) in
    let all = length-append (members group) (types_of groups) in
    let one =
    group_agree (shifted_index 0 by) (λ r. by + r) group
    (all_each (λ r. r < end) (λ r. shifted_index 0 by r ≡ by + r) (λ r low. from_start by r end low (omega (arith, few, all))) (group_refs group) range.0) in
    rw (one, groups_agree by end groups range.1 (omega (arith, few, all))) refl

pub shape_behind : (by : ℕ) (sizes : List ℕ) (ts : List (SubType ℕ)) (now : List (RecGroup ℕ)) (shape : ShapeValue) → by ≡ length ts → total sizes ≡ length ts
    → AreInRange 0 shape.groups → length ts + length (shape_types shape) ≤ 2 ^ 32 → now ≡ grouped sizes ts ++ map (group_map (shifted_index 0 by)) shape.groups
    → now ≡ then_groups (grouped sizes ts) (Some shape)
shape_behind by sizes ts now shape count whole range few added =
    let same : length (types_of (grouped sizes ts)) ≡ by = ap length (types_of_grouped sizes ts whole) ∙ sym count in
    rw same (added ∙ ap (λ gs. grouped sizes ts ++ gs) (groups_agree by 0 shape.groups range (omega (arith, few, count))))

-- ---- the types of all groups

types_of_map : (f : ℕ → ℕ) (groups : List (RecGroup ℕ)) → types_of (map (group_map f) groups) ≡ map (sub_map f) (types_of groups)
types_of_map f [] = refl
types_of_map f (group ∷ groups) = rw (members_map f group, types_of_map f groups) (sym (map-append (sub_map f) (members group) (types_of groups)))

-- the types of a shape stand behind the others
pub then_types : (groups : List (RecGroup ℕ)) (shape : Option ShapeValue)
    → types_of (then_groups groups shape) ≡ types_of groups ++ map (sub_map (λ r. length (types_of groups) + r)) (types_given shape)
then_types groups (Some shape) =
    let f : ℕ → ℕ = λ r. length (types_of groups) + r in
    flat_map-append members groups (map (group_map f) shape.groups) ∙ ap (λ ts. types_of groups ++ ts) (types_of_map f shape.groups)
then_types groups None = sym (append-nil (types_of groups))

given_length : (shape : Option ShapeValue) → length (types_given shape) ≡ type_count shape
given_length (Some shape) = refl
given_length None = refl

pub then_count : (groups : List (RecGroup ℕ)) (shape : Option ShapeValue) → length (types_of (then_groups groups shape)) ≡ length (types_of groups) + type_count shape
then_count groups shape =
    let f : ℕ → ℕ = λ r. length (types_of groups) + r in
    omega
    (arith, ap length (then_types groups shape), length-append (types_of groups) (map (sub_map f) (types_given shape)), length-map (types_given shape) (sub_map f), given_length shape)

-- ---- the shapes of a configuration

pub given_count : (c : Config) (drawn : List (RecGroup ℕ))
    → length (types_of (with_given c drawn)) ≡ length (types_of drawn) + (type_count c.available_imports + type_count c.exports)
given_count c drawn = omega (arith, then_count (then_groups drawn c.available_imports) c.exports, then_count drawn c.available_imports)

pub given_types_at : (c : Config) (drawn : List (RecGroup ℕ)) (n m : ℕ) → n ≡ length (types_of drawn) → m ≡ n + type_count c.available_imports
    → types_of (with_given c drawn) ≡ types_of drawn ++ (map (sub_map (λ r. n + r)) (types_given c.available_imports) ++ map (sub_map (λ r. m + r)) (types_given c.exports))
given_types_at c drawn n m first second =
    let front = then_groups drawn c.available_imports in
    let m' : m ≡ length (types_of front) = second ∙ ap (λ k. k + type_count c.available_imports) first ∙ sym (then_count drawn c.available_imports) in
    rw (first, m')
    (then_types front c.exports ∙ ap (λ ts. ts ++ map (sub_map (λ r. length (types_of front) + r)) (types_given c.exports)) (then_types drawn c.available_imports)
    ∙ append_assoc (types_of drawn) (map (sub_map (λ r. length (types_of drawn) + r)) (types_given c.available_imports)) (map (sub_map (λ r. length (types_of front) + r)) (types_given c.exports)))

-- each type of a shape, by its index
module _ (c : Config) (drawn : List (RecGroup ℕ)) (n : ℕ) (first : n ≡ length (types_of drawn)) where
  abbrev m : ℕ
  m = n + type_count c.available_imports

  abbrev imported : List (SubType ℕ)
  imported = map (sub_map (λ r. n + r)) (types_given c.available_imports)

  abbrev exported : List (SubType ℕ)
  exported = map (sub_map (λ r. m + r)) (types_given c.exports)

  parted : types_of (with_given c drawn) ≡ types_of drawn ++ (imported ++ exported)
  parted = given_types_at c drawn n m first refl

  imported_count : length imported ≡ type_count c.available_imports
  imported_count = length-map (types_given c.available_imports) (sub_map (λ r. n + r)) ∙ given_length c.available_imports

  pub import_type_at : (i : ℕ) (type : SubType ℕ) → slice_get (types_given c.available_imports) i ≡ Some type
      → slice_get (types_of (with_given c drawn)) (n + i) ≡ Some (sub_map (λ r. n + r) type)
  import_type_at i type is =
      let within : i < length imported = omega (arith, imported_count, given_length c.available_imports, slice_get_within (types_given c.available_imports) i type is) in
      ap (λ ts. slice_get ts (n + i)) parted ∙ ap (λ k. slice_get (types_of drawn ++ (imported ++ exported)) (k + i)) first
      ∙ get_right (types_of drawn) (imported ++ exported) i ∙ get_left imported exported i within
      ∙ slice_get-map (sub_map (λ r. n + r)) (types_given c.available_imports) i ∙ ap (option_map (sub_map (λ r. n + r))) is

  pub export_type_at : (i : ℕ) (type : SubType ℕ) → slice_get (types_given c.exports) i ≡ Some type
      → slice_get (types_of (with_given c drawn)) (m + i) ≡ Some (sub_map (λ r. m + r) type)
  export_type_at i type is =
      let place : m + i ≡ length (types_of drawn) + (length imported + i) = omega (arith, first, imported_count) in
      ap (λ ts. slice_get ts (m + i)) parted ∙ ap (slice_get (types_of drawn ++ (imported ++ exported))) place
      ∙ get_right (types_of drawn) (imported ++ exported) (length imported + i) ∙ get_right imported exported i
      ∙ slice_get-map (sub_map (λ r. m + r)) (types_given c.exports) i ∙ ap (option_map (sub_map (λ r. m + r))) is

-- ---- what is made

pub made_alone : (c : Config) (shape : ShapeValue) (old new : List ℕ) (groups : List (RecGroup ℕ)) → c.module_shape ≡ Some shape → AreMade c old new groups
    → (groups ≡ shape.groups) × (new ≡ old)
made_alone c shape old new groups is made = subst (λ (s : Option ShapeValue). AreMadeFor s c old new groups) is made

pub made_beside : (c : Config) (old new : List ℕ) (groups : List (RecGroup ℕ)) → c.module_shape ≡ None → AreMade c old new groups
    → AreDrawnBeside c old new groups
made_beside c old new groups none made = subst (λ (s : Option ShapeValue). AreMadeFor s c old new groups) none made

-- ---- no other types

subs_map-id : (types : List (SubType ℕ)) → map (sub_map (λ r. r)) types ≡ types
subs_map-id [] = refl
subs_map-id (type ∷ types) = rw (sub_map-id type, subs_map-id types) refl

groups_map-id : (groups : List (RecGroup ℕ)) → map (group_map (λ r. r)) groups ≡ groups
groups_map-id [] = refl
groups_map-id (Single type ∷ groups) = rw (sub_map-id type, groups_map-id groups) refl
groups_map-id (Group types ∷ groups) = rw (subs_map-id types, groups_map-id groups) refl

from_nothing : ◌≡◌ {A = ℕ → ℕ} (λ r. 0 + r) (λ r. r)
from_nothing = fun_ext (λ r. omega arith)

pub behind_nothing : (sizes : List ℕ) (ts : List (SubType ℕ)) (now : List (RecGroup ℕ)) (shape : ShapeValue) → sizes ≡ []
    → now ≡ then_groups (grouped sizes ts) (Some shape) → now ≡ shape.groups
behind_nothing sizes ts now shape none added =
    let all : now ≡ map (group_map (λ r. 0 + r)) shape.groups = rw none at added in
    all ∙ ap (λ (f : ℕ → ℕ). map (group_map f) shape.groups) from_nothing ∙ groups_map-id shape.groups

-- ---- no shapes

pub bare_given : (c : Config) (drawn : List (RecGroup ℕ)) → c.available_imports ≡ None → c.exports ≡ None → with_given c drawn ≡ drawn
bare_given c drawn imports exports = ap (λ shape. then_groups (then_groups drawn shape) c.exports) imports ∙ ap (then_groups drawn) exports

module _ (c : Config) (none : c.module_shape ≡ None) (imports : c.available_imports ≡ None) (exports : c.exports ≡ None) where
  pub bare_count : given_types c ≡ 0
  bare_count =
      let a = ap type_count none in
      let b = ap type_count imports in
      let d = ap type_count exports in
      omega (arith, a, b, d)

  pub bare_drawing : for_drawing c ≡ c
  bare_drawing =
      let fewest : c.min_types - given_types c ≡ c.min_types = omega (arith, bare_count) in
      let greatest : c.max_types - given_types c ≡ c.max_types = omega (arith, bare_count) in
      ap (λ n. record c { min_types = n; max_types = c.max_types - given_types c }) fewest ∙ ap (λ n. record c { max_types = n }) greatest

  pub bare_most : max c.max_types (given_types c) ≡ c.max_types
  bare_most = rw bare_count (max-zero c.max_types)

  pub bare_good : HaveGoodGroups c
  bare_good =
      let nothing : (shape : Option ShapeValue) → shape ≡ None → IfSome shape (HasGivenGroups c) =
      λ shape is. subst (λ (s : Option ShapeValue). IfSome s (HasGivenGroups c)) (sym is) tt in
      record {
        module_shape = nothing c.module_shape none;
        available_imports = nothing c.available_imports imports;
        exports = nothing c.exports exports;
      }

  pub bare_made : (old new : List ℕ) (groups : List (RecGroup ℕ)) → AreMade c old new groups → IfSome (drawn_groups_at c old) (λ d. d ≡ (groups, new))
  bare_made old new groups made =
      let it = made_beside c old new groups none made in
      let same : it.drawn ≡ groups = sym (it.are ∙ bare_given c it.drawn imports exports) in
      subst (λ gs. IfSome (drawn_groups_at c old) (λ d. d ≡ (gs, new))) same
      (subst (λ (k : Config). IfSome (drawn_groups_at k old) (λ d. d ≡ (it.drawn, new))) bare_drawing it.exact)

  pub bare_small : (old new : List ℕ) (groups : List (RecGroup ℕ)) → AreMade c old new groups → AreSmall (types_of groups)
  bare_small old new groups made =
      let it = made_beside c old new groups none made in subst (λ gs. AreSmall (types_of gs)) (sym (it.are ∙ bare_given c it.drawn imports exports)) it.small

  pub bare_some : (old new : List ℕ) (groups : List (RecGroup ℕ)) → AreMade c old new groups → AreSome groups
  bare_some old new groups made =
      let it = made_beside c old new groups none made in subst AreSome (sym (it.are ∙ bare_given c it.drawn imports exports)) it.some

  pub bare_more : (s : List ℕ) (most : ℕ) → AskForMore c s most → (most < c.max_types) × IfSome (drawn_groups_at c s) (λ d. most < length (types_of d.0))
  bare_more s most more =
      let past = subst (λ (shape : Option ShapeValue). HaveMoreFor shape c s most) none more.more in
      let past' = subst (λ (k : Config). IfSome (drawn_groups_at k s) (λ d. most < length (types_of (with_given c d.0)))) bare_drawing past in
      let allowed = more.allowed in
      (omega (arith, allowed, bare_most), alone (drawn_groups_at c s) past')
    where
      alone : (d : Option (List (RecGroup ℕ) × List ℕ)) → IfSome d (λ d. most < length (types_of (with_given c d.0))) → IfSome d (λ d. most < length (types_of d.0))
      alone None h = tt
      alone (Some d) h = subst (λ gs. most < length (types_of gs)) (bare_given c d.0 imports exports) h
