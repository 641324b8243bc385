-- Rules on what ids stand for.
use Rattle.std.proofs.Common.{◌≡◌, ◌↔◌, arith, ℕ, Bool, true, false, IsTrue, Some, None, not, refl, ap, subst, slice_get}
use Rattle.wasm_spec.specs.Groups.{ContinuesFunc, ExtendsSupertypes, Links, PassesLimit, items_in, many_items, many_links}
use Rattle.wasm_spec.specs.Limits.{Limit, IsPassedBy}
use Rattle.wasm_spec.specs.Types.{SubType}
use Rattle.wasmparser_type_list.specs.TypeTables.{IdMatches, TypeTables, sub_types, type_by_id}
use Rattle.wasmparser_rec_groups.specs.Rules.{IdExtends, IsOpen, IsWithinDepth, KeepsRules}
use Rattle.wasmparser_types.specs.Index.{Index, Id}

module _ (tables : TypeTables) where
  pub open_by : (id : ℕ) (type : SubType Index) → slice_get (sub_types tables) id ≡ Some type → IsTrue (not type.is_final) ↔ IsOpen tables id
  open_by id type is = (
    (λ h. record { type = type; is = is; is_open = go type.is_final h }),
    (λ h. let one : h.type ≡ type = let e = h.is in cc in ap not (subst (λ (x : SubType Index). x.is_final ≡ false) one h.is_open)),
  ) where
    go : (b : Bool) → IsTrue (not b) → b ≡ false
    go true h = absurd cc
    go false h = refl

  pub not_open : (id : ℕ) → slice_get (sub_types tables) id ≡ None → ¬ (IsOpen tables id)
  not_open id none h = let e = h.is in cc

  pub extends_by : (id t : ℕ) → IsOpen tables t → IdMatches tables id t → IdExtends tables id (Id t)
  extends_by id t is_open matches =
      let one : is_open.type ≡ matches.upper = let e = is_open.is in let f = matches.b_is in cc in
      record {
        type = matches.lower;
        is = matches.a_is;
        extends = record { supertype = matches.upper; is = matches.b_is; is_open = subst (λ (x : SubType Index). x.is_final ≡ false) one is_open.is_open; matches = matches.matches };
      }

  pub extends_open : (id t : ℕ) → IdExtends tables id (Id t) → IsOpen tables t
  extends_open id t h = record { type = h.extends.supertype; is = h.extends.is; is_open = h.extends.is_open }

  pub extends_matches : (id t : ℕ) → IdExtends tables id (Id t) → IdMatches tables id t
  extends_matches id t h = record { lower = h.type; upper = h.extends.supertype; a_is = h.is; b_is = h.extends.is; matches = h.extends.matches }

  -- what an id stands for, read twice
  same_type : (id : ℕ) (x y : SubType Index) → slice_get (sub_types tables) id ≡ Some x → slice_get (sub_types tables) id ≡ Some y → x ≡ y
  same_type id x y a b = cc

  pub keeps_by : (id : ℕ) (type : SubType Index) → slice_get (sub_types tables) id ≡ Some type → ExtendsSupertypes (type_by_id tables) type → ContinuesFunc (type_by_id tables) type.composite_type
      → KeepsRules tables id
  keeps_by id type is extends continues = record { type = type; is = is; extends = extends; continues = continues }

  pub keeps_extends : (id : ℕ) (type : SubType Index) → slice_get (sub_types tables) id ≡ Some type → KeepsRules tables id → ExtendsSupertypes (type_by_id tables) type
  keeps_extends id type is keeps = subst (ExtendsSupertypes (type_by_id tables)) (same_type id keeps.type type keeps.is is) keeps.extends

  pub keeps_continues : (id : ℕ) (type : SubType Index) → slice_get (sub_types tables) id ≡ Some type → KeepsRules tables id → ContinuesFunc (type_by_id tables) type.composite_type
  keeps_continues id type is keeps = subst (λ (x : SubType Index). ContinuesFunc (type_by_id tables) x.composite_type) (same_type id keeps.type type keeps.is is) keeps.continues

  pub passes_none : (id : ℕ) (type : SubType Index) → slice_get (sub_types tables) id ≡ Some type
      → ((l : Limit) → ¬ (IsPassedBy l (items_in type.composite_type l)))
      → IsWithinDepth tables id → (l : Limit) → ¬ (PassesLimit (type_by_id tables) (Id id) l)
  passes_none id type is few near l passes = go passes refl where
    go : {r : Index} {m : Limit} → PassesLimit (type_by_id tables) r m → r ≡ Id id → ⊥
    go (many_items {limit} d) r_is =
        let one : d.type ≡ type = same_type id d.type type (subst (λ q. type_by_id tables q ≡ Some d.type) r_is d.is) is in
        few limit (subst (λ (x : SubType Index). IsPassedBy limit (items_in x.composite_type limit)) one d.holds)
    go (many_links {n} {t} links passed) r_is = let far = near n t (subst (λ q. Links (type_by_id tables) n q t) r_is links) in absurd (omega (arith, far, passed))
