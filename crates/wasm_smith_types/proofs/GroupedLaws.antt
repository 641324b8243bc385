-- One more group.
use Rattle.std.proofs.Common.{◌≡◌, ℕ, zero, suc, ◌+◌, ◌≤◌, ◌<◌, Bool, true, false, ◌||◌, List, [], ◌∷◌, ◌++◌, take, drop, length, Some, append_assoc, refl, sym, ap, ◌∙◌, arith, subst, length-append, length-drop}
use Rattle.std.proofs.lemmas.Bool.{and_from}
use Rattle.std.proofs.lemmas.List.{append-nil}
use Rattle.std.proofs.lemmas.Option.{slice_get_within}
use Rattle.std.specs.List.{slice_get, list_all, AllByRecursion}
use Rattle.wasm_spec.specs.Features.{Features, Gc, has}
use Rattle.wasm_spec.specs.Gates.{is_allowed_composite, is_allowed_sub, is_allowed_group}
use Rattle.wasm_spec.specs.Groups.{reference_bound}
use Rattle.wasm_spec.specs.Syntax.{members}
use Rattle.wasm_spec.specs.TypeReferences.{sub_refs, composite_refs, group_refs}
use Rattle.wasm_spec.specs.Types.{Single, SubType, RecGroup}
use Rattle.wasm_spec.proofs.Places.{all_by_place, get_right}
use Rattle.std.specs.declared.alloc.Global.{Global}
use Rattle.std.specs.declared.vec.Vec.{Vec}
use Rattle.wasm_smith_types.specs.declared.types.Types.{Types}
use Rattle.wasm_smith_types.specs.Bounds.{IsSmall, AreSmall}
use Rattle.wasm_smith_types.specs.Drawing.{Offers, total, function_at}
use Rattle.wasm_smith_types.specs.Permitted.{IsPermittedComposite, SuitsValues, Suits}
use Rattle.wasm_smith_types.specs.Grouped.{grouped, AreWhole, AreDone, AddsGroup}
use Rattle.wasm_smith_types.specs.Making.{made, AreCandidates, IsMember, AreMembers, AddsAll}
use Rattle.wasm_smith_validity.proofs.GroupLaws.{entry_members}
use Rattle.wasm_smith_validity.specs.ValidGroups.{KeepsTypeRules, IsValidGroup, AreValidAfter, AreValidGroups, types_of, entry}
use Rattle.wasm_smith_types.proofs.PermittedLaws.{all_imply', all_flat, function_permitted}
use Rattle.wasm_smith_types.proofs.MakingLaws.{plain_member, members_with_one, function_continues}
use Rattle.wasm_smith_types.proofs.ListLaws.{all_append, all_pass}

-- ---- lists in parts

pub take_front : {X : Type 0} (n : ℕ) (xs ys : List X) → n ≤ length xs → take n (xs ++ ys) ≡ take n xs
take_front zero xs ys h = refl
take_front (suc n) [] ys h = absurd (omega (arith, h))
take_front (suc n) (x ∷ xs) ys h = ap (λ zs. x ∷ zs) (take_front n xs ys (omega (arith, h)))

drop_front : {X : Type 0} (n : ℕ) (xs ys : List X) → n ≤ length xs → drop n (xs ++ ys) ≡ drop n xs ++ ys
drop_front zero xs ys h = refl
drop_front (suc n) [] ys h = absurd (omega (arith, h))
drop_front (suc n) (x ∷ xs) ys h = drop_front n xs ys (omega (arith, h))

pub take_whole : {X : Type 0} (xs : List X) → take (length xs) xs ≡ xs
take_whole [] = refl
take_whole (x ∷ xs) = ap (λ zs. x ∷ zs) (take_whole xs)

parted : {X : Type 0} (n : ℕ) (xs : List X) → take n xs ++ drop n xs ≡ xs
parted zero xs = refl
parted (suc n) [] = refl
parted (suc n) (x ∷ xs) = ap (λ zs. x ∷ zs) (parted n xs)

pub types_of_grouped : (sizes : List ℕ) (ts : List (SubType ℕ)) → total sizes ≡ length ts → types_of (grouped sizes ts) ≡ ts
types_of_grouped [] [] h = refl
types_of_grouped [] (t ∷ ts) h = absurd (omega (arith, h))
types_of_grouped (n ∷ ns) ts h =
    let rest : total ns ≡ length (drop n ts) = omega (arith, h, length-drop n ts) in
    rw (entry_members (take n ts), types_of_grouped ns (drop n ts) rest) (parted n ts)

pub grouped_more : (sizes : List ℕ) (ts own : List (SubType ℕ)) → total sizes ≡ length ts
    → grouped (sizes ++ length own ∷ []) (ts ++ own) ≡ grouped sizes ts ++ entry own ∷ []
grouped_more [] [] own h = ap (λ xs. entry xs ∷ []) (take_whole own)
grouped_more [] (t ∷ ts) own h = absurd (omega (arith, h))
grouped_more (n ∷ ns) ts own h =
    let few : n ≤ length ts = omega (arith, h) in
    let rest : total ns ≡ length (drop n ts) = omega (arith, h, length-drop n ts) in
    rw (take_front n ts own few, drop_front n ts own few, grouped_more ns (drop n ts) own rest) refl

pub sum_more : (ns : List ℕ) (n : ℕ) → total (ns ++ n ∷ []) ≡ total ns + n
sum_more [] n = omega arith
sum_more (m ∷ ns) n = omega (arith, sum_more ns n)

pub whole_more : (sizes : List ℕ) (ts own : List (SubType ℕ)) (n : ℕ) → total sizes ≡ length ts → length own ≡ n → total (sizes ++ n ∷ []) ≡ length (ts ++ own)
whole_more sizes ts own n h e = omega (arith, h, e, sum_more sizes n, length-append ts own)

pub valid_more : (features : Features) (before : List (SubType ℕ)) (gs : List (RecGroup ℕ)) (g : RecGroup ℕ) → AreValidAfter features before gs
    → IsValidGroup features (before ++ types_of gs) g → AreValidAfter features before (gs ++ g ∷ [])
valid_more features before [] g h one = (subst (λ ts. IsValidGroup features ts g) (append-nil before) one, tt)
valid_more features before (x ∷ gs) g h one =
    (h.0, valid_more features (before ++ members x) gs g h.1 (subst (λ ts. IsValidGroup features ts g) (sym (append_assoc before (members x) (types_of gs))) one))

-- ---- a group of members is valid

pub or_on : (a b : Bool) → b ≡ true → (a || b) ≡ true
or_on true b h = refl
or_on false b h = h

sub_allowed : (features : Features) (end : ℕ) (ts : List (SubType ℕ)) (index : ℕ) (type : SubType ℕ) → has features Gc ≡ true
    → IsMember features end ts index type → is_allowed_sub features type ≡ true
sub_allowed features end ts index type on m =
    and_from (_ || has features Gc) (is_allowed_composite features type.composite_type) (or_on _ (has features Gc) on) m.permitted.allowed

pub sub_in_range : (features : Features) (end : ℕ) (ts : List (SubType ℕ)) (index : ℕ) (type : SubType ℕ) → index < end → IsMember features end ts index type
    → AllByRecursion (λ r. r < end) (sub_refs type)
sub_in_range features end ts index type lt m =
    all_append (λ r. r < end) type.supertypes (composite_refs type.composite_type)
    (all_imply' (λ r. r < index) (λ r. r < end) (λ r h. omega (arith, h, lt)) type.supertypes m.rules.earlier) m.permitted.in_range

entry_allowed : (features : Features) (own : List (SubType ℕ)) → has features Gc ≡ true → AllByRecursion (λ t. is_allowed_sub features t ≡ true) own
    → is_allowed_group features (entry own) ≡ true
entry_allowed features [] on h = rw on refl
entry_allowed features (t ∷ []) on h = h.0
entry_allowed features (t ∷ u ∷ own) on h =
    and_from (has features Gc) (list_all (is_allowed_sub features) (t ∷ u ∷ own)) on
    (all_pass (λ t. is_allowed_sub features t ≡ true) (is_allowed_sub features) (λ t e. e) (t ∷ u ∷ own) h)

entry_refs : (P : ℕ → Type 0) (own : List (SubType ℕ)) → AllByRecursion (λ t. AllByRecursion P (sub_refs t)) own → AllByRecursion P (group_refs (entry own))
entry_refs P [] h = tt
entry_refs P (t ∷ []) h = h.0
entry_refs P (t ∷ u ∷ own) h = all_flat P sub_refs (t ∷ u ∷ own) h

-- where the new types keep all rules among all types, they are a valid group after the others
module _ (features : Features) (ts own : List (SubType ℕ)) (on : has features Gc ≡ true) (all : AreMembers features (length (ts ++ own)) (ts ++ own)) where
  abbrev end : ℕ
  end = length (ts ++ own)

  own_member : (place : ℕ) (type : SubType ℕ) → slice_get own place ≡ Some type → IsMember features end (ts ++ own) (length ts + place) type
  own_member place type is = all (length ts + place) type (get_right ts own place ∙ is)

  pub group_of_members : IsValidGroup features ts (entry own)
  group_of_members = record {
    allowed =
        entry_allowed features own on
        (all_by_place (λ t. is_allowed_sub features t ≡ true) own (λ place type is. sub_allowed features end (ts ++ own) (length ts + place) type on (own_member place type is)));
    in_range =
        rw (on, entry_members own, ← length-append ts own) (entry_refs (λ r. r < end) own (all_by_place (λ t. AllByRecursion (λ r. r < end) (sub_refs t)) own
        (λ place type is. sub_in_range features end (ts ++ own) (length ts + place) type (slice_get_within (ts ++ own) (length ts + place) type (get_right ts own place ∙ is)) (own_member place type is))));
    rules = λ place type is. rw (entry_members own) (own_member place type (rw (entry_members own) at is)).rules;
  }

-- types that were permitted below a bound are below a greater one
pub members_below_more : (features : Features) (end more : ℕ) (ts : List (SubType ℕ)) → end ≤ more → AreMembers features end ts → AreMembers features more ts
members_below_more features end more ts le all index type is =
    let m = all index type is in
    record { rules = m.rules; permitted = record { allowed = m.permitted.allowed; in_range = all_imply' (λ r. r < end) (λ r. r < more) (λ r h. omega (arith, h, le)) (composite_refs type.composite_type) m.permitted.in_range; small = m.permitted.small } }

pub group_done : (features : Features) (sizes : List ℕ) (ts own : List (SubType ℕ)) → has features Gc ≡ true → total sizes ≡ length ts
    → AreValidGroups features (grouped sizes ts) → AreMembers features (length (ts ++ own)) (ts ++ own)
    → AreValidGroups features (grouped (sizes ++ length own ∷ []) (ts ++ own))
group_done features sizes ts own on whole valid members =
    rw (grouped_more sizes ts own whole)
    (valid_more features [] (grouped sizes ts) (entry own) valid (rw (types_of_grouped sizes ts whole) (group_of_members features ts own on members)))

pub adds_group : (o : Offers) (end size : ℕ) (old mid : Types) (sizes : Vec ℕ Global) → AddsAll o end size old mid → sizes.items ≡ mid.sizes.items ++ size ∷ []
    → end ≡ length (made old) + size → AreWhole old
    → AddsGroup (λ features. Suits features o) old (record { types = mid.types; sizes = sizes; candidates = mid.candidates })
adds_group o end size old mid sizes all pushed bound whole =
    let is : sizes.items ≡ old.sizes.items ++ length all.types ∷ [] =
    pushed ∙ ap (λ ns. ns ++ size ∷ []) all.sizes ∙ ap (λ n. old.sizes.items ++ n ∷ []) (sym all.many) in
    let longer : length (made old ++ all.types) ≡ end = omega (arith, bound, all.many, length-append (made old) all.types) in
    record {
      size = length all.types;
      sizes = is;
      whole = rw (is, all.added) (whole_more old.sizes.items (made old) all.types (length all.types) whole refl);
      candidates = all.candidates;
      done = λ features suits d.
          let members = all.members features suits (members_below_more features (length (made old)) end (made old) (omega (arith, bound)) d.members) in
          let members' : AreMembers features (length (made old ++ all.types)) (made old ++ all.types) =
          rw longer (subst (AreMembers features end) all.added members) in
          record {
            valid = rw (is, all.added) (group_done features old.sizes.items (made old) all.types (suits.values.gc suits.on) whole d.valid members');
            members = rw all.added members';
          };
    }

-- ---- without garbage collection

module _ (features : Features) (o : Offers) (suits : SuitsValues features o) (ts : List (SubType ℕ)) (s : List ℕ) where
  abbrev function : SubType ℕ
  function = record { is_final = true; supertypes = []; composite_type = (function_at o 0 s).0 }

  function_member : (end : ℕ) → IsMember features end (ts ++ function ∷ []) (length ts) function
  function_member end =
      let permitted = function_permitted features o suits 0 s in
      let anywhere : IsPermittedComposite features end (function_at o 0 s).0 = record {
        allowed = permitted.allowed;
        in_range = all_imply' (λ r. r < 0) (λ r. r < end) (λ r h. absurd (omega (arith, h))) (composite_refs (function_at o 0 s).0) permitted.in_range;
        small = permitted.small;
      } in
      plain_member features o end ts true (function_at o 0 s).0 (function_continues o 0 s) anywhere

  function_valid : IsValidGroup features ts (Single function)
  function_valid =
      let m = function_member (reference_bound features (length ts) (Single function)) in
      record { allowed = m.permitted.allowed; in_range = m.permitted.in_range; rules = λ place type is. only place type is }
    where
      only : (place : ℕ) (type : SubType ℕ) → slice_get (function ∷ []) place ≡ Some type → KeepsTypeRules (ts ++ function ∷ []) (length ts + place) type
      only zero type is = let e : length ts + 0 ≡ length ts = omega arith in let one : function ≡ type = cc in rw (e, sym one) (function_member 0).rules
      only (suc place) type is = absurd cc

  pub function_done : (sizes : List ℕ) → total sizes ≡ length ts → AreValidGroups features (grouped sizes ts) → AreMembers features (length ts) ts
      → AreValidGroups features (grouped (sizes ++ 1 ∷ []) (ts ++ function ∷ [])) × AreMembers features (length (ts ++ function ∷ [])) (ts ++ function ∷ [])
  function_done sizes whole valid members = (
    rw (grouped_more sizes ts (function ∷ []) whole)
        (valid_more features [] (grouped sizes ts) (Single function) valid (rw (types_of_grouped sizes ts whole) function_valid)),
    members_with_one features (length (ts ++ function ∷ [])) ts function
        (members_below_more features (length ts) (length (ts ++ function ∷ [])) ts (omega (arith, length-append ts (function ∷ []))) members)
        (function_member (length (ts ++ function ∷ []))),
  )

pub adds_function : (o : Offers) (s : List ℕ) (old mid : Types) (sizes : Vec ℕ Global)
    → made mid ≡ made old ++ record { is_final = true; supertypes = []; composite_type = (function_at o 0 s).0 } ∷ [] → mid.sizes.items ≡ old.sizes.items
    → AreCandidates (made mid) mid.candidates.items → sizes.items ≡ mid.sizes.items ++ 1 ∷ [] → AreWhole old
    → AddsGroup (λ features. SuitsValues features o) old (record { types = mid.types; sizes = sizes; candidates = mid.candidates })
adds_function o s old mid sizes added same candidates pushed whole =
    let is : sizes.items ≡ old.sizes.items ++ 1 ∷ [] = pushed ∙ ap (λ ns. ns ++ 1 ∷ []) same in
    record {
      size = 1;
      sizes = is;
      whole = rw (is, added) (whole_more old.sizes.items (made old) (_ ∷ []) 1 whole refl);
      candidates = candidates;
      done = λ features suits d.
          let both = function_done features o suits (made old) s old.sizes.items whole d.valid d.members in
          record { valid = rw (is, added) both.0; members = rw added both.1 };
    }

pub singles_more : (old new : Types) (t : SubType ℕ) → made new ≡ made old ++ t ∷ [] → new.sizes.items ≡ old.sizes.items ++ 1 ∷ [] → AreWhole old
    → grouped new.sizes.items (made new) ≡ grouped old.sizes.items (made old) ++ Single t ∷ []
singles_more old new t added sizes whole = rw (added, sizes) (grouped_more old.sizes.items (made old) (t ∷ []) whole)

-- ---- bounds

pub small_members : (features : Features) (t : Types) → AreDone features t → AreSmall (made t)
small_members features t done = all_by_place IsSmall (made t) (λ index type is. (done.members index type is).permitted.small)
