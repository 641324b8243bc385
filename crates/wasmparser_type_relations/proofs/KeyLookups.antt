-- Look-ups by what keys hold.
use Rattle.std.proofs.Common.{◌≡◌, ◌≢◌, ℕ, Bool, true, false, cond, List, [], ◌∷◌, Some, refl, sym, ap, ◌∙◌, Vec}
use Rattle.std.proofs.lemmas.Bool.{false_from_ne_true}
use Rattle.std.proofs.lemmas.Map.Text.{is_eq-slice_cmp}
use Rattle.std.proofs.lemmas.Slice.Eq.{bytes_eq-Decides}
use Rattle.std.specs.Cmp.Lexicographic.{slice_cmp}
use Rattle.std.specs.Map.{lookup, KeepsOthers}
use Rattle.std.specs.Ordering.{is_eq, nat_cmp}
use Rattle.std.specs.declared.alloc.Global.{Global}
use Rattle.wasmparser_type_relations.specs.GroupMaps.{keyed, found}

-- whether a stored key holds this one
abbrev holds : List ℕ → Vec ℕ Global → Bool
holds key stored = is_eq (slice_cmp nat_cmp key stored.items)

pub found_is : (entries : List (Vec ℕ Global × ℕ)) (key : List ℕ) → found (keyed entries) key ≡ lookup (holds key) entries
found_is [] key = refl
found_is (entry ∷ entries) key = ap (cond (is_eq (slice_cmp nat_cmp key entry.0.items)) (Some entry.1)) (found_is entries key)

equal : (xs ys : List ℕ) → is_eq (slice_cmp nat_cmp xs ys) ≡ true → xs ≡ ys
equal xs ys h = (bytes_eq-Decides xs ys).0 (sym (is_eq-slice_cmp xs ys) ∙ h)

-- a change at one key changes what is found for no other
pub others_found : (old new : List (Vec ℕ Global × ℕ)) (key : Vec ℕ Global) → KeepsOthers (λ x. holds x.items) (holds key.items) old new
    → (other : List ℕ) → other ≢ key.items → found (keyed new) other ≡ found (keyed old) other
unfolding KeepsOthers
others_found old new key keeps other differs =
    let is_test : (x y : Vec ℕ Global) → holds other x ≡ true → holds other y ≡ holds x.items y = λ x y h. ap (λ q. holds q y) (equal other x.items h) in
    let apart : (k : Vec ℕ Global) → holds key.items k ≡ true → holds other k ≡ false =
    λ k h. false_from_ne_true (holds other k) (λ same. differs (equal other k.items same ∙ sym (equal key.items k.items h))) in
    found_is new other ∙ keeps (holds other) is_test apart ∙ sym (found_is old other)
