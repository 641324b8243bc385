-- Names that are checked one after the other, as far as a loop has come.
use Rattle.std.proofs.Common.{◌≡◌, ◌↔◌, ℕ, Bool, true, false, List, [], ◌∷◌, refl, sym, ◌∙◌}
use Rattle.std.specs.Prelude.{◌||◌, bytes_eq}
use Rattle.std.specs.List.{AllByRecursion, IsDistinct}
use Rattle.wasm_smith_unstructured.specs.Names.{is_name}

-- none of these is among the names
abbrev AreNew : List (List ℕ) → List (List ℕ) → Type 0
AreNew seen names = AllByRecursion (λ name. is_name seen name ≡ false) names

-- what is left is distinct and none of it was seen, exactly where all is distinct
pub record AreSeen (all rest seen : List (List ℕ)) : Type 0 where
  pub same : (IsDistinct bytes_eq rest × AreNew seen rest) ↔ IsDistinct bytes_eq all

nothing_new : (names : List (List ℕ)) → AreNew [] names
nothing_new [] = tt
nothing_new (name ∷ names) = (refl, nothing_new names)

pub begins : (all : List (List ℕ)) → AreSeen all all []
begins all = record { same = ((λ h. h.0), (λ h. (h, nothing_new all))) }

pub ends : (all seen : List (List ℕ)) → AreSeen all [] seen → IsDistinct bytes_eq all
unfolding IsDistinct
ends all seen far = far.same.0 (tt, tt)

pub stops : (all rest seen : List (List ℕ)) (name : List ℕ) → AreSeen all (name ∷ rest) seen → is_name seen name ≡ true → IsDistinct bytes_eq all → ⊥
stops all rest seen name far known h =
    let new = (far.same.1 h).1.0 in
    let both : true ≡ false = sym known ∙ new in
    absurd cc

or_false : (a b : Bool) → (a || b) ≡ false → (a ≡ false) × (b ≡ false)
or_false true b e = absurd (let both : true ≡ false = e in cc)
or_false false b e = (refl, e)

or_from : (a b : Bool) → a ≡ false → b ≡ false → (a || b) ≡ false
or_from a b e f = rw (e, f) refl

module _ (seen new : List (List ℕ)) (name : List ℕ) (added : (other : List ℕ) → is_name new other ≡ (bytes_eq name other || is_name seen other)) where
  newer : (rest : List (List ℕ)) → AllByRecursion (λ other. bytes_eq name other ≡ false) rest → AreNew seen rest → AreNew new rest
  newer [] other h = tt
  newer (x ∷ rest) other h = (added x ∙ or_from (bytes_eq name x) (is_name seen x) other.0 h.0, newer rest other.1 h.1)

  older : (rest : List (List ℕ)) → AreNew new rest → AllByRecursion (λ other. bytes_eq name other ≡ false) rest × AreNew seen rest
  older [] h = (tt, tt)
  older (x ∷ rest) h =
      let parts = or_false (bytes_eq name x) (is_name seen x) (sym (added x) ∙ h.0) in
      let more = older rest h.1 in
      ((parts.0, more.0), (parts.1, more.1))

  pub goes_on : (all rest : List (List ℕ)) → AreSeen all (name ∷ rest) seen → is_name seen name ≡ false → AreSeen all rest new
  unfolding IsDistinct
  goes_on all rest far fresh = record {
    same = (
      (λ h. let parts = older rest h.1 in far.same.0 ((parts.0, h.0), (fresh, parts.1))),
      (λ h. let whole = far.same.1 h in (whole.0.1, newer rest whole.0.0 whole.1.1)),
    );
  }
