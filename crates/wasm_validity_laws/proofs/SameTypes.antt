-- Whether what has codes is equal, decided by these.
use Rattle.std.proofs.Common.{◌≡◌, ℕ, Bool, true, false, ◌&&◌, refl, ap, arith, nat_eq}
use Rattle.std.proofs.lemmas.Bool.{and_parts}
use Rattle.std.proofs.lemmas.Bool.Decides.{nat_tests}
use Rattle.std.specs.Coded.{Coded}
use base.Stored.{Gv, gnil, gnum, gcons}

abbrev is_same_code : Gv → Gv → Bool
is_same_code gnil gnil = true
is_same_code (gnum m) (gnum n) = nat_eq m n
is_same_code (gcons a b) (gcons c d) = is_same_code a c && is_same_code b d
is_same_code _ _ = false

same_number : (m n : ℕ) → nat_eq m n ≡ true → m ≡ n
same_number m n e = grind (arith, nat_tests)

number_itself : (n : ℕ) → nat_eq n n ≡ true
number_itself n = grind (arith, nat_tests)

both_true : (a b : Bool) → a ≡ true → b ≡ true → (a && b) ≡ true
both_true true b first second = second
both_true false b first second = absurd cc

code_is : (a b : Gv) → is_same_code a b ≡ true → a ≡ b
code_is gnil gnil e = refl
code_is gnil (gnum n) e = absurd cc
code_is gnil (gcons c d) e = absurd cc
code_is (gnum m) gnil e = absurd cc
code_is (gnum m) (gnum n) e = ap (λ k. gnum k) (same_number m n e)
code_is (gnum m) (gcons c d) e = absurd cc
code_is (gcons a b) gnil e = absurd cc
code_is (gcons a b) (gnum n) e = absurd cc
code_is (gcons a b) (gcons c d) e =
    let parts = and_parts (is_same_code a c) (is_same_code b d) e in
    rw (code_is a c parts.0, code_is b d parts.1)

code_itself : (a : Gv) → is_same_code a a ≡ true
code_itself gnil = refl
code_itself (gnum n) = number_itself n
code_itself (gcons a b) = both_true (is_same_code a a) (is_same_code b b) (code_itself a) (code_itself b)

module _ {A : Type 0} (coded : Coded A) where
  abbrev pub is_one : A → A → Bool
  is_one a b = is_same_code (coded.code a) (coded.code b)

  pub one_is : (a b : A) → is_one a b ≡ true → a ≡ b
  one_is a b e = coded.inj a b (code_is (coded.code a) (coded.code b) e)

  pub one_itself : (a : A) → is_one a a ≡ true
  one_itself a = code_itself (coded.code a)
