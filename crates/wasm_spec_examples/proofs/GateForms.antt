-- Tests of flags, one after the other.
use Rattle.std.proofs.Common.{◌≡◌, Bool, true, false, ◌&&◌, refl}

pub ends : (b : Bool) → b ≡ (b && true)
ends true = refl
ends false = refl

-- in any grouping
pub both : (a b : Bool) → ((a && b) && true) ≡ (a && (b && true))
both true b = refl
both false b = refl

pub all_three : (a b c : Bool) → ((a && b) && c) ≡ (a && (b && (c && true)))
all_three true true c = ends c
all_three true false c = refl
all_three false b c = refl

pub three_ended : (a b c : Bool) → ((a && b) && (c && true)) ≡ (a && (b && (c && true)))
three_ended true b c = refl
three_ended false b c = refl

pub thrice : (b : Bool) → (((b && true) && true) && true) ≡ (b && true)
thrice true = refl
thrice false = refl

pub in_group : (a b : Bool) → (a && ((((b && true) && true) && true) && true)) ≡ (a && (b && true))
in_group true true = refl
in_group true false = refl
in_group false b = refl
