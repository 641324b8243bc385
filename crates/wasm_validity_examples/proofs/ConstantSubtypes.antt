-- Subtypes and flags in worked examples of constant expressions.
use Rattle.std.proofs.Common.{◌≡◌, Bool, true, false, ◌&&◌, List, ◌∷◌, refl}
use Rattle.std.specs.List.{list_all}
use Rattle.wasm_spec.specs.Features.{Flag, Features, has}
use Rattle.wasm_spec.specs.Subtyping.{HeapBelow, RefBelow, SubTypes, is_abstract_below, same}
use Rattle.wasm_spec.specs.Trees.{unrolled}
use Rattle.wasm_spec.specs.Types.{AbstractHeapType, Any, Extern, Func, I31, NoFunc, HeapType, Abstract}
use Rattle.wasm_spec.proofs.Closures.{complete}

pub itself : {R : Type 0} {sub_at : SubTypes R} {nullable : Bool} {heap : HeapType R}
    → RefBelow sub_at (record { nullable = nullable; heap_type = heap }) (record { nullable = nullable; heap_type = heap })
itself = record { null = λ e. e; heap = same }

-- abstract types that aren't below one another
pub apart : (a b : AbstractHeapType) → is_abstract_below a b ≡ false → HeapBelow unrolled (Abstract a) (Abstract b) → ⊥
apart a b e h = let t = complete unrolled {a = Abstract a} {b = Abstract b} h in absurd cc

pub any_is_no_scalar : HeapBelow unrolled (Abstract Any) (Abstract I31) → ⊥
any_is_no_scalar = apart Any I31 refl

pub any_is_not_external : HeapBelow unrolled (Abstract Any) (Abstract Extern) → ⊥
any_is_not_external = apart Any Extern refl

pub external_is_not_any : HeapBelow unrolled (Abstract Extern) (Abstract Any) → ⊥
external_is_not_any = apart Extern Any refl

pub function_is_not_any : HeapBelow unrolled (Abstract Func) (Abstract Any) → ⊥
function_is_not_any = apart Func Any refl

pub function_is_not_external : HeapBelow unrolled (Abstract Func) (Abstract Extern) → ⊥
function_is_not_external = apart Func Extern refl

pub function_is_not_lowest : HeapBelow unrolled (Abstract Func) (Abstract NoFunc) → ⊥
function_is_not_lowest = apart Func NoFunc refl

-- flags that are all on
and_first : (a b : Bool) → (a && b) ≡ true → a ≡ true
and_first true b e = refl
and_first false b e = e

and_rest : (a b : Bool) → (a && b) ≡ true → b ≡ true
and_rest true b e = e
and_rest false b e = absurd cc

module _ (features : Features) where
  pub first_on : (flag : Flag) (others : List Flag) → list_all (has features) (flag ∷ others) ≡ true → has features flag ≡ true
  first_on flag others on = and_first (has features flag) (list_all (has features) others) on

  pub second_on : (a flag : Flag) (others : List Flag) → list_all (has features) (a ∷ flag ∷ others) ≡ true → has features flag ≡ true
  second_on a flag others on = first_on flag others (and_rest (has features a) (list_all (has features) (flag ∷ others)) on)

  pub third_on : (a b flag : Flag) (others : List Flag) → list_all (has features) (a ∷ b ∷ flag ∷ others) ≡ true → has features flag ≡ true
  third_on a b flag others on = second_on b flag others (and_rest (has features a) (list_all (has features) (b ∷ flag ∷ others)) on)
