-- Why a shape is refused, by the part that is looked at.
use Rattle.std.proofs.Common.{◌≡◌, ℕ, List, sym, subst}
use Rattle.std.specs.Prelude.{codes}
use Rattle.wasm_spec.specs.Features.{Features}
use Rattle.wasm_smith_unstructured.specs.declared.error.Error.{Error}
use Rattle.wasm_smith_unstructured.specs.declared.error.Error.TheVariants.{IncorrectFormat, EmptyChoose, NotEnoughData, BadConfig, BadShape, TypeSize, Memory, TooLong}
use Rattle.wasm_smith_shapes.specs.Shapes.{ShapeValue}
use Rattle.wasm_smith_shapes.specs.ValidShapes.{HasGoodExports, HasGoodGroups, HasGoodImports, IsBadPart, IsPartReason, IsShapeReason, bad_exports, bad_groups, bad_imports}
use Rattle.wasm_smith_shapes.specs.declared.shape.ShapeUse.{ShapeUse}

module _ (features : Features) (purpose : ShapeUse) (most : ℕ) (it : ShapeValue) where
  -- a reason of a part is one of the shape
  reason : (part : List ℕ) (Bad : Type 0) → (Bad → IsBadPart features purpose most it part) → (e : Error) → IsPartReason part Bad e → IsShapeReason features purpose most it e
  reason part Bad bad (BadShape named) h = subst (IsBadPart features purpose most it) (sym h.0) (bad h.1)
  reason part Bad bad Memory h = tt
  reason part Bad bad IncorrectFormat h = h
  reason part Bad bad EmptyChoose h = h
  reason part Bad bad NotEnoughData h = h
  reason part Bad bad (BadConfig field) h = h
  reason part Bad bad TypeSize h = h
  reason part Bad bad TooLong h = h

  pub groups_reason : (e : Error) → IsPartReason (codes "groups") (¬ (HasGoodGroups features purpose most it)) e → IsShapeReason features purpose most it e
  groups_reason e h = reason (codes "groups") (¬ (HasGoodGroups features purpose most it)) bad_groups e h

  pub imports_reason : HasGoodGroups features purpose most it → (f : Features) → f ≡ features → (n : ℕ) → n ≡ most
      → (e : Error) → IsPartReason (codes "imports") (¬ (HasGoodImports f purpose n it)) e → IsShapeReason features purpose most it e
  imports_reason groups f same n all e h =
      reason (codes "imports") (¬ (HasGoodImports f purpose n it))
      (λ bad. bad_imports groups (λ good. bad (subst (λ g. HasGoodImports g purpose n it) (sym same) (subst (λ m. HasGoodImports features purpose m it) (sym all) good)))) e h

  pub exports_reason : HasGoodGroups features purpose most it → HasGoodImports features purpose most it → (f : Features) → f ≡ features → (n : ℕ) → n ≡ most
      → (e : Error) → IsPartReason (codes "exports") (¬ (HasGoodExports f purpose n it)) e → IsShapeReason features purpose most it e
  exports_reason groups imports f same n all e h =
      reason (codes "exports") (¬ (HasGoodExports f purpose n it))
      (λ bad. bad_exports groups imports (λ good. bad (subst (λ g. HasGoodExports g purpose n it) (sym same) (subst (λ m. HasGoodExports features purpose m it) (sym all) good)))) e h

  pub imports_there : (f : Features) → f ≡ features → (n : ℕ) → n ≡ most → HasGoodImports f purpose n it → HasGoodImports features purpose most it
  imports_there f same n all good = subst (λ m. HasGoodImports features purpose m it) all (subst (λ g. HasGoodImports g purpose n it) same good)
