-- Configurations without shapes.
use Rattle.std.proofs.Common.{◌≡◌, ℕ, ◌<◌, false, List, length, IfSome, sym, subst, ◌∙◌}
use Rattle.wasm_smith.specs.DrawnGroups.{AreSome, drawn_groups_at}
use Rattle.wasm_smith.specs.Generating.{has_shape}
use Rattle.wasm_smith.specs.Parts.{Config}
use Rattle.wasm_smith.specs.ValidGroups.{types_of}
use Rattle.wasm_smith_module.proofs.BareLaws.{has_no_shapes}
use Rattle.wasm_smith_module.specs.TrueToShapes.{HasTypesBeside, HasTypesOf}
use Rattle.wasm_smith_types.proofs.GivenLaws.{bare_given, bare_more}
use Rattle.wasm_smith_types.specs.Bounds.{AreSmall}
use Rattle.wasm_smith_types.specs.Given.{AskForMore}
use Rattle.wasm_spec.specs.Types.{RecGroup}

-- all groups are drawn, so their types are small, and none is empty
pub drawn_alone : (c : Config) (groups : List (RecGroup ℕ)) → has_shape c ≡ false → HasTypesOf c.module_shape c groups → AreSmall (types_of groups) × AreSome groups
drawn_alone c groups none h =
    let no = has_no_shapes c none in
    let beside : HasTypesBeside c groups = subst (λ asked. HasTypesOf asked c groups) no.module_shape h in
    let same = sym (beside.are ∙ bare_given c beside.drawn no.available_imports no.exports) in
    (subst (λ (gs : List (RecGroup ℕ)). AreSmall (types_of gs)) same beside.small, subst AreSome same beside.some)

-- all types that are asked for are drawn
pub more_drawn : (c : Config) (s : List ℕ) (most : ℕ) → has_shape c ≡ false → AskForMore c s most → IfSome (drawn_groups_at c s) (λ d. most < length (types_of d.0))
more_drawn c s most none more = let no = has_no_shapes c none in (bare_more c no.module_shape no.available_imports no.exports s most more).1
