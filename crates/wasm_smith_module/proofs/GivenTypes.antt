-- The types of a module beside those of shapes.
use Rattle.std.proofs.Common.{◌≡◌, ℕ, ◌-◌, ◌<◌, ◌≤◌, ◌^◌, Bool, true, List, Option, Some, None, is_some, refl, ap, arith, if◌then◌else◌}
use Rattle.std.specs.Option.{IsSome}
use Rattle.std.specs.Prelude.{IfNone, IfSome}
use Rattle.wasm_smith_config.proofs.UnionLaws.{flags, grown_by}
use Rattle.wasm_smith_config.specs.Rows.{switches}
use Rattle.wasm_smith_config.specs.declared.config.Config.{Config}
use Rattle.wasm_spec.specs.Types.{RecGroup}
use Rattle.wasm_smith_module.proofs.OwnLaws.{few_types_given}
use Rattle.wasm_smith_module.specs.Asked.{HasGoodShapes, IsGoodFor}
use Rattle.wasm_smith_module.proofs.GoodLaws.{types_small}
use Rattle.wasm_smith_module.specs.ModuleValue.{ModuleValue}
use Rattle.wasm_smith_module.specs.Promise.{PassesTypes, least_types, owed}
use Rattle.wasm_smith_module.specs.TrueToShapes.{AreTypesOf, HasTypesOf}
use Rattle.wasm_smith_shapes.specs.Shapes.{ShapeValue}
use Rattle.wasm_smith_shapes.specs.declared.shape.ShapeUse.{ShapeUse}
use Rattle.wasm_smith_shapes.specs.declared.shape.ShapeUse.TheVariants.{Module, Imports, Exports}
use Rattle.wasm_smith_types.specs.Given.{AreMade, AreMadeFor, HasGivenGroups, HaveGoodGroups, given_types, type_count}
use Rattle.wasm_smith_validity.specs.ValidGroups.{types_of}

given_groups : (c : Config) (purpose : ShapeUse) (asked : Option ShapeValue) → IsGoodFor c purpose asked → IfSome asked (HasGivenGroups c)
given_groups c purpose (Some shape) good = record { valid = λ features is. (good features is).groups.valid; few = (good (grown_by 0 (switches c)) (flags c)).groups.few }
given_groups c purpose None good = tt

-- the groups of good shapes are good
pub good_groups : (c : Config) → HasGoodShapes c → HaveGoodGroups c
good_groups c h = record {
  module_shape = given_groups c Module c.module_shape h.module_shape;
  available_imports = given_groups c Imports c.available_imports h.available_imports;
  exports = given_groups c Exports c.exports h.exports;
}

-- more types are owed than the shape of a whole module has
pub types_owed : (c : Config) → is_some c.module_shape ≡ true → type_count c.module_shape < c.min_types → 0 < owed c
types_owed c some few =
    let least : least_types c ≡ c.min_types - type_count c.module_shape = ap (λ (b : Bool). if b then c.min_types - type_count c.module_shape else 0) some in omega (arith, least, few)

-- the types that are made are those of shapes and small ones
pub made_types : (c : Config) (old new : List ℕ) (groups : List (RecGroup ℕ)) → AreMade c old new groups → HasTypesOf c.module_shape c groups
made_types c old new groups h = go c.module_shape h
  where
    go : (asked : Option ShapeValue) → AreMadeFor asked c old new groups → HasTypesOf asked c groups
    go (Some shape) h = h.0
    go None h = record { drawn = h.drawn; are = h.are; small = h.small; some = h.some }

pub types_shaped : (c : Config) (old new : List ℕ) (groups : List (RecGroup ℕ)) → AreMade c old new groups → AreTypesOf c (types_of groups)
types_shaped c old new groups h = record { groups = groups; are = refl; shaped = made_types c old new groups h }

pub few_given : (c : Config) → HasGoodShapes c → given_types c ≤ 2 ^ 31
few_given c h =
    omega
    (arith, few_types_given c Module c.module_shape h.module_shape, few_types_given c Imports c.available_imports h.available_imports, few_types_given c Exports c.exports h.exports)

-- where so many types are allowed, there are never more
pub made_some : (c : Config) (s : List ℕ) (most : ℕ) (made : Option ModuleValue) → 2 ^ 31 ≤ most → IfNone made (PassesTypes c s most) → IsSome made
made_some c s most (Some m) enough h = refl
made_some c s most None enough h = absurd (let allowed = h.more.allowed in omega (arith, allowed, types_small c h.good, few_given c h.shapes, enough))
