-- The types of a module beside those that its configuration gives, by shapes. References in a shape are indexes among the types of its own groups.
use Rattle.std.specs.Prelude.{◌≡◌, ◌+◌, ◌-◌, ◌<◌, ◌≤◌, ◌^◌, ◌++◌, ℕ, List, [], length, map, max, Option, Some, None, IfSome}
use Rattle.wasm_spec.specs.Features.{Features}
use Rattle.wasm_spec.specs.TypeReferences.{group_map}
use Rattle.wasm_spec.specs.Types.{RecGroup, SubType}
use Rattle.wasm_smith_config.specs.Config.{AreFeaturesOf}
use Rattle.wasm_smith_config.specs.declared.config.Config.{Config}
use Rattle.wasm_smith_shapes.specs.Shapes.{ShapeValue, shape_types}
use Rattle.wasm_smith_types.specs.Bounds.{AreSmall}
use Rattle.wasm_smith_types.specs.DrawnGroups.{AreSome, drawn_groups_at}
use Rattle.wasm_smith_validity.specs.ValidGroups.{AreValidGroups, types_of}

-- ---- shapes of a configuration

abbrev pub or_else : Option ShapeValue → Option ShapeValue → Option ShapeValue
or_else (Some shape) other = Some shape
or_else None other = other

-- the shape that a module's imports are taken from: all of its imports, or those that it may have
abbrev pub import_shape : Config → Option ShapeValue
import_shape c = or_else c.module_shape c.available_imports

-- the shape that a module's exports are taken from
abbrev pub export_shape : Config → Option ShapeValue
export_shape c = or_else c.module_shape c.exports

abbrev pub type_count : Option ShapeValue → ℕ
type_count (Some shape) = length (shape_types shape)
type_count None = 0

-- the types of a shape, and none where there is no shape
abbrev pub types_given : Option ShapeValue → List (SubType ℕ)
types_given (Some shape) = shape_types shape
types_given None = []

-- the number of types that shapes give
abbrev pub given_types : Config → ℕ
given_types c = type_count c.module_shape + (type_count c.available_imports + type_count c.exports)

-- The groups of a shape are valid by index, and not so many that their types can't be counted.
pub record HasGivenGroups (c : Config) (shape : ShapeValue) : Type 0 where
  pub valid : (features : Features) → AreFeaturesOf c features → AreValidGroups features shape.groups
  pub few : length (shape_types shape) ≤ 2 ^ 29

pub record HaveGoodGroups (c : Config) : Type 0 where
  pub module_shape : IfSome c.module_shape (HasGivenGroups c)
  pub available_imports : IfSome c.available_imports (HasGivenGroups c)
  pub exports : IfSome c.exports (HasGivenGroups c)

-- ---- groups

-- groups, and then those of a shape, whose references are moved behind them
abbrev pub then_groups : List (RecGroup ℕ) → Option ShapeValue → List (RecGroup ℕ)
then_groups groups (Some shape) = groups ++ map (group_map (λ r. length (types_of groups) + r)) shape.groups
then_groups groups None = groups

-- groups, and then those that come with imports and exports
abbrev pub with_given : Config → List (RecGroup ℕ) → List (RecGroup ℕ)
with_given c groups = then_groups (then_groups groups c.available_imports) c.exports

-- the configuration for what is drawn: the types of shapes count among those that are asked for
abbrev pub for_drawing : Config → Config
for_drawing c = record c { min_types = c.min_types - given_types c; max_types = c.max_types - given_types c }

-- Groups that are drawn, and then those of shapes.
pub record AreDrawnBeside (c : Config) (old new : List ℕ) (groups : List (RecGroup ℕ)) : Type 0 where
  pub drawn : List (RecGroup ℕ)
  pub are : groups ≡ with_given c drawn
  pub few : length (types_of drawn) ≤ c.max_types - given_types c
  pub small : AreSmall (types_of drawn)
  pub some : AreSome drawn
  pub exact : IfSome (drawn_groups_at (for_drawing c) old) (λ d. d ≡ (drawn, new))

abbrev pub AreMadeFor : Option ShapeValue → Config → List ℕ → List ℕ → List (RecGroup ℕ) → Type 0
AreMadeFor (Some shape) c old new groups = (groups ≡ shape.groups) × (new ≡ old)
AreMadeFor None c old new groups = AreDrawnBeside c old new groups

-- The groups of a module: those that the module's shape has, where nothing is drawn; else drawn ones, and those of the other shapes.
abbrev pub AreMade : Config → List ℕ → List ℕ → List (RecGroup ℕ) → Type 0
AreMade c old new groups = AreMadeFor c.module_shape c old new groups

-- ---- refusals

abbrev pub HaveMoreFor : Option ShapeValue → Config → List ℕ → ℕ → Type 0
HaveMoreFor (Some shape) c s most = most < length (shape_types shape)
HaveMoreFor None c s most = IfSome (drawn_groups_at (for_drawing c) s) (λ d. most < length (types_of (with_given c d.0)))

-- More types than these are asked for: the configuration allows more or gives more, and where the groups are drawn so, they have more with those of shapes.
pub record AskForMore (c : Config) (s : List ℕ) (most : ℕ) : Type 0 where
  pub allowed : most < max c.max_types (given_types c)
  pub more : HaveMoreFor c.module_shape c s most
