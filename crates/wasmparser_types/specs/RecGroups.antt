-- Recursive groups of the code as those of the specification.
use Rattle.std.specs.Prelude.{Bool, true, false, List, [], ◌∷◌, map}
use Rattle.wasm_spec.specs.Types as spec
use Rattle.wasmparser_types.specs.Index.{Index}
use Rattle.wasmparser_types.specs.SubTypes.{sub_type}
use Rattle.wasmparser_types.specs.declared.sub_type.RecGroup.{RecGroup}
use Rattle.wasmparser_types.specs.declared.sub_type.GroupTypes.{GroupTypes}
use Rattle.wasmparser_types.specs.declared.sub_type.GroupTypes.TheVariants.{Implicit, Explicit}

abbrev pub group_of : GroupTypes → spec.RecGroup Index
group_of (Implicit type) = spec.Single (sub_type type)
group_of (Explicit types) = spec.Group (map sub_type types.items)

abbrev pub rec_group : RecGroup → spec.RecGroup Index
rec_group group = group_of group.inner

abbrev pub is_explicit : spec.RecGroup Index → Bool
is_explicit (spec.Single type) = false
is_explicit (spec.Group types) = true

-- the sub types of a group, in order
abbrev pub members : spec.RecGroup Index → List (spec.SubType Index)
members (spec.Single type) = type ∷ []
members (spec.Group types) = types
