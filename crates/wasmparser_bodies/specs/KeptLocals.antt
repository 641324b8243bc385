-- The locals of a body, of which the parameters past the first 64 are in its function's type alone.
use Rattle.std.specs.Prelude.{◌+◌, ◌&&◌, ℕ, zero, suc, nat_le, nat_lt, List, [], ◌∷◌, ◌++◌, drop, map, slice_get, Option, Some, None, if◌then◌else◌}
use Rattle.wasm_bodies.specs.Bodies.{parameter}
use Rattle.wasm_bodies.specs.BodyContext.{Local}
use Rattle.wasm_spec.specs.Types.{ValType, I32}
use Rattle.wasmparser_types.specs.Index.{Index}

-- The first locals, how many parameters come after them, which aren't kept, and the locals after those.
pub record KeptLocals : Type 0 where
  pub first : List (Local Index)
  pub later : ℕ
  pub declared : List (Local Index)

abbrev pub no_locals : KeptLocals
no_locals = record { first = []; later = 0; declared = [] }

-- The type of a parameter, i32 where there is none: locals of a function are never asked for with fewer parameters than it has.
abbrev pub type_or_i32 : Option (ValType Index) → ValType Index
type_or_i32 None = I32
type_or_i32 (Some type) = type

-- so many of the types at the front
abbrev pub types_at_front : ℕ → List (ValType Index) → List (ValType Index)
types_at_front zero types = []
types_at_front (suc n) [] = type_or_i32 None ∷ types_at_front n []
types_at_front (suc n) (type ∷ types) = type ∷ types_at_front n types

-- All locals, in a function with these parameters.
unfoldable pub locals_with : List (ValType Index) → KeptLocals → List (Local Index)
locals_with params kept = kept.first ++ (map parameter (types_at_front kept.later (drop 64 params)) ++ kept.declared)

-- the local of an index, if it is a parameter that isn't kept
abbrev pub later_at : List (ValType Index) → KeptLocals → ℕ → Option (Local Index)
later_at params kept index =
    if nat_le 64 index && nat_lt index (64 + kept.later) then Some (parameter (type_or_i32 (slice_get params index))) else None
