-- The offers of a configuration for types.
use Rattle.std.specs.Prelude.{◌≡◌, ◌+◌, ℕ, Bool, List, [], ◌∷◌, ◌++◌, map, Option, if◌then◌else◌, ◌&&◌}
use Rattle.wasm_spec.specs.Types.{AbstractHeapType, Func, Extern, Any, Eq, I31, Struct, Array, None, NoFunc, NoExtern, Exn, NoExn, Cont, NoCont, I32, I64, F32, F64, V128, SubType, RecGroup, Single}
use Rattle.wasm_smith_config.specs.declared.config.Config.{Config}
use Rattle.wasm_smith_types.specs.Drawing.{Kind, NumberOrVector, Reference, Offers, function_type_at, groups_at, no_groups}
use Rattle.wasm_smith_types.specs.Growing.{grow_at}

-- what references to no defined type may go to, the types of continuations aside
abbrev pub common_heaps : Bool → Bool → List AbstractHeapType
common_heaps gc exceptions =
    Func ∷ Extern ∷ (if gc then (Any ∷ Eq ∷ I31 ∷ Struct ∷ Array ∷ None ∷ NoFunc ∷ NoExtern ∷ []) else [])
    ++ (if exceptions then (Exn ∷ []) else []) ++ (if gc && exceptions then (NoExn ∷ []) else [])

abbrev pub offered_heaps : Config → List AbstractHeapType
offered_heaps c = common_heaps c.gc_enabled c.exceptions_enabled ++ (if c.stack_switching_enabled then (Cont ∷ NoCont ∷ []) else [])

-- what is drawn first of a value type
abbrev pub offered_kinds : Config → List Kind
offered_kinds c =
    NumberOrVector I32 ∷ NumberOrVector I64 ∷ (if c.allow_floats then (NumberOrVector F32 ∷ NumberOrVector F64 ∷ []) else [])
    ++ (if c.simd_enabled then (NumberOrVector V128 ∷ []) else []) ++ (if c.reference_types_enabled then (Reference ∷ []) else [])

abbrev pub max_results : Config → ℕ
max_results c = if c.multi_value_enabled then 20 else 1

unfoldable pub offers : Config → Offers
offers c = record { kinds = offered_kinds c; heaps = offered_heaps c; gc = c.gc_enabled; most_results = max_results c }

-- without garbage collection, final function types one after the other
unfoldable pub function_types_at : Config → List ℕ → List (SubType ℕ) × List ℕ
function_types_at c s = grow_at (function_type_at (offers c)) c.min_types c.max_types 0 s

-- with garbage collection, groups of at most as many types in all as the configuration says, unless one is a clone or a type has a supertype
unfoldable pub gc_groups_at : Config → List ℕ → Option (List (List (SubType ℕ)) × List ℕ)
gc_groups_at c s = groups_at (offers c) c.max_types (c.max_types + 1) no_groups s

-- The groups are these types, each by itself, and these bytes are left.
pub record IsFunctions (drawn : List (SubType ℕ) × List ℕ) (groups : List (RecGroup ℕ)) (left : List ℕ) : Type 0 where
  pub are : groups ≡ map Single drawn.0
  pub at : left ≡ drawn.1
