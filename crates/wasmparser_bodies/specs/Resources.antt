-- The questions that a body may ask of its module, and the results of checks of types.
use Rattle.std.specs.Prelude.{◌≡◌, ℕ, Bool, ◌&&◌, length, nat_le, nat_lt, Option, Some, None, option_map, slice_get, Result, Ok, Err}
use Rattle.std.specs.Option.{option_and_then}
use Rattle.wasm_bodies.specs.BodyContext.{ModuleItems, func_at}
use Rattle.wasm_spec.specs.Types.{HeapType, SubType, FuncType}
use Rattle.wasmparser_error.specs.declared.error.Error.{Error}
use Rattle.wasmparser_error.specs.declared.error.ErrorKind.TheVariants.{Invalid}
use Rattle.wasmparser_types.specs.Index.{Index}

-- The items that bodies may name, and what beside these can be asked. Types are referred to by their ids.
pub record Resources : Type 0 where
  pub items : ModuleItems Index
  -- the sub type that an id stands for, if it stands for one
  pub sub_type_of : Index → Option (SubType Index)
  -- the greatest heap type above a heap type
  pub top_of : HeapType Index → HeapType Index
  -- how many functions are imported, which come first
  pub imported_functions : ℕ

-- what a type index stands for
abbrev pub reference_of : ModuleItems Index → ℕ → Option Index
reference_of items index = option_map (λ named. named.reference) (slice_get items.types index)

abbrev pub sub_type_at : Resources → ℕ → Option (SubType Index)
sub_type_at resources index = option_and_then resources.sub_type_of (reference_of resources.items index)

-- the type of a function, and that of a tag
abbrev pub function_reference : ModuleItems Index → ℕ → Option Index
function_reference items function = option_and_then (reference_of items) (slice_get items.functions function)

abbrev pub tag_at : ModuleItems Index → ℕ → Option (FuncType Index)
tag_at items tag = option_and_then (func_at items) (slice_get items.tags tag)

-- a function that isn't imported has just the type that it is defined with
abbrev pub has_exact_type : Resources → ℕ → Bool
has_exact_type resources function = nat_le resources.imported_functions function && nat_lt function (length resources.items.functions)

-- A type becomes what it stands for. Where it stands for nothing, it stays as it was.
abbrev pub BecomesMeant : {T M : Type 0} → (T → M) → ℕ → Option M → T → T → Result (Unit {0}) Error → Type 0
BecomesMeant view offset wanted old new (Ok x) = wanted ≡ Some (view new)
BecomesMeant view offset wanted old new (Err e) = (wanted ≡ None) × (new ≡ old) × (e ≡ record { offset = offset; kind = Invalid })
