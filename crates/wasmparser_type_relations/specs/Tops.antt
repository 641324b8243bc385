-- The greatest type above another one.
use Rattle.std.specs.Prelude.{Option, Some, option_map}
use Rattle.wasm_spec.specs.Subtyping.{SubTypes, HeapBelow, abstract_of}
use Rattle.wasm_spec.specs.Types.{AbstractHeapType, Func, Extern, Any, None, NoExtern, NoFunc, Eq, Struct, Array, I31, Exn, NoExn, Cont, NoCont, HeapType, Abstract, Concrete, SubType}

pub record IsTop {R : Type 0} (sub_at : SubTypes R) (a top : HeapType R) : Type 0 where
  pub above : HeapBelow sub_at a top
  pub greatest : (b : HeapType R) → HeapBelow sub_at a b → HeapBelow sub_at b top

-- among abstract heap types
abbrev pub top_of : AbstractHeapType → AbstractHeapType
top_of Func = Func
top_of NoFunc = Func
top_of Extern = Extern
top_of NoExtern = Extern
top_of Exn = Exn
top_of NoExn = Exn
top_of Cont = Cont
top_of NoCont = Cont
top_of Any = Any
top_of Eq = Any
top_of I31 = Any
top_of Struct = Any
top_of Array = Any
top_of None = Any

-- the abstract type that is the greatest one above, if there is one
abbrev pub top_above : {R : Type 0} → SubTypes R → HeapType R → Option AbstractHeapType
top_above sub_at (Abstract a) = Some (top_of a)
top_above {R} sub_at (Concrete r) = option_map (λ (type : SubType R). top_of (abstract_of type.composite_type)) (sub_at r)
