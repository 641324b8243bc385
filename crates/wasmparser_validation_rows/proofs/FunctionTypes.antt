-- Which type indexes name function types.
use Rattle.std.proofs.Common.{◌≡◌, refl}
use Rattle.wasm_bodies.specs.BodyContext.{func_in}
use Rattle.wasm_spec.specs.Types.{CompositeType, FuncComposite, StructComposite, ArrayComposite, ContComposite}
use Rattle.wasmparser_types.specs.CompositeTypes.{func_of}
use Rattle.wasmparser_types.specs.Index.{Index}

pub func_is : (c : CompositeType Index) → func_of c ≡ func_in c
func_is (FuncComposite type) = refl
func_is (StructComposite fields) = refl
func_is (ArrayComposite field) = refl
func_is (ContComposite index) = refl

pub ruleset functions = (func_is)
