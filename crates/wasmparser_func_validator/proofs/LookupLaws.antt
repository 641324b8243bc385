-- Looking up what operators name.
use Rattle.std.proofs.Common.{◌≡◌, refl}
use Rattle.wasm_bodies.specs.BodyContext.{func_in, fields_in, element_in}
use Rattle.wasm_spec.specs.Types.{CompositeType, FuncComposite, StructComposite, ArrayComposite, ContComposite}
use Rattle.wasmparser_types.specs.CompositeTypes.{func_of, struct_of, array_of}
use Rattle.wasmparser_types.specs.Index.{Index}

pub func_is : (c : CompositeType Index) → func_of c ≡ func_in c
func_is (FuncComposite type) = refl
func_is (StructComposite fields) = refl
func_is (ArrayComposite field) = refl
func_is (ContComposite index) = refl

pub fields_are : (c : CompositeType Index) → struct_of c ≡ fields_in c
fields_are (FuncComposite type) = refl
fields_are (StructComposite fields) = refl
fields_are (ArrayComposite field) = refl
fields_are (ContComposite index) = refl

pub element_is : (c : CompositeType Index) → array_of c ≡ element_in c
element_is (FuncComposite type) = refl
element_is (StructComposite fields) = refl
element_is (ArrayComposite field) = refl
element_is (ContComposite index) = refl

pub ruleset composites = (func_is, fields_are, element_is)
