-- Sub types and recursive groups of the code as those of the specification.
use Rattle.wasm_spec.specs.Types as spec
use Rattle.wasmparser_types.specs.Index.{Index}
use Rattle.wasmparser_types.specs.CompositeTypes.{composite_type}
use Rattle.wasmparser_types.specs.declared.sub_type.SubType.{SubType}

abbrev pub sub_type : SubType → spec.SubType Index
sub_type type = record {
  is_final = type.is_final;
  supertypes = type.supertype_idxs.items;
  composite_type = composite_type type.composite_type;
}
