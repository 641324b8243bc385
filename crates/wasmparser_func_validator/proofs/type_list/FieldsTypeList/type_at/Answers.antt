use Rattle.std.proofs.Common.{◌∙◌, ap, sym, Some, get_or}
use Rattle.wasm_bodies.specs.BodyContext.{unpacked}
use Rattle.wasmparser_types.specs.ValTypes.{field_type}
use Rattle.wasmparser_func_validator.proofs.TypeLaws.{unpacked_is, mapped_at}
use Rattle.wasmparser_func_validator.proofs.type_list.FieldsTypeList.type_at.Goals as goal

pub returns : goal.returns
returns c =
    let fields = c.args.self.now.0.now in
    ap Some (c.unpack.ensures ∙ sym (unpacked_is (field_type (get_or fields c.args.index c.index-self-index.result))))
    ∙ mapped_at unpacked field_type fields c.args.index c.index-self-index.result c.requires
