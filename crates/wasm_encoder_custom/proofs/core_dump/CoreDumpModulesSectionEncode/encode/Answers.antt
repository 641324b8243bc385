use Rattle.wasm_encoder_custom.proofs.DumpLists.{names}
use Rattle.wasm_encoder_custom.proofs.core_dump.CoreDumpModulesSectionEncode.encode.Goals as goal

pub returns : goal.returns
returns c = rw (← c.self.view_is, ← names c.self.inside.modules) c.encode_custom.ensures
