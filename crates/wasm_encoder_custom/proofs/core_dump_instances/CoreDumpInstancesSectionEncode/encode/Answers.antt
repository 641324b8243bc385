use Rattle.wasm_encoder_custom.proofs.DumpLists.{instances}
use Rattle.wasm_encoder_custom.proofs.core_dump_instances.CoreDumpInstancesSectionEncode.encode.Goals as goal

pub returns : goal.returns
returns c = rw (← c.self.view_is, ← instances c.self.inside.instances) c.encode_custom.ensures
