use Rattle.wasm_encoder_custom.proofs.DumpLists.{instances}
use Rattle.wasm_encoder_custom.proofs.core_dump_instances.CoreDumpInstancesSectionEncode.encoded_len.Goals as goal

pub returns-clause-exact : goal.returns-clause-exact
returns-clause-exact c = rw (← c.self.view_is, ← instances c.self.inside.instances) c.custom_len.ensures.exact
