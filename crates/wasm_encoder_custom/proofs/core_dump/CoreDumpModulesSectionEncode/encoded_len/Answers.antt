use Rattle.wasm_encoder_custom.proofs.DumpLists.{names}
use Rattle.wasm_encoder_custom.proofs.core_dump.CoreDumpModulesSectionEncode.encoded_len.Goals as goal

pub returns-clause-exact : goal.returns-clause-exact
returns-clause-exact c = rw (← c.self.view_is, ← names c.self.inside.modules) c.custom_len.ensures.exact
