use Rattle.wasm_gen_sessions.proofs.GeneratedLaws.{Laws, is_generated}
use Rattle.wasm_gen_sessions.proofs.made_laws.made_is_generated.Goals as goal

pub returns : goal.returns
returns c =
    let laws : Laws = record {
      rules = c.valid_by_index.ensures;
      limits = c.within.ensures;
      bodies = c.valid_modules.ensures;
      one = c.one_body_encoding.ensures;
      reading = c.modules_read.ensures;
    } in
    is_generated laws
