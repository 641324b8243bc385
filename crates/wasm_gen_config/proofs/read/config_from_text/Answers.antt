use Rattle.toml.specs.View.{table_view}
use Rattle.wasm_gen_config.proofs.TableLaws.{cause}
use Rattle.wasm_gen_config.proofs.read.config_from_text.Goals as goal

pub returns-clause-refused : goal.returns-clause-refused
returns-clause-refused c =
    let t = table_view c.in-Ok.table in
    cause c.args.text.now t c.in-Err-config_from_table.bad c.owned.result c.owned.ensures c.in-Ok.ensures.ok.0 c.in-Ok.ensures.ok.1 c.in-Err-config_from_table.ensures.bad
