use Rattle.toml.specs.View.{table_view}
use Rattle.wasm_gen_config.proofs.TableLaws.{all_given}
use Rattle.wasm_gen_config.proofs.read.config_from_table.Goals as goal

pub returns-clause-given : goal.returns-clause-given
returns-clause-given c =
    all_given (table_view c.args.table.now) c.default-config.result c.set_on.new.config c.set_off.new.config c.set_minimums.new.config c.set_maximums.new.config c.set_others.new.config
    c.default-config.ensures c.set_on.ensures c.set_off.ensures c.set_minimums.ensures c.set_maximums.ensures c.set_others.ensures
