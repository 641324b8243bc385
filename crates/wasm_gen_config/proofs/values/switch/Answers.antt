use Rattle.toml.specs.Data.{as_bool}
use Rattle.toml.specs.View.{table_view, view}
use Rattle.wasm_gen_config.proofs.GivenLaws.{at_found, at_none, given_some, given_none}
use Rattle.wasm_gen_config.proofs.values.switch.Goals as goal

pub returns-in-Some : goal.returns-in-Some
returns-in-Some c =
    let t = table_view c.args.table.now in
    let found = at_found t c.args.key.now c.at_key.result c.in-Some.value c.at_key.ensures c.in-Some.is in
    let is = given_some as_bool t c.args.key.now c.args.default (view c.in-Some.value.now) found in
    cc (c.as_bool.ensures, c.unwrap_or.ensures)

pub returns-in-None : goal.returns-in-None
returns-in-None c =
    let t = table_view c.args.table.now in
    let none = at_none t c.args.key.now c.at_key.result c.at_key.ensures c.in-None.is in
    rw (given_none as_bool t c.args.key.now c.args.default none)
