use Rattle.toml.specs.View.{table_view, view}
use Rattle.wasm_gen_config.specs.Settings.{number_to}
use Rattle.wasm_gen_config.proofs.GivenLaws.{at_found, at_none, given_some, given_none}
use Rattle.wasm_gen_config.proofs.values.number_at.Goals as goal

pub returns-in-Some-clause-given : goal.returns-in-Some-clause-given
returns-in-Some-clause-given c =
    let t = table_view c.args.table.now in
    let found = at_found t c.args.key.now c.at_key.result c.in-Some.value c.at_key.ensures c.in-Some.is in
    let is = given_some (number_to c.args.most) t c.args.key.now c.args.default (view c.in-Some.value.now) found in
    cc (c.number.ensures, c.unwrap_or.ensures)

pub returns-in-None-clause-given : goal.returns-in-None-clause-given
returns-in-None-clause-given c =
    let t = table_view c.args.table.now in
    let none = at_none t c.args.key.now c.at_key.result c.at_key.ensures c.in-None.is in
    rw (given_none (number_to c.args.most) t c.args.key.now c.args.default none)
