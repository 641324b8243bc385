use Rattle.std.proofs.Common.{◌≡◌}
use Rattle.toml.specs.View.{members_view, table_view}
use Rattle.wasm_gen_config.specs.Settings as settings
use Rattle.wasm_gen_config.proofs.read.first_bad.Given as goal

abbrev pub invariant-loop-key : goal.invariant-loop-key
invariant-loop-key l = settings.first_bad (members_view l.key-iterator) ≡ settings.first_bad (table_view l.table)
