use Rattle.std.proofs.Common.{◌++◌, IsFalse, sym}
use Rattle.std.proofs.lemmas.List.Elements.{All-same}
use Rattle.wasm_smith_config.proofs.TableLaws.{good_in_turn, names_last}
use Rattle.wasm_smith_config.specs.Config as table
use Rattle.wasm_smith_config.proofs.config.Config.check.Goals as goal

pub returns-clause-good : goal.returns-clause-good
returns-clause-good c =
    good_in_turn (table.minimums c.args.self.now) (table.maximums c.args.self.now ++ table.shapes c.args.self.now) c.check_others.result
    (All-same (λ field. IsFalse field.is_bad) _ _ (sym c.minimums.ensures) c.in_ok-none_is_bad.ensures.good) c.check_others.ensures.good

pub returns-clause-bad : goal.returns-clause-bad
returns-clause-bad c = names_last (table.minimums c.args.self.now) (table.maximums c.args.self.now ++ table.shapes c.args.self.now) c.check_others.result c.check_others.ensures.bad
