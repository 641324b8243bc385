use Rattle.std.proofs.Common.{IsFalse, OnOk, IfErr, sym, subst}
use Rattle.std.proofs.lemmas.List.Elements.{All-same}
use Rattle.wasm_smith_config.proofs.TableLaws.{good_in_turn, names_last}
use Rattle.wasm_smith_config.specs.Config as table
use Rattle.wasm_smith_config.proofs.config.Config.check_others.Goals as goal

pub returns-clause-good : goal.returns-clause-good
returns-clause-good c =
    let last : OnOk c.none_is_bad-2.result (table.AreGood (table.shapes c.args.self.now)) = subst (λ fields. OnOk c.none_is_bad-2.result (table.AreGood fields)) c.shapes.ensures c.none_is_bad-2.ensures.good in
    good_in_turn (table.maximums c.args.self.now) (table.shapes c.args.self.now) c.none_is_bad-2.result
    (All-same (λ field. IsFalse field.is_bad) _ _ (sym c.maximums.ensures) c.in_ok-none_is_bad.ensures.good) last

pub returns-clause-bad : goal.returns-clause-bad
returns-clause-bad c =
    let last : IfErr c.none_is_bad-2.result (table.NamesBad (table.shapes c.args.self.now)) = rw (sym c.shapes.ensures) c.none_is_bad-2.ensures.bad in
    names_last (table.maximums c.args.self.now) (table.shapes c.args.self.now) c.none_is_bad-2.result last
