use Rattle.std.proofs.Common.{◌==◌, refl, ◌∙◌, arith, lit<}
use Rattle.std.specs.List.{slice_split}
use Rattle.std.proofs.lemmas.Iterator.Consumers.{YieldsList-turn, YieldsList-end}
use Rattle.std.proofs.lemmas.Iterator.Splits.{YieldsList-from_str_split}
use Rattle.std.proofs.lemmas.List.{length_push}
use Rattle.std.proofs.lemmas.Result.{err_from_is_err_and}
use Rattle.wasm_smith_config.proofs.InstructionLaws.{one_named, none_named, all_named}
use Rattle.wasm_smith_config.specs.Instructions.{kinds_named}
use Rattle.wasm_smith_config.proofs.instruction_kinds.InstructionKindsFromStr.from_str.Goals as goal

pub loop-name-init : goal.loop-name-init
unfolding kinds_named
loop-name-init c = (tt, tt, rw c.none-kinds.ensures.exact refl)

pub returns-in_err-parse : goal.returns-in_err-parse
returns-in_err-parse c =
    let names = slice_split (λ b. b == 44) c.args.text.now in
    let turn = YieldsList-turn (YieldsList-from_str_split 44 c.args.text.now (lit< tt) (cc) (cc) (cc)) c.loop-name.yielded _ c.loop-name.yielded_by _ _ c.in-Some.name c.in-Some.is c.next.ensures.steps in
    let p = err_from_is_err_and c.from_residual.result c.from_residual.ensures.1 in
    rw p.1 (none_named c.loop-name.kinds names c.in-Some.name.now _ turn c.in_err-parse.ensures.value ∙ c.loop-name.invariant.2)

pub loop-name-preserved : goal.loop-name-preserved
loop-name-preserved c =
    let names = slice_split (λ b. b == 44) c.args.text.now in
    let turn = YieldsList-turn (YieldsList-from_str_split 44 c.args.text.now (lit< tt) (cc) (cc) (cc)) c.loop-name.yielded _ c.loop-name.yielded_by _ _ c.in-Some.name c.in-Some.is c.next.ensures.steps in
    (tt, tt, rw (c.insert.ensures, length_push c.loop-name.yielded c.in-Some.name) (one_named c.loop-name.kinds names c.in-Some.name.now _ c.in_ok-parse.field-0 turn c.in_ok-parse.ensures.value ∙ c.loop-name.invariant.2))

pub returns : goal.returns
returns c =
    let names = slice_split (λ b. b == 44) c.args.text.now in
    let end = YieldsList-end (YieldsList-from_str_split 44 c.args.text.now (lit< tt) (cc) (cc) (cc)) c.loop-name.yielded _ c.loop-name.yielded_by _ _ c.in-None.is c.next.ensures.steps in
    all_named c.loop-name.kinds names _ (omega (arith, end.1)) ∙ c.loop-name.invariant.2
