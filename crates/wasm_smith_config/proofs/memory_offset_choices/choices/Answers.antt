use Rattle.std.proofs.Common.{lit<, Some, None}
use Rattle.std.proofs.lemmas.Str.Pattern.{split_once_first}
use Rattle.wasm_smith_config.proofs.OffsetLaws.{no_comma, one_comma, three_parts, read_first, read_second, read_third, read_all}
use Rattle.wasm_smith_config.proofs.memory_offset_choices.choices.Goals as goal

pub returns-in_err-first : goal.returns-in_err-first
returns-in_err-first c =
    rw c.from_residual.ensures (no_comma c.args.text.now (split_once_first 44 c.args.text.now None c.in_err-first.ensures.cases (lit< tt)))

pub returns-in_err-second : goal.returns-in_err-second
returns-in_err-second c =
    let cut = split_once_first 44 c.args.text.now (Some (c.in_ok-first.first, c.in_ok-first.rest)) c.in_ok-first.ensures.cases (lit< tt) in
    rw c.from_residual-in_err-second.ensures (one_comma c.args.text.now c.in_ok-first.rest.now cut.2 (split_once_first 44 c.in_ok-first.rest.now None c.in_err-second.ensures.cases (lit< tt)))

pub returns-in_err-number : goal.returns-in_err-number
returns-in_err-number c =
    let cut = split_once_first 44 c.args.text.now (Some (c.in_ok-first.first, c.in_ok-first.rest)) c.in_ok-first.ensures.cases (lit< tt) in
    let next = split_once_first 44 c.in_ok-first.rest.now (Some (c.in_ok-second.second, c.in_ok-second.third)) c.in_ok-second.ensures.cases (lit< tt) in
    let parts = three_parts c.args.text.now c.in_ok-first.rest.now c.in_ok-first.first.now c.in_ok-second.second.now c.in_ok-second.third.now cut.1 cut.2 next.1 next.2 in
    rw c.from_residual-in_err-number.ensures (read_first c.args.text.now _ _ _ parts c.in_err-number.ensures)

pub returns-in_err-number-2 : goal.returns-in_err-number-2
returns-in_err-number-2 c =
    let cut = split_once_first 44 c.args.text.now (Some (c.in_ok-first.first, c.in_ok-first.rest)) c.in_ok-first.ensures.cases (lit< tt) in
    let next = split_once_first 44 c.in_ok-first.rest.now (Some (c.in_ok-second.second, c.in_ok-second.third)) c.in_ok-second.ensures.cases (lit< tt) in
    let parts = three_parts c.args.text.now c.in_ok-first.rest.now c.in_ok-first.first.now c.in_ok-second.second.now c.in_ok-second.third.now cut.1 cut.2 next.1 next.2 in
    rw c.from_residual-in_err-number-2.ensures (read_second c.args.text.now _ _ _ parts c.in_err-number-2.ensures)

pub returns-in_err-number-3 : goal.returns-in_err-number-3
returns-in_err-number-3 c =
    let cut = split_once_first 44 c.args.text.now (Some (c.in_ok-first.first, c.in_ok-first.rest)) c.in_ok-first.ensures.cases (lit< tt) in
    let next = split_once_first 44 c.in_ok-first.rest.now (Some (c.in_ok-second.second, c.in_ok-second.third)) c.in_ok-second.ensures.cases (lit< tt) in
    let parts = three_parts c.args.text.now c.in_ok-first.rest.now c.in_ok-first.first.now c.in_ok-second.second.now c.in_ok-second.third.now cut.1 cut.2 next.1 next.2 in
    rw c.from_residual-in_err-number-3.ensures (read_third c.args.text.now _ _ _ parts c.in_err-number-3.ensures)

pub returns : goal.returns
returns c =
    let cut = split_once_first 44 c.args.text.now (Some (c.in_ok-first.first, c.in_ok-first.rest)) c.in_ok-first.ensures.cases (lit< tt) in
    let next = split_once_first 44 c.in_ok-first.rest.now (Some (c.in_ok-second.second, c.in_ok-second.third)) c.in_ok-second.ensures.cases (lit< tt) in
    let parts = three_parts c.args.text.now c.in_ok-first.rest.now c.in_ok-first.first.now c.in_ok-second.second.now c.in_ok-second.third.now cut.1 cut.2 next.1 next.2 in
    read_all c.args.text.now _ _ _ c.in_ok-number.field-0 c.in_ok-number-2.field-0 c.in_ok-number-3.field-0 parts c.in_ok-number.ensures c.in_ok-number-2.ensures c.in_ok-number-3.ensures
