use Rattle.std.proofs.Common.{◌∙◌, sym, arith}
use Rattle.std.proofs.lemmas.Str.{utf8_valid_len-IsUtf8}
use Rattle.std.proofs.lemmas.List.{take_all}
use Rattle.wasm_smith_unstructured.proofs.text.text_front.Goals as goal

pub returns-in-Ok : goal.returns-in-Ok
returns-in-Ok c =
    let all = utf8_valid_len-IsUtf8 _ c.in-Ok.ensures.cases.1 in
    rw all (c.in-Ok.ensures.cases.0 ∙ sym (take_all _ _ (omega arith)))
