use Rattle.std.proofs.Common.{lit<, ◌∙◌}
use Rattle.std.proofs.lemmas.Str.Parse.{parse_plain}
use Rattle.std.proofs.lemmas.Str.Pattern.{starts_char}
use Rattle.wasm_smith_config.proofs.OffsetLaws.{digits, number_is, no_plus}
use Rattle.wasm_smith_config.proofs.memory_offset_choices.number.Goals as goal

pub returns-then-starts_with : goal.returns-then-starts_with
returns-then-starts_with c =
    let plus = starts_char 43 c.args.text.now c.starts_with.result c.starts_with.ensures.cases (lit< tt) (lit< tt) in
    no_plus c.args.text.now (plus.0 c.if-starts_with.true)

pub returns : goal.returns
returns c =
    let plus = starts_char 43 c.args.text.now c.starts_with.result c.starts_with.ensures.cases (lit< tt) (lit< tt) in
    c.ok.ensures.value ∙ number_is c.args.text.now c.parse.result (parse_plain digits 32 c.args.text.now c.parse.result c.parse.ensures.value.0
    (λ is. let on = plus.1 is in absurd cc))
