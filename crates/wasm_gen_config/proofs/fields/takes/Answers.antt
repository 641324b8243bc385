use Rattle.std.proofs.Common.{◌≡◌, true, false, refl, sym, ◌∙◌}
use Rattle.wasm_gen_config.specs.Fields.{switches, counts, sizes, wide_sizes, kinds, weights, names, is_in}
use Rattle.wasm_gen_config.proofs.FieldLaws.{told, takes_among}
use Rattle.wasm_gen_config.proofs.fields.takes.Goals as goal

pub returns-then-is_among : goal.returns-then-is_among
returns-then-is_among c =
    let key = c.args.key.now in
    let switch = told key c.switches.result (names switches) c.is_among.result true c.is_among.ensures c.switches.ensures c.if-is_among.true in
    sym (takes_among key true _ _ _ _ _ switch refl refl refl refl refl)

pub returns-then-is_among-2 : goal.returns-then-is_among-2
returns-then-is_among-2 c =
    let key = c.args.key.now in
    let switch = told key c.switches.result (names switches) c.is_among.result false c.is_among.ensures c.switches.ensures c.if-is_among.false in
    let count = told key c.counts.result (names counts) c.is_among-else-is_among.result true c.is_among-else-is_among.ensures c.counts.ensures c.if-is_among-2.true in
    rw c.from.ensures (sym (takes_among key false true _ _ _ _ switch count refl refl refl refl))

pub returns-then-is_among-3 : goal.returns-then-is_among-3
returns-then-is_among-3 c =
    let key = c.args.key.now in
    let switch = told key c.switches.result (names switches) c.is_among.result false c.is_among.ensures c.switches.ensures c.if-is_among.false in
    let count = told key c.counts.result (names counts) c.is_among-else-is_among.result false c.is_among-else-is_among.ensures c.counts.ensures c.if-is_among-2.false in
    let size : is_in key (names sizes) ≡ true = sym c.is_among-else-is_among-2.ensures ∙ c.if-is_among-3.true in
    rw c.from-then-is_among-3.ensures (sym (takes_among key false false true _ _ _ switch count size refl refl refl))

pub returns-then-is_among-4 : goal.returns-then-is_among-4
returns-then-is_among-4 c =
    let key = c.args.key.now in
    let switch = told key c.switches.result (names switches) c.is_among.result false c.is_among.ensures c.switches.ensures c.if-is_among.false in
    let count = told key c.counts.result (names counts) c.is_among-else-is_among.result false c.is_among-else-is_among.ensures c.counts.ensures c.if-is_among-2.false in
    let size : is_in key (names sizes) ≡ false = sym c.is_among-else-is_among-2.ensures ∙ c.if-is_among-3.false in
    let wide_size : is_in key (names wide_sizes) ≡ true = sym c.is_among-else-is_among-3.ensures ∙ c.if-is_among-4.true in
    sym (takes_among key false false false true _ _ switch count size wide_size refl refl)

pub returns-then-is_among-5 : goal.returns-then-is_among-5
returns-then-is_among-5 c =
    let key = c.args.key.now in
    let switch = told key c.switches.result (names switches) c.is_among.result false c.is_among.ensures c.switches.ensures c.if-is_among.false in
    let count = told key c.counts.result (names counts) c.is_among-else-is_among.result false c.is_among-else-is_among.ensures c.counts.ensures c.if-is_among-2.false in
    let size : is_in key (names sizes) ≡ false = sym c.is_among-else-is_among-2.ensures ∙ c.if-is_among-3.false in
    let wide_size : is_in key (names wide_sizes) ≡ false = sym c.is_among-else-is_among-3.ensures ∙ c.if-is_among-4.false in
    let kind : is_in key (names kinds) ≡ true = sym c.is_among-else-is_among-4.ensures ∙ c.if-is_among-5.true in
    sym (takes_among key false false false false true _ switch count size wide_size kind refl)

pub returns-then-is_among-6 : goal.returns-then-is_among-6
returns-then-is_among-6 c =
    let key = c.args.key.now in
    let switch = told key c.switches.result (names switches) c.is_among.result false c.is_among.ensures c.switches.ensures c.if-is_among.false in
    let count = told key c.counts.result (names counts) c.is_among-else-is_among.result false c.is_among-else-is_among.ensures c.counts.ensures c.if-is_among-2.false in
    let size : is_in key (names sizes) ≡ false = sym c.is_among-else-is_among-2.ensures ∙ c.if-is_among-3.false in
    let wide_size : is_in key (names wide_sizes) ≡ false = sym c.is_among-else-is_among-3.ensures ∙ c.if-is_among-4.false in
    let kind : is_in key (names kinds) ≡ false = sym c.is_among-else-is_among-4.ensures ∙ c.if-is_among-5.false in
    let weight : is_in key (names weights) ≡ true = sym c.is_among-else-is_among-5.ensures ∙ c.if-is_among-6.true in
    sym (takes_among key false false false false false true switch count size wide_size kind weight)

pub returns-else-is_among-6 : goal.returns-else-is_among-6
returns-else-is_among-6 c =
    let key = c.args.key.now in
    let switch = told key c.switches.result (names switches) c.is_among.result false c.is_among.ensures c.switches.ensures c.if-is_among.false in
    let count = told key c.counts.result (names counts) c.is_among-else-is_among.result false c.is_among-else-is_among.ensures c.counts.ensures c.if-is_among-2.false in
    let size : is_in key (names sizes) ≡ false = sym c.is_among-else-is_among-2.ensures ∙ c.if-is_among-3.false in
    let wide_size : is_in key (names wide_sizes) ≡ false = sym c.is_among-else-is_among-3.ensures ∙ c.if-is_among-4.false in
    let kind : is_in key (names kinds) ≡ false = sym c.is_among-else-is_among-4.ensures ∙ c.if-is_among-5.false in
    let weight : is_in key (names weights) ≡ false = sym c.is_among-else-is_among-5.ensures ∙ c.if-is_among-6.false in
    sym (takes_among key false false false false false false switch count size wide_size kind weight)
