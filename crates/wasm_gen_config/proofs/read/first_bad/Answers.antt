use Rattle.std.proofs.Common.{◌≡◌, ◌||◌, is_none, true, false, string_bytes, sym, ◌∙◌}
use Rattle.std.specs.Map.Iter.{deref_pair}
use Rattle.std.proofs.lemmas.Map.Iter.{rest_all, rest_more}
use Rattle.toml.specs.View.{view}
use Rattle.toml.proofs.Views.{Entry}
use Rattle.wasm_gen_config.specs.Fields.{takes}
use Rattle.wasm_gen_config.specs.Settings.{takes_other}
use Rattle.wasm_gen_config.proofs.BadLaws.{bad_here, bad_later, bad_none}
use Rattle.wasm_gen_config.proofs.read.first_bad.Goals as goal

pub returns-then-is_bad : goal.returns-then-is_bad
returns-then-is_bad c =
    let e : Entry = (c.in-Some.key.now, c.in-Some.value.now) in
    let is = rest_more deref_pair c.loop-key.key-iterator c.next.new.self c.next.result (c.in-Some.key, c.in-Some.value) c.in-Some.is c.next.ensures.steps in
    let bad : (is_none (takes (string_bytes e.0)) || takes_other (takes (string_bytes e.0)) (view e.1)) ≡ true = cc in
    let here = bad_here c.loop-key.key-iterator c.next.new.self e is bad in
    cc

pub loop-key-preserved : goal.loop-key-preserved
loop-key-preserved c =
    let e : Entry = (c.in-Some.key.now, c.in-Some.value.now) in
    let is = rest_more deref_pair c.loop-key.key-iterator c.next.new.self c.next.result (c.in-Some.key, c.in-Some.value) c.in-Some.is c.next.ensures.steps in
    let good : (is_none (takes (string_bytes e.0)) || takes_other (takes (string_bytes e.0)) (view e.1)) ≡ false = cc in
    sym (bad_later c.loop-key.key-iterator c.next.new.self e is good) ∙ c.loop-key.invariant

pub returns : goal.returns
returns c =
    let none = rest_all deref_pair c.loop-key.key-iterator c.next.new.self c.next.result c.in-None.is c.next.ensures.steps in
    sym (bad_none c.loop-key.key-iterator none) ∙ c.loop-key.invariant
