use Rattle.std.proofs.Common.{◌≡◌, ◌≤◌, length, take, drop, min, arith}
use Rattle.std.specs.Str.Lossy.{utf8_valid_len}
use Rattle.std.proofs.lemmas.List.{length-take}
use Rattle.wasm_smith_unstructured.proofs.TextLaws.{peeked, taken, is_drawn, is_longest}
use Rattle.wasm_smith_unstructured.proofs.text.limited_str.Goals as goal

front : (c : goal.After-unwrap-2) → c.unwrap.result.now ≡ take (min c.arbitrary_len.result c.args.max) c.arbitrary_len.new.self
front c =
    let le : c.min-len.result ≤ length c.arbitrary_len.new.self = omega (arith, c.min-len.ensures, c.arbitrary_len.ensures.within) in
    let is = peeked c.min-len.result c.arbitrary_len.new.self c.unwrap.result.now le (rw c.unwrap.ensures at c.peek_bytes.ensures) in
    rw c.min-len.ensures at is

left : (c : goal.After-unwrap-2) → c.bytes.new.self ≡ drop (length c.text_front-text.result.now) c.arbitrary_len.new.self
left c =
    let size = length-take (utf8_valid_len c.unwrap.result.now) c.unwrap.result.now in
    let text : length c.text_front-text.result.now ≤ length c.unwrap.result.now = rw c.text_front-text.ensures (omega (arith, size)) in
    let most = length-take (min c.arbitrary_len.result c.args.max) c.arbitrary_len.new.self in
    let part : length c.unwrap.result.now ≤ length c.arbitrary_len.new.self = rw (front c) (omega (arith, most)) in
    let few : length c.text_front-text.result.now ≤ length c.arbitrary_len.new.self = omega arith in
    taken _ _ _ _ few c.bytes.ensures.exact

pub returns-clause-exact : goal.returns-clause-exact
returns-clause-exact c = is_drawn _ _ _ _ _ _ _ c.arbitrary_len.ensures.exact (front c) c.text_front-text.ensures (left c)

pub returns-clause-longest : goal.returns-clause-longest
returns-clause-longest c = is_longest _ _ _ _ _ _ _ c.arbitrary_len.ensures.exact c.arbitrary_len.ensures.within (front c) c.text_front-text.ensures (left c)
