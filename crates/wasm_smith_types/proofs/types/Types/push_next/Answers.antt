use Rattle.std.proofs.Common.{◌≡◌, ◌-◌, ◌≤◌, length, vec_len, ap, sym, ◌∙◌, arith}
use Rattle.std.proofs.lemmas.List.{length-map}
use Rattle.wasm_core_types.specs.SubTypes.{sub_type}
use Rattle.wasm_smith_types.specs.Drawing.{total}
use Rattle.wasm_smith_types.specs.Making.{made}
use Rattle.wasm_smith_types.proofs.GroupedLaws.{sum_more}
use Rattle.wasm_smith_types.proofs.types.Types.push_next.Goals as goal

pub push_any-requires-clause-choices : goal.push_any-requires-clause-choices
push_any-requires-clause-choices c =
    let same : c.args.left ≤ c.args.left = omega arith in
    rw c.spans.ensures (c.keep.ensures c.args.self.now.sizes.items c.args.left same c.requires.fitting).1

pub returns-clause-fitting : goal.returns-clause-fitting
returns-clause-fitting c =
    let old = c.args.self.now in
    let new = c.push_any.new.self in
    let group = c.in_ok-push_any.ensures.group in
    let same : c.args.left ≤ c.args.left = omega arith in
    let old_count : vec_len old.types ≡ length old.types.items = old.types.ok.0 in
    let new_count : vec_len new.types ≡ length new.types.items = new.types.ok.0 in
    let before : c.len-start.result ≡ length (made old) = c.len-start.ensures ∙ old_count ∙ sym (length-map old.types.items sub_type) in
    let after : c.len.result ≡ length (made new) = c.len.ensures ∙ new_count ∙ sym (length-map new.types.items sub_type) in
    let size : group.size ≡ c.len.result - c.len-start.result =
    omega (arith, before, after, c.requires.whole, group.whole, ap total group.sizes, sum_more old.sizes.items group.size) in
    rw (group.sizes, size)
    (c.in_ok-push.ensures old.sizes.items c.args.left (c.requires.whole ∙ sym before) (c.keep.ensures old.sizes.items c.args.left same c.requires.fitting).0)
