use Rattle.std.proofs.Common.{◌≡◌, ◌+◌, length, arith, vec_len, ap, length-append}
use Rattle.std.proofs.lemmas.List.{length-map}
use Rattle.wasm_core_types.specs.SubTypes.{sub_type}
use Rattle.wasm_smith_types.specs.Making.{made}
use Rattle.wasm_smith_types.proofs.GroupedLaws.{adds_group}
use Rattle.wasm_smith_types.proofs.types.Types.push_group.Goals as goal

pub returns-clause-group : goal.returns-clause-group
returns-clause-group c =
    let count : vec_len c.args.self.now.types ≡ length c.args.self.now.types.items = c.args.self.now.types.ok.0 in
    let bound : c.len.result + c.args.size ≡ length (made c.args.self.now) + c.args.size =
    omega (arith, c.len.ensures, count, length-map c.args.self.now.types.items sub_type) in
    adds_group c.args.offers.now _ c.args.size c.args.self.now c.push_types.new.self c.push.new.self c.in_ok-push_types.ensures.valid c.in_ok-push.ensures.items bound c.requires.whole

pub returns-clause-count : goal.returns-clause-count
returns-clause-count c =
    let all = c.in_ok-push_types.ensures.valid in omega (arith, ap length all.added, length-append (made c.args.self.now) all.types, all.many)
