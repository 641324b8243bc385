use Rattle.std.proofs.Common.{map, sym}
use Rattle.std.proofs.lemmas.List.{length-map}
use Rattle.wasm_core_types.specs.SubTypes.{sub_type}
use Rattle.wasm_smith_types.specs.Copies.{shifted_index}
use Rattle.wasm_smith_types.specs.Making.{made}
use Rattle.wasm_smith_types.proofs.GivenLaws.{shifted_more, shifted_whole}
use Rattle.wasm_smith_types.proofs.types.Types.push_shifted.Goals as goal

pub returns-clause-whole : goal.returns-clause-whole
returns-clause-whole c =
    shifted_whole (shifted_index c.args.shift.start c.args.shift.by) c.args.self.now.sizes.items c.push.new.self.items (made c.args.self.now) _
    (map sub_type c.args.group.now) _ c.requires.whole c.in_ok-push_all.ensures c.in_ok-push.ensures.items (sym (length-map c.args.group.now sub_type))

pub returns-clause-added : goal.returns-clause-added
returns-clause-added c =
    shifted_more (shifted_index c.args.shift.start c.args.shift.by) c.args.self.now.sizes.items c.push.new.self.items (made c.args.self.now) _
    (map sub_type c.args.group.now) _ c.requires.whole c.in_ok-push_all.ensures c.in_ok-push.ensures.items (sym (length-map c.args.group.now sub_type))
