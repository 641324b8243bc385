use Rattle.std.proofs.Common.{◌≡◌, ◌∙◌, length, map, vec_len, refl, sym, arith, ap, subst}
use Rattle.std.proofs.lemmas.List.{length-map}
use Rattle.wasm_core_types.specs.SubTypes.{sub_type}
use Rattle.wasm_smith_types.proofs.GroupedLaws.{types_of_grouped}
use Rattle.wasm_smith_types.specs.Grouped.{groups}
use Rattle.wasm_smith_types.specs.Making.{made}
use Rattle.wasm_smith_validity.specs.ValidGroups.{AllKeepTypeRules, types_of}
use Rattle.wasm_smith_module.proofs.MadeLaws.{bodies_are}
use Rattle.wasm_smith_module.specs.Building.{AreItems}
use Rattle.wasm_smith_module.specs.Items.{drawn_items}
use Rattle.wasm_smith_module.specs.TrueToShapes.{AreTypesOf}
use Rattle.wasm_smith_module.proofs.module.finish.Goals as goal

pub draw_items-requires-clause-few : goal.draw_items-requires-clause-few
draw_items-requires-clause-few c = omega (arith, c.requires.few, ap length c.types.ensures, length-map c.types.result.now sub_type)

pub draw_items-requires-clause-rules : goal.draw_items-requires-clause-rules
draw_items-requires-clause-rules c = subst AllKeepTypeRules (sym c.types.ensures) c.requires.rules

pub draw_items-requires-clause-types : goal.draw_items-requires-clause-types
draw_items-requires-clause-types c = subst (AreTypesOf c.args.config) (sym c.types.ensures) c.requires.types

pub returns-clause-finished : goal.returns-clause-finished
returns-clause-finished c =
    let types = c.args.types in
    let items = c.in_ok-items.items in
    let count : vec_len items.front.funcs ≡ length items.front.funcs.items = items.front.funcs.ok.0 in
    let all : map sub_type c.types.result.now ≡ types_of (groups types) = c.types.ensures ∙ sym (types_of_grouped types.sizes.items (made types) c.requires.whole) in
    rw c.assembled.ensures (record {
      config = refl;
      same_groups = refl;
      after_items = c.draw_items.new.unstructured;
      items = subst (λ ts. AreItems c.args.config c.args.duplicates ts c.args.unstructured.now c.draw_items.new.unstructured (drawn_items items)) all c.in_ok-items.ensures.drawn;
      after_code = c.code.new.unstructured;
      code =
          bodies_are c.args.config c.args.offered.now types _ _ items.front.funcs.items c.draw_items.new.unstructured _ _ c.requires.offered c.requires.whole
          (omega (arith, ap length c.types-2.ensures, length-map c.types-2.result.now sub_type)) (omega (arith, count, c.len-count.ensures)) c.in_ok-bodies.ensures.drawn;
      customs = c.in_ok-customs.ensures.drawn;
    })
