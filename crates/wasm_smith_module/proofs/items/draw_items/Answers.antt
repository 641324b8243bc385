use Rattle.std.proofs.Common.{length, map, sym, ap, ◌∙◌, subst}
use Rattle.wasm_core_types.specs.SubTypes.{sub_type}
use Rattle.wasm_smith_externs.specs.ShapeExports.{StandFrom}
use Rattle.wasm_smith_validity.specs.ValidGroups.{AllKeepTypeRules}
use Rattle.wasm_smith_validity.specs.Spaces.{Spaces}
use Rattle.wasm_smith_module.proofs.FrontLaws.{defined_exports, defined_nullable, defined_tables_keep, defined_types, few_before, few_functions, few_tags, from_types, front_keeps, front_later, front_types, stand_from}
use Rattle.wasm_smith_module.specs.Asked.{asked_items, own_of}
use Rattle.wasm_smith_module.specs.TrueToShapes.{AreTypesOf}
use Rattle.wasm_smith_module.proofs.items.draw_items.Goals as goal

pub draw_definitions-requires-clause-rules : goal.draw_definitions-requires-clause-rules
draw_definitions-requires-clause-rules c =
    let config = c.args.config.now in
    let types = map sub_type c.args.types.now in
    let front =
    from_types config c.args.duplicates _ types c.new-spaces.result c.args.unstructured.now c.draw_front.new.spaces c.draw_front.new.unstructured _ _ _ _ c.new-spaces.ensures c.in_ok-front.ensures.drawn in
    subst AllKeepTypeRules (sym (front_types config c.args.duplicates _ types c.args.unstructured.now c.draw_front.new.spaces c.draw_front.new.unstructured _ _ _ _ front)) c.requires.rules

pub draw_definitions-requires-clause-no_own_globals : goal.draw_definitions-requires-clause-no_own_globals
draw_definitions-requires-clause-no_own_globals c =
    let config = c.args.config.now in
    let types = map sub_type c.args.types.now in
    let front =
    from_types config c.args.duplicates _ types c.new-spaces.result c.args.unstructured.now c.draw_front.new.spaces c.draw_front.new.unstructured _ _ _ _ c.new-spaces.ensures c.in_ok-front.ensures.drawn in
    ap (λ (k : Spaces). k.own_globals) (front_later config c.args.duplicates _ types c.args.unstructured.now c.draw_front.new.spaces c.draw_front.new.unstructured _ _ _ _ front)

pub draw_definitions-requires-clause-own : goal.draw_definitions-requires-clause-own
draw_definitions-requires-clause-own c =
    let config = c.args.config.now in
    let types = map sub_type c.args.types.now in
    let front =
    from_types config c.args.duplicates _ types c.new-spaces.result c.args.unstructured.now c.draw_front.new.spaces c.draw_front.new.unstructured _ _ _ _ c.new-spaces.ensures c.in_ok-front.ensures.drawn in
    c.in_ok-own.ensures ∙ ap (own_of config) (sym (front_types config c.args.duplicates _ types c.args.unstructured.now c.draw_front.new.spaces c.draw_front.new.unstructured _ _ _ _ front))

pub draw_definitions-requires-clause-kept : goal.draw_definitions-requires-clause-kept
draw_definitions-requires-clause-kept c =
    let config = c.args.config.now in
    let types = map sub_type c.args.types.now in
    let front =
    from_types config c.args.duplicates _ types c.new-spaces.result c.args.unstructured.now c.draw_front.new.spaces c.draw_front.new.unstructured _ _ _ _ c.new-spaces.ensures c.in_ok-front.ensures.drawn in
    front_keeps config c.args.duplicates _ types c.args.unstructured.now c.draw_front.new.spaces c.draw_front.new.unstructured _ _ _ _ front c.requires.good c.requires.shapes c.requires.tables c.requires.types c.in_ok-own.ensures

pub draw_uses-requires-clause-types : goal.draw_uses-requires-clause-types
draw_uses-requires-clause-types c =
    let config = c.args.config.now in
    let types = map sub_type c.args.types.now in
    let front =
    from_types config c.args.duplicates _ types c.new-spaces.result c.args.unstructured.now c.draw_front.new.spaces c.draw_front.new.unstructured _ _ _ _ c.new-spaces.ensures c.in_ok-front.ensures.drawn in
    subst (AreTypesOf config) (sym (defined_types config c.args.duplicates _ types c.args.unstructured.now c.draw_front.new.spaces c.draw_front.new.unstructured _ _ _ _ front c.draw_definitions.new.spaces c.draw_definitions.new.unstructured _ _ _ c.in_ok-definitions.ensures.drawn)) c.requires.types

pub draw_uses-requires-clause-rules : goal.draw_uses-requires-clause-rules
draw_uses-requires-clause-rules c =
    let config = c.args.config.now in
    let types = map sub_type c.args.types.now in
    let front =
    from_types config c.args.duplicates _ types c.new-spaces.result c.args.unstructured.now c.draw_front.new.spaces c.draw_front.new.unstructured _ _ _ _ c.new-spaces.ensures c.in_ok-front.ensures.drawn in
    subst AllKeepTypeRules (sym (defined_types config c.args.duplicates _ types c.args.unstructured.now c.draw_front.new.spaces c.draw_front.new.unstructured _ _ _ _ front c.draw_definitions.new.spaces c.draw_definitions.new.unstructured _ _ _ c.in_ok-definitions.ensures.drawn)) c.requires.rules

pub draw_uses-requires-clause-first : goal.draw_uses-requires-clause-first
draw_uses-requires-clause-first c =
    let config = c.args.config.now in
    let types = map sub_type c.args.types.now in
    let front =
    from_types config c.args.duplicates _ types c.new-spaces.result c.args.unstructured.now c.draw_front.new.spaces c.draw_front.new.unstructured _ _ _ _ c.new-spaces.ensures c.in_ok-front.ensures.drawn in
    defined_exports config c.args.duplicates _ types c.args.unstructured.now c.draw_front.new.spaces c.draw_front.new.unstructured _ _ _ _ front c.draw_definitions.new.spaces c.draw_definitions.new.unstructured _ _ _ c.in_ok-definitions.ensures.drawn

pub draw_uses-requires-clause-few_functions : goal.draw_uses-requires-clause-few_functions
draw_uses-requires-clause-few_functions c =
    let config = c.args.config.now in
    let types = map sub_type c.args.types.now in
    let front =
    from_types config c.args.duplicates _ types c.new-spaces.result c.args.unstructured.now c.draw_front.new.spaces c.draw_front.new.unstructured _ _ _ _ c.new-spaces.ensures c.in_ok-front.ensures.drawn in
    few_functions config c.args.duplicates _ types c.args.unstructured.now c.draw_front.new.spaces c.draw_front.new.unstructured _ _ _ _ front c.draw_definitions.new.spaces c.draw_definitions.new.unstructured _ _ _ c.in_ok-definitions.ensures.drawn c.requires.good c.requires.shapes c.in_ok-own.ensures

pub draw_uses-requires-clause-few_tags : goal.draw_uses-requires-clause-few_tags
draw_uses-requires-clause-few_tags c =
    let config = c.args.config.now in
    let types = map sub_type c.args.types.now in
    let front =
    from_types config c.args.duplicates _ types c.new-spaces.result c.args.unstructured.now c.draw_front.new.spaces c.draw_front.new.unstructured _ _ _ _ c.new-spaces.ensures c.in_ok-front.ensures.drawn in
    few_tags config c.args.duplicates _ types c.args.unstructured.now c.draw_front.new.spaces c.draw_front.new.unstructured _ _ _ _ front c.draw_definitions.new.spaces c.draw_definitions.new.unstructured _ _ _ c.in_ok-definitions.ensures.drawn c.requires.good c.requires.shapes c.in_ok-own.ensures

pub draw_uses-requires-clause-tables : goal.draw_uses-requires-clause-tables
draw_uses-requires-clause-tables c =
    let config = c.args.config.now in
    let types = map sub_type c.args.types.now in
    let front =
    from_types config c.args.duplicates _ types c.new-spaces.result c.args.unstructured.now c.draw_front.new.spaces c.draw_front.new.unstructured _ _ _ _ c.new-spaces.ensures c.in_ok-front.ensures.drawn in
    defined_tables_keep config c.args.duplicates _ types c.args.unstructured.now c.draw_front.new.spaces c.draw_front.new.unstructured _ _ _ _ front c.draw_definitions.new.spaces c.draw_definitions.new.unstructured _ _ _ c.in_ok-definitions.ensures.drawn

pub draw_uses-requires-clause-nullable : goal.draw_uses-requires-clause-nullable
draw_uses-requires-clause-nullable c =
    let config = c.args.config.now in
    let types = map sub_type c.args.types.now in
    let front =
    from_types config c.args.duplicates _ types c.new-spaces.result c.args.unstructured.now c.draw_front.new.spaces c.draw_front.new.unstructured _ _ _ _ c.new-spaces.ensures c.in_ok-front.ensures.drawn in
    defined_nullable config c.args.duplicates _ types c.args.unstructured.now c.draw_front.new.spaces c.draw_front.new.unstructured _ _ _ _ front c.draw_definitions.new.spaces c.draw_definitions.new.unstructured _ _ _ c.in_ok-definitions.ensures.drawn c.in_ok-own.ensures

pub draw_uses-requires-clause-few_exports : goal.draw_uses-requires-clause-few_exports
draw_uses-requires-clause-few_exports c =
    let config = c.args.config.now in
    let types = map sub_type c.args.types.now in
    let front =
    from_types config c.args.duplicates _ types c.new-spaces.result c.args.unstructured.now c.draw_front.new.spaces c.draw_front.new.unstructured _ _ _ _ c.new-spaces.ensures c.in_ok-front.ensures.drawn in
    few_before config c.args.duplicates _ types c.args.unstructured.now c.draw_front.new.spaces c.draw_front.new.unstructured _ _ _ _ front c.requires.good c.requires.shapes

pub draw_uses-requires-clause-standing : goal.draw_uses-requires-clause-standing
draw_uses-requires-clause-standing c =
    let config = c.args.config.now in
    let types = map sub_type c.args.types.now in
    let front =
    from_types config c.args.duplicates _ types c.new-spaces.result c.args.unstructured.now c.draw_front.new.spaces c.draw_front.new.unstructured _ _ _ _ c.new-spaces.ensures c.in_ok-front.ensures.drawn in
    subst (λ n. StandFrom c.draw_definitions.new.spaces c.in_ok-front.front.imported (asked_items config n)) (sym (ap length (defined_types config c.args.duplicates _ types c.args.unstructured.now c.draw_front.new.spaces c.draw_front.new.unstructured _ _ _ _ front c.draw_definitions.new.spaces c.draw_definitions.new.unstructured _ _ _ c.in_ok-definitions.ensures.drawn))) (stand_from config c.args.duplicates _ types c.args.unstructured.now c.draw_front.new.spaces c.draw_front.new.unstructured _ _ _ _ front c.draw_definitions.new.spaces c.draw_definitions.new.unstructured _ _ _ c.in_ok-definitions.ensures.drawn c.in_ok-own.ensures)

pub returns-clause-drawn : goal.returns-clause-drawn
returns-clause-drawn c =
    let config = c.args.config.now in
    let types = map sub_type c.args.types.now in
    let front =
    from_types config c.args.duplicates _ types c.new-spaces.result c.args.unstructured.now c.draw_front.new.spaces c.draw_front.new.unstructured _ _ _ _ c.new-spaces.ensures c.in_ok-front.ensures.drawn in
    let own = c.in_ok-own.ensures in
    record {
      before = c.in_ok-front.front.imported;
      imports_size = c.imports_size-size.result;
      declared = c.draw_front.new.spaces;
      after_front = c.draw_front.new.unstructured;
      defined = c.draw_definitions.new.spaces;
      after_definitions = c.draw_definitions.new.unstructured;
      used = c.draw_uses.new.spaces;
      front = rw (sym own) front;
      definitions = rw (sym own) c.in_ok-definitions.ensures.drawn;
      uses = c.in_ok-uses.ensures.drawn;
      exports = c.into_exports.ensures;
      size = rw c.deref.ensures.value at c.imports_size-size.ensures;
    }
