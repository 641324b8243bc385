use Rattle.std.proofs.Common.{length, ap, subst, arith}
use Rattle.wasm_smith_types.specs.Making.{made}
use Rattle.wasm_smith_validity.specs.ValidGroups.{AllKeepTypeRules}
use Rattle.wasm_smith_types.proofs.GroupedLaws.{types_of_grouped}
use Rattle.wasm_smith_module.proofs.GivenTypes.{few_given, types_shaped}
use Rattle.wasm_smith_module.proofs.GoodLaws.{types_small}
use Rattle.wasm_smith_module.proofs.ValidLaws.{type_rules}
use Rattle.wasm_smith_module.specs.TrueToShapes.{AreTypesOf}
use Rattle.wasm_smith_module.proofs.module.build.Goals as goal

pub finish-requires-clause-few : goal.finish-requires-clause-few
finish-requires-clause-few c =
    let types = c.in-Some.types in
    let groups = rw c.in-Some.is at c.in_ok-types.ensures.made in
    let whole = rw c.in-Some.is at c.in_ok-types.ensures.whole in
    omega (arith, groups.few, few_given c.args.config c.requires.shapes, types_small c.args.config c.requires.good, ap length (types_of_grouped types.sizes.items (made types) whole))

pub finish-requires-clause-rules : goal.finish-requires-clause-rules
finish-requires-clause-rules c =
    let types = c.in-Some.types in
    let groups = rw c.in-Some.is at c.in_ok-types.ensures.made in
    let whole = rw c.in-Some.is at c.in_ok-types.ensures.whole in
    subst AllKeepTypeRules (types_of_grouped types.sizes.items (made types) whole) (type_rules c.args.config _ _ _ groups)

pub finish-requires-clause-types : goal.finish-requires-clause-types
finish-requires-clause-types c =
    let types = c.in-Some.types in
    let groups = rw c.in-Some.is at c.in_ok-types.ensures.made in
    let whole = rw c.in-Some.is at c.in_ok-types.ensures.whole in
    subst (AreTypesOf c.args.config) (types_of_grouped types.sizes.items (made types) whole) (types_shaped c.args.config _ _ _ groups.made)
