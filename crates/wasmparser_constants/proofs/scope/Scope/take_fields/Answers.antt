use Rattle.std.proofs.Common.{◌≡◌, [], ◌∷◌, List, map, reverse, ap, subst, sym, ◌∙◌, arith}
use Rattle.std.specs.List.{AllByRecursion}
use Rattle.wasm_spec.specs.Types.{ValType}
use Rattle.wasm_validity.specs.ConstantTyping.{TakesOff}
use Rattle.wasmparser_constants.proofs.TakingLaws.{IsAsFar, one_taken, values_before, wanted_before}
use Rattle.wasmparser_constants.specs.Operands.{meant, meant_type}
use Rattle.wasmparser_constants.specs.Scopes.{field_values, known}
use Rattle.wasmparser_constants.specs.Steps.{IsWanted}
use Rattle.wasmparser_types.specs.Index.{Index}
use Rattle.wasmparser_types.specs.ValTypes.{storage_type, unpacked_type}
use Rattle.wasmparser_types.specs.declared.val_type.FieldType.{FieldType}
use Rattle.wasmparser_constants.proofs.scope.Scope.take_fields.Goals as goal

pub take-requires-clause-wanted : goal.take-requires-clause-wanted
take-requires-clause-wanted c =
    let k = known c.args.self.now in
    subst (IsWanted k) (sym c.unpack.ensures)
    (wanted_before (IsWanted k) c.in-Some.rest.now c.in-Some.field.now (subst (λ (fs : List FieldType). AllByRecursion (IsWanted k) (field_values fs)) c.in-Some.ensures.cases.0 c.fields.invariant.wanted)).1

pub fields-smaller : goal.fields-smaller
fields-smaller c = omega (arith, c.in-Some.ensures.cases.1)

pub fields-preserved : goal.fields-preserved
fields-preserved c =
    let k = known c.args.self.now in
    let all = reverse (map (meant_type k) (field_values c.args.fields.now)) in
    let value : ValType Index = unpacked_type (storage_type c.in-Some.field.now.element_type) in
    let rest = reverse (map (meant_type k) (field_values c.in-Some.rest.now)) in
    record {
      far = one_taken k all c.args.operands.now (meant_type k value) rest c.fields.operands c.take.new.operands
          (subst (λ types. IsAsFar k all c.args.operands.now types c.fields.operands)
          (ap (λ (fs : List FieldType). reverse (map (meant_type k) (field_values fs))) c.in-Some.ensures.cases.0 ∙ values_before k c.in-Some.rest.now c.in-Some.field.now)
          c.fields.invariant.far)
          (subst (λ (v : ValType Index). TakesOff (meant_type k v ∷ []) (meant k c.fields.operands) (λ others. others ≡ meant k c.take.new.operands)) c.unpack.ensures c.in_ok-take.ensures.0)
          c.in_ok-take.ensures.1;
      wanted = (wanted_before (IsWanted k) c.in-Some.rest.now c.in-Some.field.now (subst (λ (fs : List FieldType). AllByRecursion (IsWanted k) (field_values fs)) c.in-Some.ensures.cases.0 c.fields.invariant.wanted)).0;
    }
