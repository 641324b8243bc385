use Rattle.std.proofs.Common.{◌≡◌, ◌++◌, ◌∷◌, [], map, ap, ◌∙◌, arith}
use Rattle.std.proofs.lemmas.List.{map_push}
use Rattle.wasm_core_types.specs.CoreTypes.{field_type}
use Rattle.wasm_smith_types.specs.Copies.{IsNarrowedField, narrowed_field_at}
use Rattle.wasm_smith_types.proofs.CopyLaws.{all_copied, copied_more}
use Rattle.wasm_smith_types.proofs.GrowLaws.{each_goes_on}
use Rattle.wasm_smith_types.proofs.narrowing.narrowed_fields.Goals as goal

pub returns-clause-narrowed : goal.returns-clause-narrowed
returns-clause-narrowed c =
    all_copied IsNarrowedField field_type c.args.fields.now c.loop-field.field-index _ c.loop-field-test.false c.loop-field.invariant.kept

pub loop-field-preserved : goal.loop-field-preserved
loop-field-preserved c =
    let copies = c.loop-field.copies.items in
    let copy = field_type c.narrowed_field.result in
    let pushed : map field_type c.push.new.self.items ≡ map field_type copies ++ copy ∷ [] =
    ap (map field_type) c.in_ok-push.ensures.items ∙ map_push field_type copies c.narrowed_field.result in
    record {
      kept =
          copied_more IsNarrowedField field_type c.args.fields.now c.loop-field.field-index _ (map field_type copies)
          (map field_type c.push.new.self.items) copy c.loop-field-test.true pushed c.narrowed_field.ensures.narrowed c.loop-field.invariant.kept;
      drawn =
          rw pushed
          (each_goes_on field_type narrowed_field_at c.args.fields.now c.loop-field.field-index _ (map field_type copies) c.loop-field.unstructured c.narrowed_field.new.unstructured copy _ c.loop-field-test.true c.narrowed_field.ensures.drawn c.loop-field.invariant.drawn);
      taken = omega arith;
    }
