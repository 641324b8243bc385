use Rattle.std.proofs.Common.{◌≡◌, ◌++◌, ◌∷◌, [], map, ap, ◌∙◌, arith}
use Rattle.std.proofs.lemmas.List.{map_push}
use Rattle.wasm_core_types.specs.CoreTypes.{val_type}
use Rattle.wasm_smith_types.specs.Copies.{Varies, varied_at}
use Rattle.wasm_smith_types.proofs.CopyLaws.{all_copied, copied_more}
use Rattle.wasm_smith_types.proofs.GrowLaws.{each_goes_on}
use Rattle.wasm_smith_types.proofs.narrowing.varied_values.Goals as goal

pub returns-clause-vary : goal.returns-clause-vary
returns-clause-vary c =
    all_copied (Varies c.args.nullable) val_type c.args.types.now c.loop-type_.type_-index _ c.loop-type_-test.false c.loop-type_.invariant.kept

pub loop-type_-preserved : goal.loop-type_-preserved
loop-type_-preserved c =
    let copies = c.loop-type_.copies.items in
    let copy = val_type c.varied.result in
    let pushed : map val_type c.push.new.self.items ≡ map val_type copies ++ copy ∷ [] =
    ap (map val_type) c.in_ok-push.ensures.items ∙ map_push val_type copies c.varied.result in
    record {
      kept =
          copied_more (Varies c.args.nullable) val_type c.args.types.now c.loop-type_.type_-index _ (map val_type copies)
          (map val_type c.push.new.self.items) copy c.loop-type_-test.true pushed c.varied.ensures.varies c.loop-type_.invariant.kept;
      drawn =
          rw pushed
          (each_goes_on val_type (varied_at c.args.nullable) c.args.types.now c.loop-type_.type_-index _ (map val_type copies) c.loop-type_.unstructured c.varied.new.unstructured copy _ c.loop-type_-test.true c.varied.ensures.drawn c.loop-type_.invariant.drawn);
      taken = omega arith;
    }
