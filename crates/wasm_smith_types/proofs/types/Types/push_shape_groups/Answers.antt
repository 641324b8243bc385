use Rattle.std.proofs.Common.{◌≡◌, ◌++◌, map, length, vec_len, ap, sym, ◌∙◌, arith}
use Rattle.std.proofs.lemmas.List.{length-map}
use Rattle.std.proofs.lemmas.Result.{IfOk-weaker}
use Rattle.wasm_core_types.specs.SubTypes.{sub_type}
use Rattle.wasm_spec.specs.TypeReferences.{group_map}
use Rattle.wasm_smith_shapes.specs.Shapes.{ShapeValue, group_of}
use Rattle.wasm_smith_types.specs.Copies.{shifted_index}
use Rattle.wasm_smith_types.specs.Grouped.{groups}
use Rattle.wasm_smith_types.specs.Making.{made}
use Rattle.wasm_smith_types.proofs.GivenLaws.{shape_behind}
use Rattle.wasm_smith_types.proofs.types.Types.push_shape_groups.Goals as goal

pub overflow_cast-by : goal.overflow_cast-by
overflow_cast-by c =
    let items = c.args.self.now.types.items in
    let count : vec_len c.args.self.now.types ≡ length items = c.args.self.now.types.ok.0 in
    omega (arith, c.len-by.ensures, count, length-map items sub_type, c.requires.room)

pub returns-clause-added : goal.returns-clause-added
returns-clause-added c =
    let items = c.args.self.now.types.items in
    let count : vec_len c.args.self.now.types ≡ length items = c.args.self.now.types.ok.0 in
    let by : c.len-by.result ≡ length (made c.args.self.now) = c.len-by.ensures ∙ count ∙ sym (length-map items sub_type) in
    let same : map group_of c.deref.result.now ≡ c.args.shape.now.groups =
    ap (map group_of) c.deref.ensures.value ∙ ap (λ (it : ShapeValue). it.groups) c.shape.view_is in
    IfOk-weaker c.push_groups.result _ _
    (λ _ added.
    shape_behind c.len-by.result c.args.self.now.sizes.items (made c.args.self.now) _ c.args.shape.now by c.requires.whole c.requires.in_range (omega (arith, c.requires.room))
    (added ∙ ap (λ gs. groups c.args.self.now ++ map (group_map (shifted_index 0 c.len-by.result)) gs) same))
    c.push_groups.ensures.added
