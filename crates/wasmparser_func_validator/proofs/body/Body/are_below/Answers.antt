use Rattle.std.proofs.Common.{◌+◌, ◌<◌, ◌&&◌, ◌∙◌, sym, ap, arith, map, drop, length}
use Rattle.std.proofs.lemmas.List.{length-map}
use Rattle.wasm_bodies.specs.BodyContext.{are_below}
use Rattle.wasmparser_func_validator.specs.Steps.{items_in}
use Rattle.wasmparser_types.specs.ValTypes.{val_type}
use Rattle.wasmparser_func_validator.proofs.TypeLaws.{item_at, next_below, unlike}
use Rattle.wasmparser_func_validator.proofs.body.Body.are_below.Goals as goal

pub returns-then-types-wanted : goal.returns-then-types-wanted
returns-then-types-wanted g c =
    sym (unlike (items_in g.R.WasmModuleResources.resources c.args.self.now) (map val_type c.args.types.now) (map val_type c.args.wanted.now)
    (λ e. absurd (omega (arith, c.if-types-wanted.true, e, length-map c.args.types.now val_type, length-map c.args.wanted.now val_type))))

pub loop-index-preserved : goal.loop-index-preserved
loop-index-preserved g c =
    let items = items_in g.R.WasmModuleResources.resources c.args.self.now in
    let a = map val_type c.args.types.now in
    let b = map val_type c.args.wanted.now in
    let i = c.loop-index.index in
    let x = val_type c.index-types-index.result in
    let y = val_type c.index-wanted-index.result in
    let la : i < length c.args.types.now = omega (arith, c.loop-index-test.true) in
    let lb : i < length c.args.wanted.now = omega (arith, c.loop-index-test.true, c.if-types-wanted.false) in
    let next = next_below items a b i x y (omega (arith, la, length-map c.args.types.now val_type)) (omega (arith, lb, length-map c.args.wanted.now val_type))
    (item_at val_type c.args.types.now i c.index-types-index.result la c.index-types-index.is) (item_at val_type c.args.wanted.now i c.index-wanted-index.result lb c.index-wanted-index.is) in
    ap (λ t. t && are_below items (drop (i + 1) a) (drop (i + 1) b)) c.if-not-is_subtype.ensures ∙ sym next ∙ c.loop-index.invariant

pub returns-then-not-is_subtype : goal.returns-then-not-is_subtype
returns-then-not-is_subtype g c =
    let items = items_in g.R.WasmModuleResources.resources c.args.self.now in
    let a = map val_type c.args.types.now in
    let b = map val_type c.args.wanted.now in
    let i = c.loop-index.index in
    let x = val_type c.index-types-index.result in
    let y = val_type c.index-wanted-index.result in
    let la : i < length c.args.types.now = omega (arith, c.loop-index-test.true) in
    let lb : i < length c.args.wanted.now = omega (arith, c.loop-index-test.true, c.if-types-wanted.false) in
    let next = next_below items a b i x y (omega (arith, la, length-map c.args.types.now val_type)) (omega (arith, lb, length-map c.args.wanted.now val_type))
    (item_at val_type c.args.types.now i c.index-types-index.result la c.index-types-index.is) (item_at val_type c.args.wanted.now i c.index-wanted-index.result lb c.index-wanted-index.is) in
    ap (λ t. t && are_below items (drop (i + 1) a) (drop (i + 1) b)) c.if-not-is_subtype.ensures ∙ sym next ∙ c.loop-index.invariant
