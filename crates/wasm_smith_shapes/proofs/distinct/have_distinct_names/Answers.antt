use Rattle.std.proofs.Common.{◌≡◌, ◌∙◌, ◌+◌, ℕ, List, ap, arith, drop, map, refl, subst, sym}
use Rattle.std.specs.Prelude.{◌||◌, bytes_eq}
use Rattle.std.specs.String.{string_bytes}
use Rattle.wasm_smith_unstructured.specs.Names.{is_name}
use Rattle.wasm_smith_shapes.specs.Shapes.{named_item}
use Rattle.wasm_smith_shapes.proofs.FlatLaws.{done, next_left}
use Rattle.wasm_smith_shapes.proofs.NameWalk.{AreSeen, ends, goes_on}
use Rattle.wasm_smith_shapes.proofs.distinct.have_distinct_names.Goals as goal

pub loop-export-preserved : goal.loop-export-preserved
loop-export-preserved c =
    let exports = c.args.exports.now in
    let i = c.loop-export.export-index in
    let all = map (λ export. export.name) (map named_item exports) in
    let Seen : List (List ℕ) → Type 0 = λ rest. AreSeen all rest c.loop-export.names in
    let here = subst Seen (ap (λ xs. map (λ export. export.name) (map named_item xs)) (next_left exports i c.export-item.result c.loop-export-test.true c.export-item.is)) c.loop-export.invariant in
    let fresh = sym c.if-contains.ensures in
    let same : string_bytes c.in_ok-add.field-0 ≡ string_bytes c.export-item.result.name = c.in_ok-add.ensures.named.same fresh ∙ c.deref-name.ensures in
    let Added : List ℕ → Type 0 = λ name. (other : List ℕ) → is_name c.add.new.self other ≡ (bytes_eq name other || is_name c.loop-export.names other) in
    goes_on c.loop-export.names c.add.new.self (string_bytes c.export-item.result.name) (subst Added same c.in_ok-add.ensures.added) all
    (map (λ export. export.name) (map named_item (drop (i + 1) exports))) here (ap (is_name c.loop-export.names) (sym c.deref-name.ensures) ∙ fresh)

pub returns : goal.returns
returns c =
    let exports = c.args.exports.now in
    let all = map (λ export. export.name) (map named_item exports) in
    let Seen : List (List ℕ) → Type 0 = λ rest. AreSeen all rest c.loop-export.names in
    let here = subst Seen (ap (λ xs. map (λ export. export.name) (map named_item xs)) (done exports c.loop-export.export-index (omega (arith, c.loop-export-test.false)))) c.loop-export.invariant in
    (λ h. ends all c.loop-export.names here, λ h. refl)
