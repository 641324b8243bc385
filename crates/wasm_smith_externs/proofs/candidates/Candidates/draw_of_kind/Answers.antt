use Rattle.std.proofs.Common.{◌≡◌, List, ℕ, Option, Some, ap}
use Rattle.wasm_smith_unstructured.specs.Draws.{choose_at}
use Rattle.wasm_smith_types.proofs.OfferLaws.{is_chosen}
use Rattle.wasm_smith_validity.specs.Spaces.{functions_of}
use Rattle.wasm_smith_externs.specs.declared.fitting.SizedItem.{SizedItem}
use Rattle.wasm_smith_externs.proofs.FittingLaws.{one_there, fitting_one}
use Rattle.wasm_smith_externs.proofs.candidates.Candidates.draw_of_kind.Goals as goal

pub unwrap-requires : goal.unwrap-requires
unwrap-requires c =
    let spaces = c.args.spaces.now in
    is_chosen _ c.items.result.now _ _ c.choose.result c.choose.ensures.exact
    (rw c.items.ensures (one_there spaces.types c.args.self.now.left (functions_of spaces) c.args.self.now.functions c.requires.candidates.of_functions (rw c.in-Func.is at c.requires.some)))

pub returns-in-Func-clause-exportable : goal.returns-in-Func-clause-exportable
returns-in-Func-clause-exportable c =
    let spaces = c.args.spaces.now in
    let item = c.unwrap.result.now in
    let drawn : choose_at c.args.self.now.functions c.args.unstructured.now ≡ (Some c.unwrap.result.now, c.choose.new.self) = rw (c.items.ensures, c.unwrap.ensures) at c.choose.ensures.exact in
    let chosen : (choose_at c.args.self.now.functions c.args.unstructured.now).0 ≡ Some c.unwrap.result.now = ap (λ (d : Option SizedItem × List ℕ). d.0) drawn in
    let one = fitting_one spaces.types c.args.self.now.left (functions_of spaces) c.args.self.now.functions c.requires.candidates.of_functions c.args.unstructured.now item chosen in
    rw c.in-Func.is (record { there = one.0.there; is = one.0.is; small = one.1 })

pub unwrap-requires-in-Tag : goal.unwrap-requires-in-Tag
unwrap-requires-in-Tag c =
    let spaces = c.args.spaces.now in
    is_chosen _ c.items-in-Tag.result.now _ _ c.choose-in-Tag.result c.choose-in-Tag.ensures.exact
    (rw c.items-in-Tag.ensures (one_there spaces.types c.args.self.now.left spaces.tags c.args.self.now.tags c.requires.candidates.of_tags (rw c.in-Tag.is at c.requires.some)))

pub returns-in-Tag-clause-exportable : goal.returns-in-Tag-clause-exportable
returns-in-Tag-clause-exportable c =
    let spaces = c.args.spaces.now in
    let item = c.unwrap-in-Tag.result.now in
    let drawn : choose_at c.args.self.now.tags c.args.unstructured.now ≡ (Some c.unwrap-in-Tag.result.now, c.choose-in-Tag.new.self) = rw (c.items-in-Tag.ensures, c.unwrap-in-Tag.ensures) at c.choose-in-Tag.ensures.exact in
    let chosen : (choose_at c.args.self.now.tags c.args.unstructured.now).0 ≡ Some c.unwrap-in-Tag.result.now = ap (λ (d : Option SizedItem × List ℕ). d.0) drawn in
    let one = fitting_one spaces.types c.args.self.now.left spaces.tags c.args.self.now.tags c.requires.candidates.of_tags c.args.unstructured.now item chosen in
    rw c.in-Tag.is (record { there = one.0.there; is = one.0.is; small = one.1 })
