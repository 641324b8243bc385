use Rattle.std.proofs.Common.{Bool, subst, string_bytes}
use Rattle.std.specs.List.{AllByRecursion}
use Rattle.wasm_encoder_sections.specs.SmallItems.{IsNameText, IsSmallItem}
use Rattle.wasm_smith_shapes.specs.Imports.{import_item}
use Rattle.wasm_smith_sections.proofs.SmallItems.{seen}
use Rattle.wasm_smith_sections.proofs.small_items.ImportEntrySmall.is_small.Goals as goal

pub returns-in-Compact1 : goal.returns-in-Compact1
returns-in-Compact1 c =
    let all = subst (λ l. AllByRecursion (λ item. IsSmallItem (import_item item)) l) c.deref.ensures.value c.are_small.ensures in
    rw c.in-Compact1.is (λ (compact : Bool) on. (on, c.is_small-in-Compact1.ensures, seen IsSmallItem import_item c.in-Compact1.items.items all))

pub returns-in-Compact2 : goal.returns-in-Compact2
returns-in-Compact2 c =
    let all = subst (λ l. AllByRecursion (λ name. IsNameText (string_bytes name)) l) c.deref-in-Compact2.ensures.value c.are_small-in-Compact2.ensures in
    rw c.in-Compact2.is
    (λ (compact : Bool) on. (on, c.is_small-in-Compact2.ensures, c.is_small-in-Compact2-2.ensures, seen IsNameText (λ name. string_bytes name) c.in-Compact2.names.items all))
