-- Operands, which are kept with the last one last.
use Rattle.std.proofs.Common.{◌≡◌, List, [], ◌∷◌, ◌++◌, map, reverse, length, option_to_list, ◌+◌, Option, Some, None, MatchOption, ap, ◌∙◌}
use Rattle.std.proofs.lemmas.List.{length-map, length-reverse, map-append, nil_from_length, reverse-append}
use Rattle.wasmparser_types.specs.ValTypes.{val_type}
use Rattle.wasmparser_types.specs.declared.val_type.ValType.{ValType}
use Rattle.wasmparser_constants.specs.Operands.{Pops, last_first}

-- one more is the last one
pub pushed : (items : List ValType) (item : ValType) → last_first (items ++ item ∷ []) ≡ val_type item ∷ last_first items
pushed items item = ap reverse (map-append val_type items (item ∷ [])) ∙ reverse-append (map val_type items) (val_type item ∷ [])

-- there are as many
pub as_many : (items : List ValType) → length (last_first items) ≡ length items
as_many items = length-reverse (map val_type items) ∙ length-map items val_type

pub popped : (old new : List ValType) (item : Option ValType) → old ≡ new ++ option_to_list item → MatchOption item ((length old ≡ 0) × (length new ≡ 0)) (λ _. length new + 1 ≡ length old)
    → Pops (last_first old) item (last_first new)
popped old new None e counts = (ap last_first (nil_from_length old counts.0), ap last_first (nil_from_length new counts.1))
popped old new (Some item) e counts = ap last_first e ∙ pushed new item
