-- A section is the items that were read and those that are left.
use Rattle.std.proofs.Common.{◌≡◌, ◌<◌, ◌-◌, ℕ, suc, zero, List, [], ◌∷◌, Option, Some, None, refl, sym, ap, length, inl, inr, arith}
use Rattle.std.specs.Option.{option_map}
use Rattle.wasm_core_read.specs.Input.{Input, end}
use Rattle.wasm_core_read.specs.Reading.{◌>>=◌, ReadingOf, unsigned_at, filled}
use Rattle.wasm_core_read.specs.TypeReading.{items_at, list_at}
use Rattle.wasm_core_read.proofs.Forms.{some_is}
use Rattle.wasm_spec.specs.Features.{Features}
use Rattle.wasmparser_readers.specs.Sections.{Left, Limited, limited_of, left_items, IsEmpty, IsNext, IsUnread}

abbrev given : Input → ℕ × List ℕ → Option Limited
given i n = Some (record { start = i.position; left = record { count = n.0; input = record i { rest = n.1; position = end i - length n.1 } } })

-- before the first item is read, the items that are left are the list that the content is
pub section_begins : {A : Type 0} (form_at : Features → ReadingOf A) (i : Input) (section : Limited) → limited_of i ≡ Some section → left_items form_at section.left ≡ filled (list_at (form_at i.features) i.rest)
unfolding limited_of left_items list_at
section_begins form_at i section e = by_count (unsigned_at 32 i.rest) e
  where
    by_count : (read : Option (ℕ × List ℕ)) → (read >>= λ n. given i n) ≡ Some section
        → filled (items_at (form_at section.left.input.features) section.left.count section.left.input.rest) ≡ filled (read >>= λ n. items_at (form_at i.features) n.0 n.1)
    by_count None h = absurd cc
    by_count (Some n) h = ap (λ (s : Limited). filled (items_at (form_at s.left.input.features) s.left.count s.left.input.rest)) (sym (some_is _ section h))

-- an item that was read, and those that are left after it
pub item_and_left : {A : Type 0} (form_at : Features → ReadingOf A) (old new : Left) (offset : ℕ) (item : A) → IsNext form_at old new offset item → left_items form_at old ≡ option_map (λ items. item ∷ items) (left_items form_at new)
unfolding left_items items_at
item_and_left {A = A} form_at old new offset item h =
    rw (h.counted, h.reads, h.goes_on.same_features) (by_others (items_at (form_at old.input.features) new.count new.input.rest))
  where
    by_others : (read : Option (List A × List ℕ)) → filled (read >>= λ others. Some (item ∷ others.0, others.1)) ≡ option_map (λ items. item ∷ items) (filled read)
    by_others None = refl
    by_others (Some (items, [])) = refl
    by_others (Some (items, b ∷ rest)) = refl

pub none_left : {A : Type 0} (form_at : Features → ReadingOf A) (left : Left) → IsEmpty left → left_items form_at left ≡ Some []
unfolding left_items items_at
none_left form_at left h = rw (h.none, h.ended) refl

-- where the next item is refused as unread, nothing reads of what is left
pub unread_left : {A : Type 0} (form_at : Features → ReadingOf A) (left : Left) → IsUnread form_at left → left_items form_at left ≡ None
unfolding left_items items_at
unread_left form_at left (inl h) = by_number left.count h.0
  where
    by_number : (n : ℕ) → 0 < n → filled (items_at (form_at left.input.features) n left.input.rest) ≡ None
    by_number zero lt = absurd (omega (arith, lt))
    by_number (suc n) lt = rw h.1 refl
unread_left {A = A} form_at left (inr h) = rw h.0 (by_rest left.input.rest h.1)
  where
    by_rest : (bytes : List ℕ) → 0 < length bytes → filled {A = List A} (Some ([], bytes)) ≡ None
    by_rest [] lt = absurd (omega (arith, lt))
    by_rest (b ∷ bs) lt = refl
