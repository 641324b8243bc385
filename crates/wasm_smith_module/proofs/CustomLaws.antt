-- The custom sections that are drawn.
use Rattle.std.proofs.Common.{◌≡◌, ℕ, ◌+◌, ◌≤◌, Bool, true, false, List, [], ◌∷◌, ◌++◌, length, take, min, refl, arith}
use Rattle.std.specs.List.{AllByRecursion}
use Rattle.std.proofs.lemmas.List.{length-take}
use Rattle.std.proofs.lemmas.List.Sums.{sum_by_push}
use Rattle.std.proofs.lemmas.Str.{utf8_valid_len_le}
use Rattle.std.specs.Str.Lossy.{utf8_valid_len}
use Rattle.wasm_smith_types.specs.Growing.{grow_at, grow_from, grows_from, with_front}
use Rattle.wasm_smith_types.proofs.GrowLaws.{grow_begins}
use Rattle.wasm_smith_types.proofs.ListLaws.{grow_all, grow_few, index_below}
use Rattle.wasm_smith_unstructured.specs.Draws.{bool_at, int_at, len_at, text_at}
use Rattle.wasm_smith_validity.specs.Made.{PlacedCustom}
use Rattle.wasm_smith_module.specs.Contents.{custom_total}
use Rattle.wasm_smith_module.specs.Customs.{IsBoundedCustom, custom_at, customs_at}

pub customs_few : (asked : Bool) (s : List ℕ) → length (customs_at asked s).0 ≤ 10
unfolding customs_at
customs_few true s = grow_few custom_at 0 10 s
customs_few false s = omega arith

place_within : (s : List ℕ) → (int_at 0 13 s).0 ≤ 13
place_within s = let below = index_below 14 s (λ none. absurd cc) in omega (arith, below)

name_within : (s : List ℕ) → length (text_at 30 s).0 ≤ 30
unfolding text_at
name_within s =
    let n = len_at s in
    let front = take (min n.0 30) n.1 in
    omega (arith, length-take (utf8_valid_len front) n.1, utf8_valid_len_le front, length-take (min n.0 30) n.1)

custom_bounded : (s : List ℕ) → IsBoundedCustom (custom_at s).0
unfolding custom_at
custom_bounded s = record { place = place_within s; name = name_within (int_at 0 13 s).1 }

pub customs_bounded : (asked : Bool) (s : List ℕ) → AllByRecursion IsBoundedCustom (customs_at asked s).0
unfolding customs_at
customs_bounded true s = grow_all IsBoundedCustom custom_at custom_bounded 0 10 s
customs_bounded false s = tt

pub no_customs : (asked : Bool) → customs_at asked [] ≡ ([], [])
unfolding customs_at grow_at grow_from grows_from bool_at
no_customs true = refl
no_customs false = refl

pub none_asked : (asked : Bool) (s : List ℕ) → asked ≡ false → (customs_at asked s).0 ≡ []
unfolding customs_at
none_asked true s off = absurd cc
none_asked false s off = refl

pub custom_more : (customs : List PlacedCustom) (custom : PlacedCustom) → custom_total (customs ++ custom ∷ []) ≡ custom_total customs + length custom.contents
custom_more customs custom = sum_by_push (λ (custom : PlacedCustom). length custom.contents) customs custom

pub customs_begin : (s : List ℕ) → with_front [] (grow_at custom_at 0 10 0 s) ≡ customs_at true s
unfolding customs_at
customs_begin s = grow_begins custom_at 0 10 s
