-- The custom sections that are drawn, with the bytes of the source that are left then; and the bounds on custom sections.
use Rattle.std.specs.Prelude.{ℕ, ◌≤◌, Bool, List, [], length, if◌then◌else◌}
use Rattle.wasm_smith_module.specs.Contents.{contents_at}
use Rattle.wasm_smith_types.specs.Growing.{grow_at}
use Rattle.wasm_smith_unstructured.specs.Draws.{int_at, text_at}
use Rattle.wasm_smith_validity.specs.Made.{PlacedCustom}

-- its place, its name, and what it holds
unfoldable pub custom_at : List ℕ → PlacedCustom × List ℕ
custom_at s =
    let place = int_at 0 13 s in
    let name = text_at 30 place.1 in
    let contents = contents_at name.1 in
    (record { place = place.0; name = name.0; contents = contents.0 }, contents.1)

-- at most ten, where they are asked for
unfoldable pub customs_at : Bool → List ℕ → List PlacedCustom × List ℕ
customs_at asked s = if asked then grow_at custom_at 0 10 0 s else ([], s)

-- It stands before one of the thirteen other kinds of sections or behind them, and its name has at most 30 bytes.
pub record IsBoundedCustom (custom : PlacedCustom) : Type 0 where
  pub place : custom.place ≤ 13
  pub name : length custom.name ≤ 30
