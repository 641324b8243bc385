-- Bytes that are taken from the source as they are.
use Rattle.std.specs.Prelude.{ℕ, ◌+◌, List, length, take, drop, Option, Some, None}
use Rattle.std.specs.List.{sum_by}
use Rattle.wasm_smith_unstructured.specs.Draws.{len_at}
use Rattle.wasm_smith_validity.specs.Made.{Made, MadeBody, PlacedCustom}
use Rattle.wasm_smith_module.specs.Data.{total_size}

-- as many as a drawn length says
unfoldable pub contents_at : List ℕ → List ℕ × List ℕ
contents_at s = let n = len_at s in (take n.0 n.1, drop n.0 n.1)

abbrev pub raw_length : Option (List ℕ) → ℕ
raw_length None = 0
raw_length (Some raw) = length raw

-- the bytes of all raw bodies
abbrev pub raw_total : List MadeBody → ℕ
raw_total bodies = sum_by (λ (body : MadeBody). raw_length body.raw) bodies

-- the bytes of all custom sections, their names aside
abbrev pub custom_total : List PlacedCustom → ℕ
custom_total customs = sum_by (λ (custom : PlacedCustom). length custom.contents) customs

-- the bytes of data segments, raw bodies and custom sections
abbrev pub contents_size : Made → ℕ
contents_size m = total_size m.data_segments + (raw_total m.bodies + custom_total m.customs)
