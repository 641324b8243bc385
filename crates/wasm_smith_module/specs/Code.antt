-- The bodies that are drawn, and the bytes of the source that are left then.
use Rattle.std.specs.Prelude.{ℕ, Bool, List, Option, Some, None, if◌then◌else◌}
use Rattle.wasm_smith_module.specs.Contents.{contents_at}
use Rattle.wasm_smith_types.specs.Drawing.{Offers, bool_if, values_at}
use Rattle.wasm_smith_types.specs.Growing.{times_at}
use Rattle.wasm_smith_validity.specs.Made.{MadeBody}

-- raw bytes after true, where they are allowed
unfoldable pub raw_at : Bool → List ℕ → Option (List ℕ) × List ℕ
raw_at allowed s =
    let asked = bool_if allowed s in
    if asked.0 then (let contents = contents_at asked.1 in (Some contents.0, contents.1)) else (None, asked.1)

-- at most 100 locals, whose references go to types with indexes below bound, and then perhaps raw bytes
unfoldable pub body_at : Bool → Offers → ℕ → List ℕ → MadeBody × List ℕ
body_at allowed o bound s =
    let locals = values_at o bound 100 s in
    let raw = raw_at allowed locals.1 in
    (record { locals = locals.0; raw = raw.0 }, raw.1)

-- the bodies of so many functions
unfoldable pub code_at : Bool → Offers → ℕ → ℕ → List ℕ → List MadeBody × List ℕ
code_at allowed o bound count s = times_at (body_at allowed o bound) count s
