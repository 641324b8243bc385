-- Entries after the bodies of a module.
use Rattle.std.specs.Prelude.{⊤}
use Rattle.wasm_validity.specs.Entries.{Entry, OfCustom, OfBody, OfData}

-- an entry that stands in a code section, after it, or anywhere
abbrev pub IsLater : Entry → Type 0
IsLater (OfCustom name) = ⊤
IsLater (OfBody body) = ⊤
IsLater (OfData segment) = ⊤
IsLater _ = ⊥
