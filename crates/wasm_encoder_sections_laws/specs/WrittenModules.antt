-- Modules as they are written: their sections one after the other, each given with its content.
use Rattle.std.specs.Prelude.{ℕ, ◌<◌, ◌^◌, Bool, List, ◌++◌, map, length}
use Rattle.std.specs.List.{flat_map}
use Rattle.wasm_spec.specs.Grammar.{header, section_id, IsContent}
use Rattle.wasm_spec.specs.Shortest.{section_encoding}
use Rattle.wasm_spec.specs.Syntax.{Section}

-- a section, and the bytes that stand in its frame
pub record WrittenSection : Type 0 where
  pub section : Section
  pub content : List ℕ

abbrev pub sections_of : List WrittenSection → List Section
sections_of written = map (λ it. it.section) written

-- the content is an encoding of the section, and is within a frame
abbrev pub IsReadable : Bool → WrittenSection → Type 0
IsReadable compact it = IsContent compact it.content it.section × (length it.content < 2 ^ 32)

abbrev pub written_section : WrittenSection → List ℕ
written_section it = section_encoding (section_id it.section) it.content

abbrev pub written_module : List WrittenSection → List ℕ
written_module written = header ++ flat_map written_section written
