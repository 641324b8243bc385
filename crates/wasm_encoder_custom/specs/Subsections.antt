-- Parts of custom sections: an id, and a content after its size. Core Specification 3.0, Appendix, Custom Sections and Annotations, "Name Section" (subsections); sections for
-- linkers have the same ones.
use Rattle.std.specs.Prelude.{ℕ, List, ◌∷◌}
use Rattle.std.specs.List.{flat_map}
use Rattle.wasm_spec.specs.Shortest.{framed_encoding}

pub record Subsection : Type 0 where
  pub id : ℕ
  pub content : List ℕ

unfoldable pub subsection_encoding : Subsection → List ℕ
subsection_encoding part = part.id ∷ framed_encoding part.content

-- one after the other, without their number
abbrev pub subsections_encoding : List Subsection → List ℕ
subsections_encoding parts = flat_map subsection_encoding parts
