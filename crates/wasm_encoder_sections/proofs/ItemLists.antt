-- Lists of items, and their encodings.
use Rattle.std.proofs.Common.{◌≡◌, ℕ, List, [], ◌∷◌, map, Option, refl}
use mathlib.Core.Logic.{◌↔◌}
use Rattle.wasm_core_write.proofs.Items.{viewed}
use Rattle.wasm_core_write.proofs.TypeLists.{list_mapped}
use Rattle.wasm_core_write.specs.Encoding.{TellsItem}
use Rattle.wasm_spec.specs.Shortest.{list_encoding}
use Rattle.wasm_encoder_sections.specs.CoreItems.{memory_type, tag_type, export_of, export_bytes, memory_type_bytes, tag_type_bytes}
use Rattle.wasm_encoder_sections.specs.ItemEncodings.{export_encoding, memory_type_encoding, tag_type_encoding}
use Rattle.wasm_encoder_sections.specs.declared.entity_type.MemoryType.{MemoryType}
use Rattle.wasm_encoder_sections.specs.declared.entity_type.TagType.{TagType}
use Rattle.wasm_encoder_sections.specs.declared.export_section.Export.{Export}

-- nothing is seen of nothing alone
pub nothing : {A B : Type 0} (view : A → B) (items : List A) → (map view items ≡ []) ↔ (items ≡ [])
nothing view [] = ((λ e. refl), (λ e. refl))
nothing view (x ∷ xs) = ((λ e. absurd cc), (λ e. absurd cc))

pub memories : (types : List MemoryType) → list_encoding memory_type_bytes types ≡ list_encoding memory_type_encoding (map memory_type types)
unfolding memory_type_bytes
memories types = list_mapped memory_type_encoding memory_type types

pub tags : (types : List TagType) → list_encoding tag_type_bytes types ≡ list_encoding tag_type_encoding (map tag_type types)
unfolding tag_type_bytes
tags types = list_mapped tag_type_encoding tag_type types

pub exports : (items : List Export) → list_encoding export_bytes items ≡ list_encoding export_encoding (map export_of items)
unfolding export_bytes
exports items = list_mapped export_encoding export_of items

pub ruleset steps = (memories, tags, exports)

-- the length of an item

pub memory_told : (types : List MemoryType) (i : ℕ) (told : Option ℕ) → TellsItem memory_type_bytes types i told → TellsItem memory_type_encoding (map memory_type types) i told
unfolding memory_type_bytes
memory_told types i told h = viewed memory_type_encoding memory_type types i told h

pub tag_told : (types : List TagType) (i : ℕ) (told : Option ℕ) → TellsItem tag_type_bytes types i told → TellsItem tag_type_encoding (map tag_type types) i told
unfolding tag_type_bytes
tag_told types i told h = viewed tag_type_encoding tag_type types i told h

pub export_told : (items : List Export) (i : ℕ) (told : Option ℕ) → TellsItem export_bytes items i told → TellsItem export_encoding (map export_of items) i told
unfolding export_bytes
export_told items i told h = viewed export_encoding export_of items i told h
