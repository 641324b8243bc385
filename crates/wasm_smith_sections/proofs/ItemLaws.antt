-- Items as the encoder takes them.
use Rattle.std.proofs.Common.{◌≡◌, ℕ, zero, suc, Bool, true, false, List, [], ◌++◌, Some, None, refl, ap, ◌∙◌, append_assoc, if◌then◌else◌}
use Rattle.std.proofs.lemmas.List.{append-nil}
use Rattle.wasm_encoder_expression_sections.specs.ItemEncodings as encoder
use Rattle.wasm_encoder_sections.specs.CoreItems.{ref_type}
use Rattle.wasm_smith_definitions.specs.Items.{expression, element_segment, element_mode, element_items, written_table, written_memory}
use Rattle.wasm_smith_definitions.specs.declared.segments.ElementItems.{ElementItems}
use Rattle.wasm_smith_definitions.specs.declared.segments.ElementItems.TheVariants.{Functions, Expressions}
use Rattle.wasm_smith_definitions.specs.declared.segments.ElementMode.{ElementMode}
use Rattle.wasm_smith_definitions.specs.declared.segments.ElementMode.TheVariants.{Active, Passive, Declared}
use Rattle.wasm_smith_definitions.specs.declared.segments.ElementSegment.{ElementSegment}
use Rattle.wasm_smith_sections.specs.Contents.{expression_bytes, element_bytes, items_bytes, memory_index, mode_bytes}
use Rattle.wasm_smith_sections.specs.ItemViews.{given_items, given_mode, named_table}
use Rattle.wasm_spec.specs.Types as types
use Rattle.wasm_validity.specs.TypeRules.{is_funcref}

-- ---- constant expressions

pub joined_three : (x y o first two done : List ℕ) → first ≡ x → two ≡ first ++ y → done ≡ two ++ o → done ≡ x ++ (y ++ (o ++ []))
joined_three x y o first two done a b c = rw (c, b, a) (simp (append_assoc, append-nil))

-- ---- element segments

-- `funcref` is told by its fields, or by its byte
same_funcref : (nullable : Bool) (heap : types.HeapType ℕ) → encoder.is_funcref nullable heap ≡ is_funcref (record { nullable = nullable; heap_type = heap })
same_funcref false heap = refl
same_funcref true (types.Concrete index) = refl
same_funcref true (types.Abstract types.Func) = refl
same_funcref true (types.Abstract types.Extern) = refl
same_funcref true (types.Abstract types.Any) = refl
same_funcref true (types.Abstract types.None) = refl
same_funcref true (types.Abstract types.NoExtern) = refl
same_funcref true (types.Abstract types.NoFunc) = refl
same_funcref true (types.Abstract types.Eq) = refl
same_funcref true (types.Abstract types.Struct) = refl
same_funcref true (types.Abstract types.Array) = refl
same_funcref true (types.Abstract types.I31) = refl
same_funcref true (types.Abstract types.Exn) = refl
same_funcref true (types.Abstract types.NoExn) = refl
same_funcref true (types.Abstract types.Cont) = refl
same_funcref true (types.Abstract types.NoCont) = refl

same_table : (table : ℕ) (items : ElementItems) → encoder.written_table (named_table table) (given_items items) ≡ written_table table (element_items items)
same_table zero (Functions functions) = refl
same_table zero (Expressions type constants) = ap (λ b. if b then None else Some 0) (same_funcref (ref_type type).nullable (ref_type type).heap_type)
same_table (suc table) items = refl

same_items : (items : ElementItems) → given_items items ≡ items_bytes (element_items items)
same_items (Functions functions) = refl
same_items (Expressions type constants) = refl

same_mode : (mode : ElementMode) (items : ElementItems) → encoder.written_mode (given_mode mode) (given_items items) ≡ mode_bytes (element_mode mode (element_items items))
same_mode (Active table offset) items = ap (λ t. encoder.Active t (expression_bytes (expression offset))) (same_table table items)
same_mode Passive items = refl
same_mode Declared items = refl

pub given_segment : (segment : ElementSegment) → encoder.element_encoding (given_mode segment.mode) (given_items segment.items) ≡ element_bytes (element_segment segment)
given_segment segment =
    ap (λ mode. encoder.form_encoding mode (given_items segment.items)) (same_mode segment.mode segment.items)
    ∙ ap (λ items. encoder.form_encoding (mode_bytes (element_mode segment.mode (element_items segment.items))) items) (same_items segment.items)

-- ---- data segments

pub memory_given : (memory : ℕ) → memory_index (written_memory memory) ≡ memory
memory_given zero = refl
memory_given (suc memory) = refl
