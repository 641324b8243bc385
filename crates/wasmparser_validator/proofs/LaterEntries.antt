-- Entries after bodies change nothing of what these are validated in: a data segment that keeps its rule names no function.
use Rattle.std.proofs.Common.{◌≡◌, ℕ, Bool, true, false, List, [], ◌∷◌, Option, Some, None, slice_get, unwrap_or, refl, sym, ap, ◌∙◌}
use Rattle.std.specs.List.{AllByRecursion}
use Rattle.wasm_spec.specs.Constants.{ConstantExpression}
use Rattle.wasm_spec.specs.Features.{Features}
use Rattle.wasm_spec.specs.Syntax.{DataMode, ActiveData, PassiveData}
use Rattle.wasm_spec.specs.Types.{MemoryType}
use Rattle.wasm_validity.specs.Context.{Context, after, after_all, named_in, named_in_data, with_functions}
use Rattle.wasm_validity.specs.Entries.{Entry, OfCustom, OfBody, OfData}
use Rattle.wasm_validity.specs.Rules.{FitsMemory, KeepRules, KeepsData, index_type}
use Rattle.wasmparser_validator.proofs.NumberExpressions.{is_reference, number_names_none}
use Rattle.wasmparser_validator.specs.LaterEntries.{IsLater}

address_is_number : (is_64 : Bool) → is_reference (index_type is_64) ≡ false
address_is_number true = refl
address_is_number false = refl

offset_names_none : (features : Features) (cx : Context) (offset : ConstantExpression) (memory : Option MemoryType) → FitsMemory features cx offset memory → named_in offset ≡ []
offset_names_none features cx offset None fits = absurd fits
offset_names_none features cx offset (Some memory) fits = number_names_none features cx (index_type memory.is_64) (address_is_number memory.is_64) offset fits

data_names_none : (features : Features) (cx : Context) (mode : DataMode) → KeepsData features cx mode → named_in_data mode ≡ []
data_names_none features cx (ActiveData memory offset) keeps = offset_names_none features cx offset (slice_get cx.memories (unwrap_or memory 0)) keeps
data_names_none features cx PassiveData keeps = refl

abbrev with_segments : Context → ℕ → Context
with_segments cx segments = record cx { segments = segments }

-- Only the number of data segments differs, which bodies don't see: they see the data count.
later_segments : (features : Features) (cx : Context) (entries : List Entry) → KeepRules features cx entries → AllByRecursion IsLater entries → (segments : ℕ) × (after_all cx entries ≡ with_segments cx segments)
later_segments features cx [] keep later = (cx.segments, refl)
later_segments features cx (OfCustom name ∷ entries) keep later = later_segments features cx entries keep.1 later.1
later_segments features cx (OfBody body ∷ entries) keep later = later_segments features cx entries keep.1 later.1
later_segments features cx (OfData segment ∷ entries) keep later =
    let (segments, e) = later_segments features (after cx (OfData segment)) entries keep.1 later.1 in
    (segments, e ∙ ap (λ names. record cx { segments = segments; declared = with_functions cx.declared names }) (data_names_none features cx segment.mode keep.0))
later_segments features cx (_ ∷ entries) keep later = absurd later.0

pub later_is : (features : Features) (cx : Context) (entries : List Entry) → KeepRules features cx entries → AllByRecursion IsLater entries → after_all cx entries ≡ record cx { segments = (after_all cx entries).segments }
later_is features cx entries keep later =
    let (segments, e) = later_segments features cx entries keep later in
    e ∙ ap (with_segments cx) (sym (ap (λ (a : Context). a.segments) e))
