-- Data segments keep their rule under the features of a configuration, and are no longer than the bytes that they are made of.
use Rattle.std.proofs.Common.{◌≡◌, ℕ, zero, suc, ◌+◌, ◌<◌, Bool, true, false, List, [], ◌∷◌, ◌++◌, length, refl, ◌∙◌, arith, Some, None, slice_get}
use Rattle.std.specs.Int.{from_bool}
use Rattle.std.specs.Option.{unwrap_or}
use Rattle.wasm_spec.specs.Constants.{ConstantExpression}
use Rattle.wasm_spec.specs.Features.{BulkMemory}
use Rattle.wasm_spec.specs.Syntax.{ActiveData, PassiveData, DataSegment}
use Rattle.wasm_spec.specs.Types.{MemoryType}
use Rattle.wasm_spec.proofs.Places.{get_some}
use Rattle.wasm_smith_config.specs.declared.config.Config.{Config}
use Rattle.wasm_smith_definitions.specs.Constants.{Gives}
use Rattle.wasm_smith_definitions.specs.Items.{written_memory}
use Rattle.wasm_smith_module.specs.Data.{KeepsMode, total_size}
use Rattle.wasm_smith_validity.specs.Rules.{index_type}
use Rattle.wasm_smith_validity.specs.Spaces.{Spaces}

pub written_back : (memory : ℕ) → unwrap_or (written_memory memory) 0 ≡ memory
written_back zero = refl
written_back (suc memory) = refl

none_is_some : {A : Type 0} (x : A) → None ≡ Some x → ⊥
none_is_some x e = cc

pub active_data : (c : Config) (k : Spaces) (memory : ℕ) (type : MemoryType) (offset : ConstantExpression) → slice_get k.memories memory ≡ Some type → Gives c k (index_type type.is_64) offset
    → KeepsMode c k (ActiveData (written_memory memory) offset)
active_data c k memory type offset at gives features f = rw (written_back memory, at) (gives features f)

pub passive_data : (c : Config) (k : Spaces) → c.bulk_memory_enabled ≡ true → KeepsMode c k PassiveData
passive_data c k bulk features f = f BulkMemory ∙ bulk

-- where a drawn index is that of no memory there is bulk memory
pub bulk_on : (bulk : Bool) (memories : List MemoryType) (index others : ℕ) → others ≡ from_bool bulk → index < length memories + others → None ≡ slice_get memories index → bulk ≡ true
bulk_on true memories index others offered lt none = refl
bulk_on false memories index others offered lt none =
    let within : index < length memories = omega arith in
    let at = get_some memories index within in absurd (none_is_some at.0 (none ∙ at.1))

pub total_more : (segments : List DataSegment) (segment : DataSegment) → total_size (segments ++ segment ∷ []) ≡ total_size segments + length segment.contents
total_more [] segment = omega arith
total_more (first ∷ segments) segment = omega (arith, total_more segments segment)
