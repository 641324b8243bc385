-- Offered imports keep their rule.
use Rattle.std.proofs.Common.{◌≡◌, ℕ, ◌<◌, true, List, length, nat_lt, is_some, ◌∙◌, arith}
use Rattle.std.proofs.lemmas.Bool.{and_from, and_parts}
use Rattle.wasm_spec.specs.Features.{Features, Exceptions}
use Rattle.wasm_spec.specs.Types.{SubType, ExternalType, FuncExternal, TableExternal, MemoryExternal, GlobalExternal, TagExternal, ExternalKind, FuncKind, TagKind, kind_of}
use Rattle.wasm_smith_config.specs.Config.{AreFeaturesOf}
use Rattle.wasm_smith_config.specs.declared.config.Config.{Config}
use Rattle.wasm_smith_definitions.specs.Offered.{HasByteLimits, HasFewTables}
use Rattle.wasm_smith_definitions.proofs.OfferedLaws.{global_keeps, memory_keeps}
use Rattle.wasm_smith_definitions.proofs.TableLaws.{table_keeps}
use Rattle.wasm_smith_definitions.specs.FunctionTypes.{function_indexes, is_function, is_resultless, lacks_results, tag_indexes}
use Rattle.wasm_smith_definitions.specs.Indexes.{index_at}
use Rattle.wasm_smith_definitions.specs.Kinds.{count_of}
use Rattle.wasm_smith_definitions.proofs.FunctionTypeLaws.{IsFunctionAt, IsResultlessAt, function_at, resultless_at, thrown}
use Rattle.wasm_smith_definitions.proofs.IndexLaws.{all_places, index_of}
use Rattle.wasm_smith_validity.specs.Rules.{keeps_item}
use Rattle.wasm_smith_validity.specs.Spaces.{Spaces, func_type_at}
use Rattle.wasm_smith_externs.specs.Bounds.{most_in, most_of}
use Rattle.wasm_smith_externs.specs.Candidates.{IsOfferedImport, can_import, has_type}
use Rattle.wasm_smith_externs.specs.declared.bounds.ImportBounds.{ImportBounds}

-- ---- types of functions and tags

pub function_offered : (types : List (SubType ℕ)) (s t : List ℕ) (index : ℕ) → 0 < length (function_indexes 0 types) → index_at (function_indexes 0 types) s ≡ (index, t) → is_some (func_type_at types index) ≡ true
function_offered types s t index some drawn = function_at types index (index_of (IsFunctionAt types) (function_indexes 0 types) s t index some (all_places (λ type. is_function type.composite_type) types) drawn)

pub tag_offered : (types : List (SubType ℕ)) (s t : List ℕ) (index : ℕ) → 0 < length (tag_indexes 0 types) → index_at (tag_indexes 0 types) s ≡ (index, t) → lacks_results (func_type_at types index) ≡ true
tag_offered types s t index some drawn = resultless_at types index (index_of (IsResultlessAt types) (tag_indexes 0 types) s t index some (all_places (λ type. is_resultless type.composite_type) types) drawn)

-- ---- room

below_of : (i n : ℕ) → nat_lt i n ≡ true → i < n
below_of i n e = grind arith

pub room_from : (c : Config) (b : ImportBounds) (k : Spaces) (kind : ExternalKind) → can_import c b k kind ≡ true → count_of k kind < most_in b kind
room_from c b k kind e = below_of (count_of k kind) (most_in b kind) (and_parts (has_type c k.types kind) (nat_lt (count_of k kind) (most_in b kind)) e).1

pub some_functions : (c : Config) (b : ImportBounds) (k : Spaces) → can_import c b k FuncKind ≡ true → 0 < length (function_indexes 0 k.types)
some_functions c b k e = below_of 0 (length (function_indexes 0 k.types)) (and_parts (nat_lt 0 (length (function_indexes 0 k.types))) _ e).0

pub some_tags : (c : Config) (b : ImportBounds) (k : Spaces) → can_import c b k TagKind ≡ true → (c.exceptions_enabled ≡ true) × (0 < length (tag_indexes 0 k.types))
some_tags c b k e =
    let parts = and_parts c.exceptions_enabled (nat_lt 0 (length (tag_indexes 0 k.types))) (and_parts (has_type c k.types TagKind) _ e).0 in
    (parts.0, below_of 0 (length (tag_indexes 0 k.types)) parts.1)

-- ---- rules

pub offered_keeps : (c : Config) (k : Spaces) (features : Features) (item : ExternalType ℕ) → AreFeaturesOf c features → HasByteLimits c → HasFewTables c
    → count_of k (kind_of item) < most_of c (kind_of item) → IsOfferedImport c k.types item → keeps_item features k item ≡ true
offered_keeps c k features (FuncExternal index) f limits few room h = h
offered_keeps c k features (TableExternal type) f limits few room h = table_keeps c k features (length k.types) type f few room (omega arith) h
offered_keeps c k features (MemoryExternal type) f limits few room h = memory_keeps c k features type f limits room h
offered_keeps c k features (GlobalExternal type) f limits few room h = global_keeps c k features (length k.types) type f h (omega arith)
offered_keeps c k features (TagExternal index) f limits few room h = and_from _ _ (f Exceptions ∙ h.0) (thrown features (func_type_at k.types index) h.1)
