-- Data segments: where they may be put, and how long they are together.
use Rattle.std.specs.Prelude.{ℕ, ◌+◌, List, [], ◌∷◌, length}
use Rattle.wasm_spec.specs.Features.{Features}
use Rattle.wasm_spec.specs.Syntax.{DataMode, DataSegment}
use Rattle.wasm_smith_config.specs.Config.{AreFeaturesOf}
use Rattle.wasm_smith_config.specs.declared.config.Config.{Config}
use Rattle.wasm_smith_validity.specs.Rules.{KeepsData}
use Rattle.wasm_smith_validity.specs.Spaces.{Spaces}

-- a mode keeps its rule under the features of a configuration
abbrev pub KeepsMode : Config → Spaces → DataMode → Type 0
KeepsMode c spaces mode = (features : Features) → AreFeaturesOf c features → KeepsData features spaces mode

-- the bytes of all segments
abbrev pub total_size : List DataSegment → ℕ
total_size [] = 0
total_size (segment ∷ segments) = length segment.contents + total_size segments
