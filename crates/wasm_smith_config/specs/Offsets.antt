-- Weights of the offsets of memory accesses, and their texts.
use Rattle.std.specs.Prelude.{ℕ, ◌^◌, ◌&&◌, ◌==◌, List, Option, Some, None, length, nat_lt, if◌then◌else◌}
use Rattle.std.specs.List.{before_first, after_first}
use Rattle.std.specs.Str.{all_ascii_digits}
use Rattle.std.specs.Str.Parse.{digits_value}
use Rattle.wasm_smith_config.specs.declared.memory_offset_choices.MemoryOffsetChoices.{MemoryOffsetChoices}

-- the weights where nothing else is said
abbrev pub default_choices : MemoryOffsetChoices
default_choices = record { 0 = 90; 1 = 9; 2 = 1 }

-- the number that a text of one decimal digit or more writes, if it fits into 32 bits
unfoldable pub number_at : List ℕ → Option ℕ
number_at text = if all_ascii_digits text && nat_lt 0 (length text) && nat_lt (digits_value 10 text) (2 ^ 32) then Some (digits_value 10 text) else None

-- the weights, if each is there
abbrev pub choices_of : Option ℕ → Option ℕ → Option ℕ → Option MemoryOffsetChoices
choices_of (Some first) (Some second) (Some third) = Some (record { 0 = first; 1 = second; 2 = third })
choices_of None second third = None
choices_of (Some first) None third = None
choices_of (Some first) (Some second) None = None

-- what stands before the first comma of a text, and what stands after it: nothing, and so no number, where there is none
abbrev pub front : List ℕ → List ℕ
front text = before_first (λ b. b == 44) text

abbrev pub rest : List ℕ → List ℕ
rest text = after_first (λ b. b == 44) text

-- the weights that three numbers write, parted by commas
unfoldable pub choices_at : List ℕ → Option MemoryOffsetChoices
choices_at text = choices_of (number_at (front text)) (number_at (front (rest text))) (number_at (rest (rest text)))
