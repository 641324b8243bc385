-- What a reader has still to read, where that stands in the whole input, and the features under which operators are read.
use Rattle.std.specs.Prelude.{◌≡◌, ℕ, ◌+◌, ◌≤◌, List, length}
use Rattle.wasm_spec.specs.Features.{Features}

pub record Input : Type 0 where
  pub rest : List ℕ
  pub position : ℕ
  pub features : Features

-- where the input ends
abbrev pub end : Input → ℕ
end i = i.position + length i.rest

-- the reader has gone on in the same input
pub record GoesOn (old new : Input) : Type 0 where
  pub forward : old.position ≤ new.position
  pub same_end : end new ≡ end old
  pub same_features : new.features ≡ old.features

-- the place is that of a byte not yet read, or the end of the input
pub record IsWithin (old : Input) (offset : ℕ) : Type 0 where
  pub from : old.position ≤ offset
  pub to : offset ≤ end old
