-- Bytes written into a caller's buffer.
use Rattle.std.specs.Prelude.{ℕ, List, ◌++◌, drop, length, nat_le, if◌then◌else◌}

-- the buffer after these bytes were to be written at its front: they are where they fit, and else nothing is
abbrev pub buffer_with : (bytes buffer : List ℕ) → List ℕ
buffer_with bytes buffer = if nat_le (length bytes) (length buffer) then bytes ++ drop (length bytes) buffer else buffer
