-- What refusals are called, and which of them readers answer.
use Rattle.std.specs.Prelude.{◌≡◌, ℕ, List, codes}
use Rattle.wasmparser_error.specs.declared.error.ErrorKind.{ErrorKind}
use Rattle.wasmparser_error.specs.declared.error.ErrorKind.TheVariants.{Malformed, Invalid, Limit, Operator, Body, Total, Order, Failed, Memory}

-- the kind in lower case
abbrev pub kind_name : ErrorKind → List ℕ
kind_name Malformed = codes "malformed"
kind_name Invalid = codes "invalid"
kind_name (Limit _) = codes "limit"
kind_name Operator = codes "operator"
kind_name Body = codes "body"
kind_name Total = codes "total"
kind_name Order = codes "order"
kind_name Failed = codes "failed"
kind_name Memory = codes "memory"

-- where an error is after it was placed: at the offset if memory ran out, else where it was
abbrev pub placed : ErrorKind → ℕ → ℕ → ℕ
placed Memory offset was = offset
placed _ offset was = was

-- a reader's refusal: bytes that don't read, or memory ran out, at 0 until a caller places it
abbrev pub IsRefusal : ErrorKind → ℕ → Type 0 → Type 0
IsRefusal Malformed offset unread = unread
IsRefusal Memory offset unread = offset ≡ 0
IsRefusal _ offset unread = ⊥
