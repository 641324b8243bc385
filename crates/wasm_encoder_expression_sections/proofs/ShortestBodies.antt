-- What is written of bodies is their shortest encoding, whatever their bytes.
use Rattle.std.proofs.Common.{◌≡◌, ℕ, ◌^◌, ◌<◌, Bool, List, length, refl, ap, arith, length-append}
use Rattle.std.specs.List.{AllByRecursion}
use Rattle.wasm_spec.specs.Bytes.{AreBytes, IsShortest}
use Rattle.wasm_spec.specs.Grammar.{IsContent}
use Rattle.wasm_spec.specs.ModuleParts.{IsBody}
use Rattle.wasm_spec.specs.Shortest.{unsigned_encoding, list_encoding, framed_encoding}
use Rattle.wasm_spec.specs.Syntax.{CodeSection}
use Rattle.wasm_spec.proofs.NumberLaws.{unsigned_spelled, unsigned_shortest}
use Rattle.wasm_spec.proofs.ShortestForms.{list, HasSome, WritesShortest}
use Rattle.wasm_spec.proofs.UnsignedEncodings.{some_bytes}

pub body : WritesShortest IsBody framed_encoding AreBytes
unfolding framed_encoding
body bytes are short =
    let both = length-append (unsigned_encoding (length bytes)) bytes in
    record {
      encodes = (unsigned_encoding (length bytes), bytes, refl, unsigned_spelled 32 (length bytes) (omega (arith, short, both)), (are, refl));
      shortest = λ other h.
          let same = h.4 in
          let size = unsigned_shortest 32 (length h.1) h.0 h.3 in
          let long : length bytes ≡ length h.1 = ap length same.1 in
          let first : length (unsigned_encoding (length bytes)) ≡ length (unsigned_encoding (length h.1)) = ap (λ n. length (unsigned_encoding n)) long in
          omega (arith, both, ap length h.2, length-append h.0 h.1, size, long, first);
    }

some_body : HasSome framed_encoding
unfolding framed_encoding
some_body bytes = omega (arith, some_bytes (length bytes), length-append (unsigned_encoding (length bytes)) bytes)

pub bodies : (compact : Bool) (items : List (List ℕ)) → AllByRecursion AreBytes items → length (list_encoding framed_encoding items) < 2 ^ 32
    → IsShortest (IsContent compact) (list_encoding framed_encoding items) (CodeSection items)
bodies compact items are short =
    let s = list IsBody framed_encoding AreBytes some_body body items are short in
    record { encodes = s.encodes; shortest = λ other h. s.shortest other h }
