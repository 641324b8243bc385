-- Ties a call's result to the generator's.
use Rattle.std.proofs.Common.{◌≡◌, ℕ, Bool, List, length, nat_le, Ok, Err, ap, refl, sym, ◌∙◌, if◌then◌else◌}
use Rattle.wasm_gen_sessions.specs.Asked.{MakesLists, RefusesRightly}
use Rattle.wasm_gen_sessions.specs.Generate.{IsGeneratedFrom, IsCause}
use Rattle.wasm_gen_sessions.specs.declared.error.GenerateError.{GenerateError}
use Rattle.wasm_smith.specs.Config.{sanitized}
use Rattle.wasm_smith.specs.Parts.{Config}
use Rattle.wasm_gen_c_api.specs.Buffers.{buffer_with}
use Rattle.wasm_gen_c_api.specs.Codes.{refusal_code, short_buffer, yes}
use Rattle.wasm_gen_c_api.specs.Generate.{IsWritten}

-- a module was made, is lent as a slice, and is written where it fits
pub made : (c : Config) (seed bytes lent old new : List ℕ) (len : ℕ) (fits : Bool) → IsGeneratedFrom (sanitized c) seed bytes → MakesLists (sanitized c) seed bytes
    → lent ≡ bytes → length lent ≡ len → new ≡ buffer_with lent old → fits ≡ nat_le (length lent) (length old) → IsWritten c seed old new len (if fits then yes else short_buffer)
made c seed bytes lent old new len fits generated lists same len_is new_is fitting = record {
  answer = Ok bytes;
  answered = record { generated = generated; lists = lists; cause = tt; rightly = tt };
  told = ap (λ fits. if fits then yes else short_buffer) (fitting ∙ ap (λ (bytes : List ℕ). nat_le (length bytes) (length old)) same);
  needed = sym len_is ∙ ap length same;
  buffer = new_is ∙ ap (λ bytes. buffer_with bytes old) same;
}

-- none was, for this reason
pub refused : (c : Config) (seed old : List ℕ) (e : GenerateError) (code : ℕ) → IsCause (sanitized c) seed e → RefusesRightly (sanitized c) seed e
    → code ≡ refusal_code e → IsWritten c seed old old 0 code
refused c seed old e code cause rightly is = record {
  answer = Err e;
  answered = record { generated = tt; lists = tt; cause = cause; rightly = rightly };
  told = is;
  needed = refl;
  buffer = refl;
}
