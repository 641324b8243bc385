-- The encodings of bodies are bytes.
use Rattle.std.proofs.Common.{◌≡◌, ℕ, zero, suc, pos, ◌≤◌, ◌<◌, ◌^◌, true, false, List, [], ◌∷◌, length, map, replicate, Option, Some, None, refl, sym, subst, ap, inl, inr, arith}
use Rattle.std.specs.List.{AllByRecursion}
use Rattle.std.proofs.lemmas.List.{length-map}
use Rattle.wasm_bodies.specs.Bodies.{Run}
use Rattle.wasm_encoder_bodies.specs.Locals.{expansion, locals_encoding, run_encoding}
use Rattle.wasm_smith_sections.specs.ModuleEncoding.{as_run, AreBodyEncodings, IsBodyEncoding}
use Rattle.wasm_smith_sections.specs.SmallModules.{IsSmallBody, IsSmallRaw}
use Rattle.wasm_smith_validity.specs.Made.{MadeBody}
use Rattle.wasm_smith_validity.specs.MadeBodies.{code_of}
use Rattle.wasm_smith_sections.proofs.Forms.{all_append, all_behind, list_bytes, number_bytes}
use Rattle.wasm_spec.specs.Bytes.{IsByte, AreBytes}
use Rattle.wasm_spec.specs.Shortest.{unsigned_encoding, signed_encoding}
use Rattle.wasm_spec.specs.SmallIndexes.{IsSmallValue}
use Rattle.wasm_spec.specs.TypeEncodings.{heap_encoding, ref_encoding, val_encoding}
use Rattle.wasm_spec.specs.TypeGrammar.{heap_code, IsValType}
use Rattle.wasm_spec.specs.Types.{Abstract, Concrete, ValType, I32, I64, F32, F64, V128, Ref}
use Rattle.wasm_spec.proofs.NumberLaws.{positive_spelled}
use Rattle.wasm_spec.proofs.TypeBytes.{of_val_type}

-- ---- value types

pub value_is : (type : ValType ℕ) → IsSmallValue type → IsValType (val_encoding type) type
unfolding val_encoding ref_encoding heap_encoding
value_is I32 h = refl
value_is I64 h = refl
value_is F32 h = refl
value_is F64 h = refl
value_is V128 h = refl
value_is (Ref true (Abstract heap)) h = inr refl
value_is (Ref true (Concrete index)) h = inl (signed_encoding (pos index), refl, positive_spelled 33 index h)
value_is (Ref false (Abstract heap)) h = (heap_code heap ∷ [], refl, refl)
value_is (Ref false (Concrete index)) h = (signed_encoding (pos index), refl, positive_spelled 33 index h)

-- ---- runs

abbrev pub IsSmallRun : Run → Type 0
IsSmallRun run = (run.count < 2 ^ 32) × IsSmallValue run.type

run_bytes : (run : Run) → IsSmallRun run → AreBytes (run_encoding run)
unfolding run_encoding
run_bytes run h =
    all_append IsByte (unsigned_encoding run.count) (val_encoding run.type) (number_bytes run.count h.0) (of_val_type (val_encoding run.type) run.type (value_is run.type h.1))

pub small_runs : (runs : List (ℕ × ValType ℕ)) → AllByRecursion IsSmallValue (expansion runs) → AllByRecursion (λ run. 1 ≤ run.0) runs → AllByRecursion (λ run. run.0 < 2 ^ 32) runs
    → AllByRecursion IsSmallRun (map as_run runs)
small_runs [] small some short = tt
small_runs ((zero, type) ∷ runs) small some short = absurd (omega (arith, some.0))
small_runs ((suc count, type) ∷ runs) small some short =
    ((short.0, small.0), small_runs runs (all_behind IsSmallValue (replicate count type) (expansion runs) small.1) some.1 short.1)

-- ---- bodies

code_bytes : (raw : Option (List ℕ)) → IsSmallRaw raw → AreBytes (code_of raw)
code_bytes None small = (omega arith, (omega arith, tt))
code_bytes (Some raw) small = small

body_bytes : (made : MadeBody) (body : List ℕ) → IsSmallBody made → IsBodyEncoding made body → AreBytes body
body_bytes made body small is =
    let runs = map as_run is.runs in
    let few : length runs < 2 ^ 32 = subst (λ n. n < 2 ^ 32) (sym (length-map is.runs as_run)) is.writable.few in
    let are = small_runs is.runs (subst (λ l. AllByRecursion IsSmallValue l) (sym is.joined.expand) small.0) is.joined.some is.writable.short in
    subst (λ l. AreBytes l) (sym is.is) (all_append IsByte (locals_encoding runs) (code_of made.raw) (list_bytes run_encoding IsSmallRun run_bytes runs are few) (code_bytes made.raw small.1))

pub bodies_bytes : (made : List MadeBody) (bodies : List (List ℕ)) → AllByRecursion IsSmallBody made → AreBodyEncodings made bodies → AllByRecursion AreBytes bodies
bodies_bytes [] [] small are = tt
bodies_bytes [] (body ∷ bodies) small are = absurd are
bodies_bytes (first ∷ others) [] small are = absurd are
bodies_bytes (first ∷ others) (body ∷ bodies) small are = (body_bytes first body small.0 are.0, bodies_bytes others bodies small.1 are.1)

pub as_many_bodies : (made : List MadeBody) (bodies : List (List ℕ)) → AreBodyEncodings made bodies → length bodies ≡ length made
as_many_bodies [] [] are = refl
as_many_bodies [] (body ∷ bodies) are = absurd are
as_many_bodies (first ∷ others) [] are = absurd are
as_many_bodies (first ∷ others) (body ∷ bodies) are = ap (λ n. suc n) (as_many_bodies others bodies are.1)
