-- The encodings of bodies.
use Rattle.std.proofs.Common.{◌≡◌, ℕ, suc, ◌≤◌, List, [], ◌∷◌, ◌++◌, length, map, Option, Some, None, is_some, refl, sym, subst, ap, ◌∙◌, arith, length-append}
use Rattle.std.specs.List.{AllByRecursion}
use Rattle.wasm_encoder_bodies.specs.Locals.{locals_encoding}
use Rattle.wasm_spec.specs.Bytes.{IsByte, AreBytes}
use Rattle.wasm_spec.specs.Shortest.{framed_encoding}
use Rattle.wasm_spec.specs.SmallIndexes.{IsSmallValue}
use Rattle.wasm_spec.specs.Types.{ValType}
use Rattle.wasm_spec.proofs.ListEncodings.{framed_length}
use Rattle.wasm_spec.proofs.UnsignedEncodings.{at_most_five}
use Rattle.wasm_smith_sections.specs.ModuleEncoding.{as_run, IsBodyEncoding, AreBodyEncodings}
use Rattle.wasm_smith_module.specs.Measured.{AreShort, IsShortRaw}
use Rattle.wasm_smith_validity.specs.Made.{MadeBody}
use Rattle.wasm_smith_validity.specs.MadeBodies.{AreMadeBodies, IsMadeBody, code_of}
use Rattle.wasm_spec.specs.Limits.{BodySize, most}
use Rattle.wasm_gen_sessions.proofs.Forms.{all_append}
use Rattle.wasm_gen_sessions.proofs.RunEncodings.{are_merged, locals_are, runs_encoding_is, runs_bytes, runs_length}

-- the types of few locals, whose references are small
abbrev pub AreFewSmall : List (ValType ℕ) → Type 0
AreFewSmall locals = (length locals ≤ 100) × AllByRecursion IsSmallValue locals

-- bytes, and not many
abbrev pub IsShortBody : List ℕ → Type 0
IsShortBody body = AreBytes body × (length body ≤ 1107)

short : (made : MadeBody) (body : List ℕ) → AreFewSmall made.locals → made.raw ≡ None → IsBodyEncoding made body → IsShortBody body
short made body h none is =
    let runs = locals_encoding (map as_run is.runs) in
    let end : List ℕ = 0x00 ∷ 0x0b ∷ [] in
    let bytes : body ≡ runs ++ end = is.is ∙ ap (λ raw. runs ++ code_of raw) none in
    subst (λ l. IsShortBody l) (sym bytes) (
      all_append IsByte runs end (runs_bytes made.locals is.runs is.joined h.1 h.0) (omega arith, (omega arith, tt)),
      omega (arith, runs_length made.locals is.runs is.joined h.1 h.0, length-append runs end),
    )

-- few locals with small references, and no raw bytes
abbrev pub IsFewSmall : MadeBody → Type 0
IsFewSmall made = AreFewSmall made.locals × (made.raw ≡ None)

pub bodies_short : (made : List MadeBody) (bodies : List (List ℕ)) → AllByRecursion IsFewSmall made → AreBodyEncodings made bodies → AllByRecursion IsShortBody bodies
bodies_short [] [] h are = tt
bodies_short [] (body ∷ bodies) h are = absurd are
bodies_short (first ∷ others) [] h are = absurd are
bodies_short (first ∷ others) (body ∷ bodies) h are = (short first body h.0.0 h.0.1 are.0, bodies_short others bodies h.1 are.1)

-- a body has one encoding
abbrev pub OneBodyLaw : Type 0
OneBodyLaw = (made : MadeBody) (encoding other : List ℕ) → IsBodyEncoding made encoding → IsBodyEncoding made other → encoding ≡ other

within_limit : OneBodyLaw → (made : MadeBody) (body : List ℕ) (raw : Option (List ℕ)) → made.raw ≡ raw → AreFewSmall made.locals → IsShortRaw made → IsBodyEncoding made body
    → length body ≤ most BodySize
within_limit one made body None e h short_raw is = let few = short made body h e is in omega (arith, few.1)
within_limit one made body (Some bytes) e h short_raw is =
    let (encoding, encodes, few) = short_raw (ap is_some e) in
    let same = one made body encoding is encodes in
    omega (arith, ap length same, few)

-- no body is too long, where no raw one is
pub bodies_within : OneBodyLaw → (made : List MadeBody) (bodies : List (List ℕ)) → AllByRecursion (λ body. AreFewSmall body.locals) made → AllByRecursion IsShortRaw made
    → AreBodyEncodings made bodies → AreShort bodies
bodies_within one [] [] h raw are = tt
bodies_within one [] (body ∷ bodies) h raw are = absurd are
bodies_within one (first ∷ others) [] h raw are = absurd are
bodies_within one (first ∷ others) (body ∷ bodies) h raw are =
    (within_limit one first body first.raw refl h.0 raw.0 are.0, bodies_within one others bodies h.1 raw.1 are.1)

pub entry_length : (body : List ℕ) → IsShortBody body → length (framed_encoding body) ≤ 1112
entry_length body h = omega (arith, h.1, framed_length body, at_most_five (length body) (omega (arith, h.1)))

body_is : (made : MadeBody) (body : List ℕ) → AreFewSmall made.locals → IsBodyEncoding made body → IsMadeBody made body
body_is made body h is = record {
  runs = map as_run is.runs;
  encoding = locals_encoding (map as_run is.runs);
  is = is.is;
  declared = runs_encoding_is made.locals is.runs is.joined h.1 h.0;
  merged = are_merged made.locals is.runs is.joined;
  locals_are = locals_are made.locals is.runs is.joined;
}

pub bodies_are : (made : List MadeBody) (bodies : List (List ℕ)) → AllByRecursion (λ body. AreFewSmall body.locals) made → AreBodyEncodings made bodies → AreMadeBodies made bodies
bodies_are [] [] h are = tt
bodies_are [] (body ∷ bodies) h are = absurd are
bodies_are (first ∷ others) [] h are = absurd are
bodies_are (first ∷ others) (body ∷ bodies) h are = (body_is first body h.0 are.0, bodies_are others bodies h.1 are.1)

pub as_many_bodies : (made : List MadeBody) (bodies : List (List ℕ)) → AreBodyEncodings made bodies → length bodies ≡ length made
as_many_bodies [] [] are = refl
as_many_bodies [] (body ∷ bodies) are = absurd are
as_many_bodies (first ∷ others) [] are = absurd are
as_many_bodies (first ∷ others) (body ∷ bodies) are = ap suc (as_many_bodies others bodies are.1)
