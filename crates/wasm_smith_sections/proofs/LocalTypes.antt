-- The bodies of functions with some locals, from the types of these.
use Rattle.std.proofs.Common.{◌≡◌, ℕ, zero, suc, ◌<◌, ◌≤◌, ◌^◌, List, [], ◌∷◌, ◌++◌, length, map, drop, get_or, Option, Some, None, refl, sym, ap, ◌∙◌, subst, arith, inl, inr, append_assoc}
use Rattle.std.specs.Iterator.{Drains, Yields, YieldsThen}
use Rattle.std.proofs.lemmas.Iterator.{YieldsList, items_from_drains}
use Rattle.std.proofs.lemmas.Iterator.Consumers.{YieldsList-so_far}
use Rattle.std.proofs.Math.ListN.{drop_of_length-le}
use Rattle.std.proofs.lemmas.List.{append-nil, map-append, map-id, take-append-drop}
use Rattle.wasm_core_types.specs.CoreTypes.{val_type}
use Rattle.wasm_core_types.specs.declared.types.ValType.{ValType}
use Rattle.wasm_encoder_bodies.specs.Locals.{run_of, locals_encoding, AreRunsOf, AreWritable, PassLength}
use Rattle.wasm_encoder_instructions.specs.Instructions.{instruction_encoding}
use Rattle.wasm_encoder_instructions.specs.OperatorEncodings.{operator_encoding, code_encoding}
use Rattle.wasm_encoder_instructions.specs.declared.instruction.Instruction.TheVariants as instructions
use Rattle.wasm_smith_definitions.specs.Items.{made_body}
use Rattle.wasm_smith_definitions.specs.declared.code.Code.{Code}
use Rattle.wasm_smith_validity.specs.MadeBodies.{code_of}
use Rattle.wasm_smith_sections.specs.ModuleEncoding.{IsBodyEncoding, AreBodyEncodings, HasLongFront, SomeHaveLongFront}
use Rattle.wasm_smith_sections.proofs.CodeTypes.{same_type}
use Rattle.wasm_smith_sections.proofs.SeenRuns.{seen, runs_seen, are_runs, pass_length, writable}

-- ---- what an iterator gave of a list

pub drained : {S A : Type 0} {steps : S → Option A → S → Type 0} {s : S} {all : List A} → YieldsList steps (λ x. x) s all → (xs : List A) → Drains steps s xs → xs ≡ all
drained e xs d = sym (map-id xs) ∙ items_from_drains xs (d.1.0, d.1.1, λ w. (d.0, d.1.2)) e

one_more_taken : {S A : Type 0} (steps : S → Option A → S → Type 0) (xs : List A) (x : A) (s t u : S) → Yields steps s xs t → steps t (Some x) u → Yields steps s (xs ++ x ∷ []) u
one_more_taken steps [] x s t u a b = (u, subst (λ k. steps k (Some x) u) (sym a) b, refl)
one_more_taken steps (y ∷ ys) x s t u a b = (a.0, a.1, one_more_taken steps ys x a.0 t u a.2 b)

pub begun : {S A : Type 0} {steps : S → Option A → S → Type 0} {s : S} {all : List A} → YieldsList steps (λ x. x) s all → (xs : List A) (x : A) (u : S)
    → YieldsThen steps s xs (Some x) u → (rest : List A) × (all ≡ (xs ++ x ∷ []) ++ rest)
begun {steps = steps} {s = s} {all = all} e xs x u y =
    let front = xs ++ x ∷ [] in
    let taken = sym (map-id front) ∙ YieldsList-so_far e front u (one_more_taken steps xs x s y.0 u y.1 y.2) in
    (drop (length front) all, sym (take-append-drop (length front) all) ∙ ap (λ l. l ++ drop (length front) all) (sym taken))

-- ---- of locals

-- the body of locals, from the types that an iterator gave
with_code : (locals types : List ValType) (runs : List (ℕ × ValType)) (bytes : List ℕ) (raw : Option (List ℕ)) → types ≡ locals → AreRunsOf types runs → AreWritable runs
    → bytes ≡ locals_encoding (map run_of runs) → IsBodyEncoding (record { locals = map val_type locals; raw = raw }) (bytes ++ code_of raw)
with_code locals types runs bytes raw all are short is = record {
  runs = map (seen val_type) runs;
  joined = subst (λ l. AreRunsOf (map val_type l) (map (seen val_type) runs)) all (are_runs val_type same_type types runs are);
  writable = writable val_type runs short;
  is = ap (λ l. l ++ code_of raw) (is ∙ ap locals_encoding (runs_seen runs));
}

pub body_of : (locals types : List ValType) (runs : List (ℕ × ValType)) (bytes : List ℕ) → types ≡ locals → AreRunsOf types runs → AreWritable runs → bytes ≡ locals_encoding (map run_of runs)
    → IsBodyEncoding (record { locals = map val_type locals; raw = None }) ((bytes ++ 0x00 ∷ []) ++ 0x0b ∷ [])
body_of locals types runs bytes all are short is =
    subst (IsBodyEncoding (record { locals = map val_type locals; raw = None })) (sym (append_assoc bytes (0x00 ∷ []) (0x0b ∷ []))) (with_code locals types runs bytes None all are short is)

pub raw_body_of : (locals types : List ValType) (runs : List (ℕ × ValType)) (bytes raw : List ℕ) → types ≡ locals → AreRunsOf types runs → AreWritable runs
    → bytes ≡ locals_encoding (map run_of runs) → IsBodyEncoding (record { locals = map val_type locals; raw = Some raw }) (bytes ++ raw)
raw_body_of locals types runs bytes raw all are short is = with_code locals types runs bytes (Some raw) all are short is

pub long_front : (locals front rest : List ValType) → locals ≡ front ++ rest → PassLength front → HasLongFront (map val_type locals)
long_front locals front rest is pass = (
  map val_type front,
  map val_type rest,
  ap (map val_type) is ∙ map-append val_type front rest,
  pass_length val_type same_type front pass,
)

-- some of these have it where those at a place do
pub some_at : (bodies : List Code) (i : ℕ) (own : Code) → i < length bodies → own ≡ get_or bodies i own → HasLongFront (made_body own).locals → SomeHaveLongFront (map made_body bodies)
some_at [] i own within is h = absurd (omega (arith, within))
some_at (first ∷ others) zero own within is h = inl (subst (λ (code : Code). HasLongFront (made_body code).locals) is h)
some_at (first ∷ others) (suc i) own within is h = inr (some_at others i own (omega (arith, within)) is h)

-- bodies of all, when none are left
pub all_bodies : (made : List Code) (i : ℕ) (bodies : List (List ℕ)) → length made ≤ i
    → ((rest : List (List ℕ)) → AreBodyEncodings (map made_body (drop i made)) rest → AreBodyEncodings (map made_body made) (bodies ++ rest)) → AreBodyEncodings (map made_body made) bodies
all_bodies made i bodies all kept =
    let none = subst (λ (l : List Code). AreBodyEncodings (map made_body l) []) (sym (drop_of_length-le made all)) tt in
    subst (λ l. AreBodyEncodings (map made_body made) l) (append-nil bodies) (kept [] none)

-- ---- the code of a body that never goes on

pub unreachable_code : instruction_encoding instructions.Unreachable ≡ 0x00 ∷ []
unfolding instruction_encoding operator_encoding code_encoding
unreachable_code = refl

pub end_code : instruction_encoding instructions.End ≡ 0x0b ∷ []
unfolding instruction_encoding operator_encoding code_encoding
end_code = refl

-- what is short isn't too long
pub short_code : (code : List ℕ) (byte : ℕ) → code ≡ byte ∷ [] → 2 ^ 32 ≤ length code → ⊥
short_code code byte is long = omega (arith, long, ap length is)
