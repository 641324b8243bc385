-- The bodies of made modules are well typed, whatever their encodings.
use Rattle.std.proofs.Common.{◌≡◌, ℕ, zero, suc, ◌<◌, ◌≤◌, Bool, true, false, nat_lt, List, [], ◌∷◌, ◌++◌, length, reverse, Option, Some, None, option_map, is_some, slice_get, refl, ap, ◌∙◌, arith}
use Rattle.std.specs.List.{AllByRecursion}
use Rattle.std.proofs.lemmas.Bool.{and_parts}
use Rattle.wasm_bodies.specs.Bodies.{Run, IsWritten, IsFunctionBody, IsBodyOf, simple, done}
use Rattle.wasm_bodies.specs.BodyContext.{BodyContext, ModuleItems, meant, provided, written}
use Rattle.wasm_bodies.specs.Operands.{each_taken, fresh, nothing_known}
use Rattle.wasm_bodies.specs.OperatorGrammar.{IsOperator}
use Rattle.wasm_bodies.specs.Operators.{Unreachable, End}
use Rattle.wasm_spec.specs.Features.{Features}
use Rattle.wasm_spec.specs.Gates.{is_allowed}
use Rattle.wasm_spec.specs.Types.{Abstract, Concrete, ValType, I32, I64, F32, F64, V128, Ref, FuncType, SubType}
use Rattle.wasm_validity.specs.ModuleBodies.{named_from}
use Rattle.wasm_smith_validity.specs.Spaces.{is_named, is_value}
use Rattle.wasm_smith_validity.proofs.MeantTypes.{is_named_value, named_of}
use Rattle.wasm_smith_validity.specs.MadeBodies.{IsMadeBody, code_of}
use Rattle.wasm_smith_validity.specs.Made.{MadeBody}
use Rattle.wasm_smith_validity.proofs.LocalRuns.{counts_are, runs_are}

-- ---- typing

-- an open list supplies whatever is taken
supplied : {R : Type 0} (items : ModuleItems R) (types : List (ValType R)) → each_taken items types (nothing_known (fresh [] [])) ≡ Some (nothing_known (fresh [] []))
supplied items [] = refl
supplied items (type ∷ types) = supplied items types

typed : {R : Type 0} (cx : BodyContext R) → IsBodyOf cx (Unreachable ∷ End ∷ [])
typed {R} cx = record {
  code = simple Unreachable done;
  is_flat = refl;
  typed = (nothing_known (fresh [] []), (nothing_known (fresh [] []), refl, refl), rw (supplied cx.items (reverse cx.results)) refl);
}

-- ---- locals

-- so many type indexes name types
abbrev pub HasTypes : {R : Type 0} → ModuleItems R → ℕ → Type 0
HasTypes items count = (index : ℕ) → nat_lt index count ≡ true → is_some (slice_get items.types index) ≡ true

named_here : (start : ℕ) (types : List (SubType ℕ)) (index : ℕ) → index < length types → is_some (slice_get (named_from start types) index) ≡ true
named_here start [] index below = absurd (omega (arith, below))
named_here start (type ∷ types) zero below = refl
named_here start (type ∷ types) (suc index) below = named_here (suc start) types index (omega (arith, below))

-- the indexes of types as they are written do
pub named_at : (types : List (SubType ℕ)) (index : ℕ) → nat_lt index (length types) ≡ true → is_some (slice_get (named_from 0 types) index) ≡ true
named_at types index e = named_here 0 types index (below index (length types) e)
  where
    below : (i n : ℕ) → nat_lt i n ≡ true → i < n
    below i n e = grind arith

still_some : {A B C : Type 0} (f : A → B) (g : B → C) (o : Option A) → is_some o ≡ true → is_some (option_map g (option_map f o)) ≡ true
still_some f g None e = absurd cc
still_some f g (Some x) e = refl

is_meant : {R : Type 0} (items : ModuleItems R) (types : List (SubType ℕ)) → HasTypes items (length types) → (type : ValType ℕ) → is_named_value types type ≡ true
    → is_some (meant items type) ≡ true
is_meant items types has I32 e = refl
is_meant items types has I64 e = refl
is_meant items types has F32 e = refl
is_meant items types has F64 e = refl
is_meant items types has V128 e = refl
is_meant items types has (Ref nullable (Abstract heap)) e = refl
is_meant items types has (Ref nullable (Concrete index)) e =
    still_some (λ named. Concrete named.reference) (λ heap. Ref nullable heap) (slice_get items.types index) (has index e)

allowed_of : (features : Features) (types : List (SubType ℕ)) (type : ValType ℕ) → is_value features types type ≡ true → is_allowed features type ≡ true
allowed_of features types I32 e = e
allowed_of features types I64 e = e
allowed_of features types F32 e = e
allowed_of features types F64 e = e
allowed_of features types V128 e = e
allowed_of features types (Ref nullable heap) e = (and_parts (is_allowed {R = ℕ} features (Ref nullable heap)) (is_named types heap) e).0

provided_some : {A : Type 0} (condition : Bool) (o : Option A) → condition ≡ true → is_some o ≡ true → is_some (provided condition o) ≡ true
provided_some true o e h = h
provided_some false o e h = absurd cc

is_written : {R : Type 0} (features : Features) (items : ModuleItems R) (types : List (SubType ℕ)) → HasTypes items (length types) → (type : ValType ℕ)
    → is_value features types type ≡ true → is_some (written features items type) ≡ true
is_written features items types has type e =
    provided_some (is_allowed features type) (meant items type) (allowed_of features types type e) (is_meant items types has type (named_of features types type e))

are_written : {R : Type 0} (features : Features) (items : ModuleItems R) (types : List (SubType ℕ)) → HasTypes items (length types) → (runs : List Run)
    → AllByRecursion (λ run. is_value features types run.type ≡ true) runs → AllByRecursion (IsWritten features items) runs
are_written features items types has [] h = tt
are_written features items types has (run ∷ runs) h = (is_written features items types has run.type h.0, are_written features items types has runs h.1)

-- ---- bodies

unreachable : (features : Features) → IsOperator features (0x00 ∷ []) Unreachable
unreachable features = (0x00 ∷ [], [], refl, (refl, omega arith, refl), refl)

end : (features : Features) → IsOperator features (0x0b ∷ []) End
end features = (0x0b ∷ [], [], refl, (refl, omega arith, refl), refl)

-- in any module with so many types
pub body_is_typed : {R : Type 0} (features : Features) (items : ModuleItems R) (types : List (SubType ℕ)) (type : FuncType R) (made : MadeBody) (body : List ℕ)
    → HasTypes items (length types) → length type.params ≤ 1000 → length made.locals ≤ 100 → AllByRecursion (λ local. is_value features types local ≡ true) made.locals
    → made.raw ≡ None → IsMadeBody made body → IsFunctionBody features items type body
body_is_typed features items types type made body has few_params few valid none b = record {
  runs = b.runs;
  operators = Unreachable ∷ End ∷ [];
  locals_encoding = b.encoding;
  code_encoding = 0x00 ∷ 0x0b ∷ [];
  begins = b.is ∙ ap (λ raw. b.encoding ++ code_of raw) none;
  locals = record {
    declared = b.declared;
    written = are_written features items types has b.runs (runs_are (λ local. is_value features types local ≡ true) made body b valid);
    within = λ h. omega (arith, few_params, few, h, counts_are b.runs, ap length b.locals_are);
  };
  spelled = (0x00 ∷ [], 0x0b ∷ [], refl, unreachable features, (0x0b ∷ [], [], refl, end features, refl));
  typed = typed _;
}
