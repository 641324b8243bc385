use Rattle.std.proofs.Common.{◌≡◌, ◌≤◌, ℕ, List, [], ◌∷◌, ◌++◌, length, refl, sym, arith, inl}
use Rattle.wasm_bodies.specs.Bodies.{IsBodyOf, IsRun, Run, block, done, in_function, local_count}
use Rattle.wasm_bodies.specs.Operands.{fresh, nothing_known}
use Rattle.wasm_bodies.specs.OperatorRows.{Byte}
use Rattle.wasm_bodies.specs.Operators.{Block, Drop, Empty, End, Unreachable}
use Rattle.wasm_bodies.specs.Signatures.{from_to}
use Rattle.wasm_bodies.proofs.Judging.{is_kept}
use Rattle.wasm_bodies.proofs.OtherCodes.{number_once}
use Rattle.wasm_spec.proofs.WrongEncodings.{joined, number_is}
use Rattle.wasm_spec.specs.Bytes.{IsItems, IsU32}
use Rattle.wasm_spec.specs.Features.{default_features}
use Rattle.wasm_spec_examples.specs.BodyExamples.{module_items, straight}
use Rattle.wasm_spec_examples.specs.TypeExamples.{takes}
use Rattle.wasm_spec_examples.proofs.SmallBodies.{after_none, end, no_locals, no_other_drop, no_other_end, unreachable}
use Rattle.wasm_spec_examples.proofs.SmallOperators.{of_byte}
use Rattle.wasm_spec_examples.proofs.operator_grammar_examples.no_others.Goals as goal

pub returns-clause-empty : goal.returns-clause-empty
returns-clause-empty c = record {
  runs = [];
  operators = End ∷ [];
  locals_encoding = 0x00 ∷ [];
  code_encoding = 0x0b ∷ [];
  begins = refl;
  locals = no_locals;
  spelled = (0x0b ∷ [], [], refl, end, refl);
  typed = record { code = done; is_flat = refl; typed = is_kept (in_function default_features module_items (takes []) []) done refl };
}

pub returns-clause-empty_without_other : goal.returns-clause-empty_without_other
returns-clause-empty_without_other c = λ features h.
    no_other_end features h.code_encoding h.other h.rest h.operators h.spelled h.is_other
    (after_none features module_items (takes []) h.locals_encoding (h.code_encoding ++ (h.other ++ h.rest)) (0x0b ∷ []) h.runs h.locals h.begins)

-- no runs aren't many locals
none : (runs : List Run) → length runs ≤ 0 → local_count {R = ℕ} (takes []) runs ≤ 0
none [] few = omega arith
none (run ∷ runs) few = absurd (omega (arith, few))

pub returns-clause-empty_without_locals : goal.returns-clause-empty_without_locals
returns-clause-empty_without_locals c = λ features h.
    let n = number_is h.count_encoding (h.runs_encoding ++ h.rest) (0x0b ∷ []) 0x00 h.stated h.counted (omega arith) h.begins in
    omega (arith, none h.runs (omega (arith, h.among, n.0)), h.passes)

abbrev dropping : IsBodyOf (in_function default_features module_items (takes []) []) (Unreachable ∷ Drop ∷ End ∷ [])
dropping = record {
  code = straight (Unreachable ∷ Drop ∷ []);
  is_flat = refl;
  typed = is_kept (in_function default_features module_items (takes []) []) (straight (Unreachable ∷ Drop ∷ [])) refl;
}

pub returns-clause-other_after_a_drop : goal.returns-clause-other_after_a_drop
returns-clause-other_after_a_drop c = record {
  runs = [];
  operators = Unreachable ∷ Drop ∷ [];
  labels = [] ∷ [];
  reached = nothing_known (fresh [] []);
  other = 0xfe ∷ [];
  locals_encoding = 0x00 ∷ [];
  code_encoding = 0x00 ∷ 0x1a ∷ [];
  rest = [];
  begins = refl;
  locals = no_locals;
  spelled = (0x00 ∷ [], 0x1a ∷ [], refl, unreachable, (0x1a ∷ [], [], refl, of_byte default_features 0x1a [] Drop refl (omega arith) refl refl, refl));
  begun = record {
    ending = End ∷ [];
    whole = dropping;
    leads = (refl, (nothing_known (fresh [] []), refl, (refl, (nothing_known (fresh [] []), refl, (refl, refl)))));
  };
  is_other = (Byte 0xfe, (refl, omega arith, refl), refl);
}

pub returns-clause-other_after_a_wrong_drop : goal.returns-clause-other_after_a_wrong_drop
returns-clause-other_after_a_wrong_drop c = λ features h.
    no_other_drop features (in_function features module_items (takes []) h.runs) h.code_encoding h.other h.rest (0xfe ∷ []) h.operators h.labels h.reached h.spelled h.is_other h.begun
    (after_none features module_items (takes []) h.locals_encoding (h.code_encoding ++ (h.other ++ h.rest)) (0x1a ∷ 0xfe ∷ []) h.runs h.locals h.begins)

abbrev blocked : IsBodyOf (in_function default_features module_items (takes []) []) (Block Empty ∷ End ∷ End ∷ [])
blocked = record { code = block Empty done done; is_flat = refl; typed = is_kept (in_function default_features module_items (takes []) []) (block Empty done done) refl }

pub returns-clause-other_in_a_block : goal.returns-clause-other_in_a_block
returns-clause-other_in_a_block c = record {
  runs = [];
  operators = Block Empty ∷ [];
  labels = [] ∷ [] ∷ [];
  reached = fresh [] [];
  other = 0xfe ∷ [];
  locals_encoding = 0x00 ∷ [];
  code_encoding = 0x02 ∷ 0x40 ∷ [];
  rest = [];
  begins = refl;
  locals = no_locals;
  spelled = (0x02 ∷ 0x40 ∷ [], [], refl, of_byte default_features 0x02 (0x40 ∷ []) (Block Empty) refl (omega arith) refl refl, refl);
  begun = record {
    ending = End ∷ End ∷ [];
    whole = blocked;
    leads = (refl, (record { signature = from_to [] []; below = fresh [] [] }, refl, inl (refl, refl)));
  };
  is_other = (Byte 0xfe, (refl, omega arith, refl), refl);
}

-- ---- many locals

-- the number of locals that the example states
stated : IsU32 (0xd0 ∷ 0x86 ∷ 0x03 ∷ []) 50000
stated = (omega arith, omega arith, omega arith, 390, refl, (omega arith, omega arith, omega arith, 3, refl, (omega arith, omega arith, refl)))

within : (encoding rest others : List ℕ) (runs : List Run) → IsItems IsRun encoding runs → length runs ≤ 1 → 0xd0 ∷ 0x86 ∷ 0x03 ∷ others ≡ encoding ++ rest → local_count {R = ℕ} (takes []) runs ≤ 50000
within encoding rest others [] i few e = omega arith
within encoding rest others (run ∷ []) i few e =
    let r = i.3 in
    let f = joined encoding rest i.0 i.1 _ e i.2 in
    let g = joined i.0 (i.1 ++ rest) r.0 r.1 _ f r.2 in
    let n = number_once 32 (0xd0 ∷ 0x86 ∷ 0x03 ∷ []) r.0 others (r.1 ++ (i.1 ++ rest)) 50000 run.count stated r.3 g in
    omega (arith, n)
within encoding rest others (run ∷ other ∷ runs) i few e = absurd (omega (arith, few))

pub returns-clause-locals_within : goal.returns-clause-locals_within
returns-clause-locals_within c = λ features h.
    let n = number_is h.count_encoding (h.runs_encoding ++ h.rest) (0xd0 ∷ 0x86 ∷ 0x03 ∷ 0x7f ∷ 0x00 ∷ 0x0b ∷ []) 0x01 h.stated h.counted (omega arith) h.begins in
    omega (arith, within h.runs_encoding h.rest (0x7f ∷ 0x00 ∷ 0x0b ∷ []) h.runs h.declared (omega (arith, h.among, n.0)) (sym n.1), h.passes)
