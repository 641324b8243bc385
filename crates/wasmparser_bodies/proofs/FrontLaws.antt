-- Some body begins with the bytes up to the end of the item at which memory ran out.
use Rattle.std.proofs.Common.{◌≡◌, inl, inr, ℕ, zero, suc, ◌+◌, ◌-◌, ◌<◌, ◌≤◌, List, [], ◌∷◌, ◌++◌, length, map, replicate, Option, Some, None, is_some, refl, sym, ap, subst, ◌∙◌, append_assoc, arith}
use Rattle.std.specs.List.{AllByRecursion}
use Rattle.std.specs.Option.{option_and_then}
use Rattle.std.specs.Prelude.{reverse, sum_by}
use Rattle.std.proofs.lemmas.List.{append-nil, length-append, length-map, length-replicate}
use Rattle.std.proofs.lemmas.List.Sums.{sum_by-append, sum_by-cons}
use Rattle.wasm_bodies.specs.Bodies.{Run, IsRun, IsWritten, IsBodyOf, IsFunctionBody, AreLocals, declared_local, done, in_function, is_used_up, parameter, simple}
use Rattle.wasm_bodies.specs.BodyContext.{BodyContext, Local, ModuleItems, func_at, written}
use Rattle.wasm_bodies.specs.Operands.{State, each_taken, fresh, nothing_known}
use Rattle.wasm_bodies.specs.OperatorGrammar.{IsOperators}
use Rattle.wasm_bodies.specs.Operators.{Operator, Else, End, Unreachable}
use Rattle.wasm_bodies_laws.specs.Machine.{BlockFrame, ElseFrame, Frame, FrameKind, IfFrame, LoopFrame, Machine, at_start, run, stepped}
use Rattle.wasm_bodies_laws.proofs.HeldOptions.{all_append}
use Rattle.wasm_bodies_laws.proofs.Endings.{closed_by, closes_all, ending_of}
use Rattle.wasm_bodies_laws.proofs.Whole.{body_if_closed, run_from}
use Rattle.wasm_core_read.proofs.Forms.{joined, rest_bytes, unsigned_found}
use Rattle.wasm_spec.specs.Bytes.{AreBytes, IsItems, IsU32}
use Rattle.wasm_spec.specs.Features.{Features}
use Rattle.wasm_spec.specs.Types.{FuncType, I32, ValType}
use Rattle.wasmparser_operators.proofs.OperatorForms.{reads_operator}
use Rattle.wasmparser_bodies.specs.BodyAnswers.{IsRightUpTo, StandsAtItem, StandsAtRun, context_of}
use Rattle.wasmparser_bodies.specs.Fronts.{Fits, PassesBy, StopsAmong, StopsInOperators, StopsInRuns, StopsInCode}
use Rattle.wasmparser_bodies.proofs.LocalsMeaning.{locals_found, reads_run, some_of}

-- ---- lists of items

items_joined : {A : Type 0} (IsA : List ℕ → A → Type 0) (first second : List A) (x y : List ℕ) → IsItems IsA x first → IsItems IsA y second → IsItems IsA (x ++ y) (first ++ second)
items_joined IsA [] second x y h k = subst (λ (l : List ℕ). IsItems IsA (l ++ y) second) (sym h) k
items_joined IsA (item ∷ first) second x y h k = (h.0, h.1 ++ y, ap (λ (l : List ℕ). l ++ y) h.2 ∙ append_assoc h.0 h.1 y, h.3, items_joined IsA first second h.1 y h.4 k)

-- five parts, the last of them apart
regrouped : (a b c d e : List ℕ) → (a ++ b) ++ (c ++ (d ++ e)) ≡ (a ++ (b ++ (c ++ d))) ++ e
regrouped a b c d e =
    append_assoc a b (c ++ (d ++ e))
    ∙ ap (λ (l : List ℕ). a ++ l) (ap (λ (l : List ℕ). b ++ l) (sym (append_assoc c d e)) ∙ sym (append_assoc b (c ++ d) e))
    ∙ sym (append_assoc a (b ++ (c ++ d)) e)

-- ---- the end of a body

closing_bytes : FrameKind → List ℕ → List ℕ
closing_bytes IfFrame after = 0x00 ∷ 0x05 ∷ 0x00 ∷ 0x0b ∷ after
closing_bytes _ after = 0x00 ∷ 0x0b ∷ after

ending_bytes : {R : Type 0} → List (Frame R) → List ℕ
ending_bytes [] = []
ending_bytes (f ∷ outer) = closing_bytes f.kind (ending_bytes outer)

module _ (features : Features) (after : List ℕ) (operators : List (Operator ℕ)) (h : IsOperators features after operators) where
  then_end : IsOperators features (0x0b ∷ after) (End ∷ operators)
  then_end = (0x0b ∷ [], after, refl, (0x0b ∷ [], [], refl, (refl, omega arith, refl), refl), h)

  then_else : IsOperators features (0x05 ∷ after) (Else ∷ operators)
  then_else = (0x05 ∷ [], after, refl, (0x05 ∷ [], [], refl, (refl, omega arith, refl), refl), h)

  then_unreachable : IsOperators features (0x00 ∷ after) (Unreachable ∷ operators)
  then_unreachable = (0x00 ∷ [], after, refl, (0x00 ∷ [], [], refl, (refl, omega arith, refl), refl), h)

unreachable_end : (features : Features) (after : List ℕ) (operators : List (Operator ℕ)) → IsOperators features after operators → IsOperators features (0x00 ∷ 0x0b ∷ after) (Unreachable ∷ End ∷ operators)
unreachable_end features after operators h = then_unreachable features (0x0b ∷ after) (End ∷ operators) (then_end features after operators h)

closing_spelled : (features : Features) (kind : FrameKind) (after : List ℕ) (operators : List (Operator ℕ)) → IsOperators features after operators → IsOperators features (closing_bytes kind after) (closed_by kind operators)
unfolding closing_bytes
closing_spelled features IfFrame after operators h =
    then_unreachable features (0x05 ∷ 0x00 ∷ 0x0b ∷ after) (Else ∷ Unreachable ∷ End ∷ operators)
    (then_else features (0x00 ∷ 0x0b ∷ after) (Unreachable ∷ End ∷ operators) (unreachable_end features after operators h))
closing_spelled features BlockFrame after operators h = unreachable_end features after operators h
closing_spelled features LoopFrame after operators h = unreachable_end features after operators h
closing_spelled features ElseFrame after operators h = unreachable_end features after operators h

ending_spelled : {R : Type 0} (features : Features) (frames : List (Frame R)) → IsOperators features (ending_bytes frames) (ending_of frames)
unfolding ending_bytes
ending_spelled features [] = refl
ending_spelled features (f ∷ outer) = closing_spelled features f.kind (ending_bytes outer) (ending_of outer) (ending_spelled features outer)

-- ---- operators

module _ {R : Type 0} (cx : BodyContext R) where
  -- the operators that were passed, and their bytes
  passed_run : (operators : List (Operator ℕ)) (old new : Machine R) (bytes rest : List ℕ) → AreBytes bytes → PassesBy cx operators old bytes new rest
      → (encoding : List ℕ) × (bytes ≡ encoding ++ rest) × IsOperators cx.features encoding operators × (run cx operators old ≡ Some new)
  passed_run [] old new bytes rest are p = ([], sym p.1, refl, ap Some (sym p.0))
  passed_run (operator ∷ operators) old new bytes rest are p =
      let f = (reads_operator cx.features).found bytes operator p.1 are p.2 in
      let r = passed_run operators p.0 new p.1 rest (rest_bytes bytes f.0 p.1 are f.1) p.4 in
      (f.0 ++ r.0, joined bytes f.0 p.1 r.0 rest f.1 r.1, (f.0, r.0, refl, f.2, r.2), ap (option_and_then (run cx operators)) p.3 ∙ r.3)

module _ {R : Type 0} (features : Features) (items : ModuleItems R) (type : FuncType R) where
  -- operators after locals, the next one, and what closes all blocks
  body_of : (encoding front item : List ℕ) (runs : List Run) (operators : List (Operator ℕ)) (operator : Operator ℕ) (frames : List (Frame R)) → AreLocals features items type encoding runs
      → IsOperators features front operators → IsOperators features item (operator ∷ []) → IsBodyOf (in_function features items type runs) (operators ++ operator ∷ ending_of frames)
      → IsFunctionBody features items type ((encoding ++ front) ++ (item ++ ending_bytes frames))
  body_of encoding front item runs operators operator frames are before next typed = record {
    runs = runs;
    operators = operators ++ operator ∷ ending_of frames;
    locals_encoding = encoding;
    code_encoding = front ++ (item ++ ending_bytes frames);
    begins = append_assoc encoding front (item ++ ending_bytes frames);
    locals = are;
    spelled =
        items_joined _ operators (operator ∷ ending_of frames) front (item ++ ending_bytes frames) before
        (items_joined _ (operator ∷ []) (ending_of frames) item (ending_bytes frames) next (ending_spelled features frames));
    typed = typed;
  }

  module _ (index : ℕ) (named : func_at items index ≡ Some type) where
    -- after the operators up to the next one all blocks can be closed
    whole : (runs : List Run) (operators : List (Operator ℕ)) (operator : Operator ℕ) (m n : Machine R) → run (in_function features items type runs) operators (at_start index) ≡ Some m
        → stepped (in_function features items type runs) m operator ≡ Some n → IsBodyOf (in_function features items type runs) (operators ++ operator ∷ ending_of n.frames)
    whole runs operators operator m n ran step =
        let cx = in_function features items type runs in
        let c = closes_all cx n.frames n.now in
        body_if_closed cx index type named refl (operators ++ operator ∷ ending_of n.frames)
        (c.0, run_from cx operators (operator ∷ ending_of n.frames) (at_start index) m ran ∙ ap (option_and_then (run cx (ending_of n.frames))) step ∙ c.1, c.2)

    pub right_in_code : (bytes : List ℕ) (left place : ℕ) → AreBytes bytes → place + left ≡ length bytes → StopsInCode features items type (map parameter type.params) (at_start index) bytes left
        → IsRightUpTo features items type (StandsAtItem features) bytes place
    right_in_code bytes left place are at s =
        let d = locals_found features items type bytes s.locals s.rest are s.declared in
        let cx = in_function features items type d.runs in
        let t : StopsInOperators cx (at_start index) s.rest left = subst (λ l. StopsInOperators (context_of features items type l) (at_start index) s.rest left) d.declares s.stops in
        let code = rest_bytes bytes d.encoding s.rest are d.begins in
        let p = passed_run cx t.passes.operators (at_start index) t.reached s.rest t.rest code t.passes.passed in
        let o = (reads_operator features).found t.rest t.operator t.after (rest_bytes s.rest p.0 t.rest code p.1) t.reads in
        let n = some_of (stepped cx t.reached t.operator) t.leads in
        record {
          before = d.encoding ++ p.0;
          item = o.0;
          after = t.after;
          others = ending_bytes n.0.frames;
          parts = d.begins ∙ ap (λ (l : List ℕ). d.encoding ++ l) (p.1 ∙ ap (λ (l : List ℕ). p.0 ++ l) o.1) ∙ sym (append_assoc d.encoding p.0 (o.0 ++ t.after));
          placed = omega (
            arith,
            at,
            t.place,
            ap length d.begins,
            length-append d.encoding s.rest,
            ap length p.1,
            length-append p.0 t.rest,
            length-append d.encoding p.0,
          );
          stands = inr (record {
            runs = d.runs;
            operators = t.passes.operators;
            operator = t.operator;
            locals_encoding = d.encoding;
            code_encoding = p.0;
            parts = refl;
            declared = d.are.declared;
            spelled = p.2;
            is_operator = o.2;
          });
          begins = body_of d.encoding p.0 o.0 d.runs t.passes.operators t.operator n.0.frames d.are p.2 (o.0, [], sym (append-nil o.0), o.2, refl)
              (whole d.runs t.passes.operators t.operator t.reached n.0 p.3 n.1);
        }

  pub at_any_item : (bytes : List ℕ) (place : ℕ) → IsRightUpTo features items type StandsAtRun bytes place → IsRightUpTo features items type (StandsAtItem features) bytes place
  at_any_item bytes place r =
      record { before = r.before; item = r.item; after = r.after; others = r.others; parts = r.parts; placed = r.placed; stands = inl r.stands; begins = r.begins }

  -- ---- locals

  total : List Run → ℕ
  total runs = sum_by (λ run. run.count) runs

  -- a run, those in front of it, and what stands around them
  record RunsUpTo (n : ℕ) (locals : List (Local R)) (bytes : List ℕ) (left : ℕ) : Type 0 where
    front : List Run
    last : Run
    entries : List ℕ
    item : List ℕ
    after : List ℕ
    parts : bytes ≡ entries ++ (item ++ after)
    place : left + length entries ≡ length bytes
    spelled : IsItems IsRun entries front
    is_run : IsRun item last
    are_written : AllByRecursion (IsWritten features items) front
    is_written : IsWritten features items last
    among : length front < n
    within : length locals + total front + last.count ≤ 50000

  up_to_first : (n : ℕ) (locals : List (Local R)) (bytes : List ℕ) (left : ℕ) (run : Run) (more : List (Local R)) (rest : List ℕ) → AreBytes bytes → Fits features items locals bytes run more rest → left ≡ length bytes
      → RunsUpTo (suc n) locals bytes left
  unfolding total
  up_to_first n locals bytes left run more rest are f here =
      let t = reads_run.found bytes run rest are f.reads in
      record {
        front = [];
        last = run;
        entries = [];
        item = t.0;
        after = rest;
        parts = t.1;
        place = omega (arith, here);
        spelled = refl;
        is_run = t.2;
        are_written = tt;
        is_written = ap is_some f.stands;
        among = omega arith;
        within = omega (arith, f.within);
      }

  up_to_later : (n : ℕ) (locals : List (Local R)) (bytes : List ℕ) (left : ℕ) (run : Run) (more : List (Local R)) (rest : List ℕ) → AreBytes bytes → Fits features items locals bytes run more rest
      → RunsUpTo n more rest left → RunsUpTo (suc n) locals bytes left
  unfolding total
  up_to_later n locals bytes left run more rest are f r =
      let t = reads_run.found bytes run rest are f.reads in
      record {
        front = run ∷ r.front;
        last = r.last;
        entries = t.0 ++ r.entries;
        item = r.item;
        after = r.after;
        parts = joined bytes t.0 rest r.entries (r.item ++ r.after) t.1 r.parts;
        place = omega (arith, r.place, ap length t.1, length-append t.0 rest, length-append t.0 r.entries);
        spelled = (t.0, r.entries, refl, t.2, r.spelled);
        is_run = r.is_run;
        are_written = (ap is_some f.stands, r.are_written);
        is_written = r.is_written;
        among = omega (arith, r.among);
        within = omega (
          arith,
          r.within,
          ap length f.adds,
          length-append locals (replicate run.count (declared_local f.type)),
          length-replicate run.count (declared_local f.type),
          sum_by-cons (λ (r : Run). r.count) run r.front,
        );
      }

  up_to : (n : ℕ) (locals : List (Local R)) (bytes : List ℕ) (left : ℕ) → AreBytes bytes → StopsAmong features items n locals bytes left → RunsUpTo n locals bytes left
  up_to zero locals bytes left are s = absurd s
  up_to (suc n) locals bytes left are (run, more, rest, f, inl here) = up_to_first n locals bytes left run more rest are f here
  up_to (suc n) locals bytes left are (run, more, rest, f, inr later) =
      let t = reads_run.found bytes run rest are f.reads in
      up_to_later n locals bytes left run more rest are f (up_to n more rest left (rest_bytes bytes t.0 rest are t.1) later)

  -- runs of no locals take the place of those that are still to come
  no_locals : Run
  no_locals = record { count = 0; type = I32 }

  none_bytes : ℕ → List ℕ
  none_bytes zero = []
  none_bytes (suc k) = 0x00 ∷ 0x7f ∷ none_bytes k

  none_spelled : (k : ℕ) → IsItems IsRun (none_bytes k) (replicate k no_locals)
  unfolding none_bytes no_locals
  none_spelled zero = refl
  none_spelled (suc k) = (0x00 ∷ 0x7f ∷ [], none_bytes k, refl, (0x00 ∷ [], 0x7f ∷ [], refl, (omega arith, omega arith, refl), refl), none_spelled k)

  none_written : (k : ℕ) → AllByRecursion (IsWritten features items) (replicate k no_locals)
  unfolding no_locals
  none_written zero = tt
  none_written (suc k) = (refl, none_written k)

  none_total : (k : ℕ) → total (replicate k no_locals) ≡ 0
  unfolding total no_locals
  none_total zero = refl
  none_total (suc k) =
      let run : Run = record { count = 0; type = I32 } in
      let more : sum_by (λ (r : Run). r.count) (run ∷ replicate k run) ≡ 0 + sum_by (λ (r : Run). r.count) (replicate k run) = sum_by-cons (λ (r : Run). r.count) run (replicate k run) in
      omega (arith, more, none_total k)

  are_locals : (count : List ℕ) (n : ℕ) (bytes : List ℕ) (left : ℕ) (u : RunsUpTo n (map parameter type.params) bytes left) → IsU32 count n
      → AreLocals features items type (count ++ (u.entries ++ (u.item ++ none_bytes (n - (length u.front + 1))))) (u.front ++ u.last ∷ replicate (n - (length u.front + 1)) no_locals)
  unfolding total
  are_locals count n bytes left u counted =
      let k = n - (length u.front + 1) in
      let none = replicate k no_locals in
      let all : length (u.front ++ u.last ∷ none) ≡ n = omega (arith, u.among, length-append u.front (u.last ∷ none), length-replicate k no_locals) in
      record {
        declared = (
          count,
          u.entries ++ (u.item ++ none_bytes k),
          refl,
          subst (IsU32 count) (sym all) counted,
          items_joined IsRun u.front (u.last ∷ none) u.entries (u.item ++ none_bytes k) u.spelled (u.item, none_bytes k, refl, u.is_run, none_spelled k),
        );
        written = all_append (IsWritten features items) u.front (u.last ∷ none) u.are_written (u.is_written, none_written k);
        within = λ past. absurd (omega (
          arith,
          past,
          u.within,
          length-map type.params parameter,
          sum_by-append (λ (r : Run). r.count) u.front (u.last ∷ none),
          sum_by-cons (λ (r : Run). r.count) u.last none,
          none_total k,
        ));
      }

  each_taken_of_any : (types : List (ValType R)) (s : State R) → each_taken items types (nothing_known s) ≡ Some (nothing_known s)
  each_taken_of_any [] s = refl
  each_taken_of_any (t ∷ types) s = each_taken_of_any types s

  -- the body that does nothing
  unreachable_body : (runs : List Run) → IsBodyOf (in_function features items type runs) (Unreachable ∷ End ∷ [])
  unreachable_body runs = record {
    code = simple Unreachable done;
    is_flat = refl;
    typed = (nothing_known (fresh [] []), (nothing_known (fresh [] []), refl, refl), ap is_used_up (each_taken_of_any (reverse type.results) (fresh [] [])));
  }

  pub right_in_locals : (bytes : List ℕ) (left place : ℕ) → AreBytes bytes → place + left ≡ length bytes → StopsInRuns features items (map parameter type.params) bytes left → IsRightUpTo features items type StandsAtRun bytes place
  right_in_locals bytes left place are at s =
      let count = unsigned_found 32 bytes s.count s.rest are s.counted in
      let u = up_to s.count (map parameter type.params) s.rest left (rest_bytes bytes count.0 s.rest are count.1) s.among in
      let k = s.count - (length u.front + 1) in
      let none = none_bytes k in
      let runs = u.front ++ u.last ∷ replicate k no_locals in
      record {
        before = count.0 ++ u.entries;
        item = u.item;
        after = u.after;
        others = none ++ (0x00 ∷ 0x0b ∷ []);
        parts = joined bytes count.0 s.rest u.entries (u.item ++ u.after) count.1 u.parts;
        placed = omega (arith, at, u.place, ap length count.1, length-append count.0 s.rest, length-append count.0 u.entries);
        stands = record {
          stated = s.count;
          runs = u.front;
          run = u.last;
          count_encoding = count.0;
          runs_encoding = u.entries;
          parts = refl;
          counted = count.2;
          declared = u.spelled;
          fewer = u.among;
          is_run = u.is_run;
        };
        begins = record {
          runs = runs;
          operators = Unreachable ∷ End ∷ [];
          locals_encoding = count.0 ++ (u.entries ++ (u.item ++ none));
          code_encoding = 0x00 ∷ 0x0b ∷ [];
          begins = regrouped count.0 u.entries u.item none (0x00 ∷ 0x0b ∷ []);
          locals = are_locals count.0 s.count s.rest left u count.2;
          spelled = unreachable_end features [] [] refl;
          typed = unreachable_body runs;
        };
      }
