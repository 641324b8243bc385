-- Lists that were passed over, and are read later.
use Rattle.std.proofs.Common.{◌≡◌, ◌≤◌, ◌<◌, subst, arith, ℕ, ◌-◌, List, [], Option, Some, None, refl, sym, ap, ◌∙◌, length, length-take-le, take}
use Rattle.std.specs.Option.{unwrap_or}
use Rattle.wasm_core_read.specs.ConstantReading.{expression_at}
use Rattle.wasm_core_read.specs.Input.{Input, GoesOn, end}
use Rattle.wasm_core_read.specs.Laws.{ReadsExactly}
use Rattle.wasm_core_read.specs.PartReading.{functions_at}
use Rattle.wasm_core_read.specs.Reading.{◌>>=◌, ReadingOf, unsigned_at, filled}
use Rattle.wasm_core_read.specs.TypeReading.{list_at}
use Rattle.wasm_core_read.proofs.ConstantForms.{reads_expression}
use Rattle.wasm_core_read.proofs.Forms.{bind_some, some_is, reads_unsigned}
use Rattle.wasm_core_read.proofs.ListForms.{reads_list}
use Rattle.wasm_core_read.proofs.ModuleForms.{number_shorter}
use Rattle.wasm_spec.specs.Bytes.{AreBytes, IsU32, IsList}
use Rattle.wasm_spec.specs.ConstantGrammar.{IsConstantExpression}
use Rattle.wasmparser_readers.specs.Passing.{rest_of, read_or, passed, IsPart, IsLastPart}
use Rattle.wasmparser_readers.specs.Sections.{Limited, limited_of, left_items}
use Rattle.wasmparser_readers.proofs.PassingLaws.{reads_again}
use Rattle.wasmparser_readers.proofs.SectionLaws.{section_begins}
use Rattle.wasmparser_entries.specs.Lists.{AreFunctions, AreExpressions, functions_of, expressions_of}

abbrev begun_at : Input → ℕ × List ℕ → Limited
begun_at i n = record { start = i.position; left = record { count = n.0; input = record i { rest = n.1; position = end i - length n.1 } } }

abbrev begun : Input → ℕ × List ℕ → Option Limited
begun i n = Some (begun_at i n)

-- a list that was passed over reads item by item as it did
list_is : {A : Type 0} (IsA : List ℕ → A → Type 0) (a_at : ReadingOf A) → ReadsExactly IsA a_at → (i : Input) (rest : List ℕ) (section : Limited) → AreBytes i.rest → rest_of (list_at a_at i.rest) ≡ Some rest
    → limited_of (passed i (length rest)) ≡ Some section → list_at a_at i.rest ≡ Some (unwrap_or (left_items (λ _. a_at) section.left) [], rest)
list_is {A = A} IsA a_at exact i rest section are h e =
    let again = reads_again (IsList IsA) (list_at a_at) (reads_list IsA a_at exact) [] i.rest rest are h in
    let value : List A = read_or [] (list_at a_at (passed i (length rest)).rest) in
    let items : left_items (λ _. a_at) section.left ≡ Some value = section_begins (λ _. a_at) (passed i (length rest)) section e ∙ ap (λ read. filled read) again.1 in
    again.0 ∙ ap (λ (vs : List A). Some (vs, rest)) (sym (ap (λ (o : Option (List A)). unwrap_or o []) items))

list_reads : {A : Type 0} (IsA : List ℕ → A → Type 0) (a_at : ReadingOf A) → ReadsExactly IsA a_at → (i : Input) (rest : List ℕ) (section : Limited) → AreBytes i.rest → rest_of (list_at a_at i.rest) ≡ Some rest
    → limited_of (passed i (length rest)) ≡ Some section → left_items (λ _. a_at) section.left ≡ Some (unwrap_or (left_items (λ _. a_at) section.left) [])
list_reads {A = A} IsA a_at exact i rest section are h e =
    let again = reads_again (IsList IsA) (list_at a_at) (reads_list IsA a_at exact) [] i.rest rest are h in
    let value : List A = read_or [] (list_at a_at (passed i (length rest)).rest) in
    let items : left_items (λ _. a_at) section.left ≡ Some value = section_begins (λ _. a_at) (passed i (length rest)) section e ∙ ap (λ read. filled read) again.1 in
    items ∙ sym (ap (λ (o : Option (List A)). Some (unwrap_or o [])) items)

-- it is where it was passed
passed_length : (bytes : List ℕ) (n : ℕ) → n ≤ length bytes → length (take (length bytes - n) bytes) ≡ length bytes - n
passed_length bytes n le = length-take-le (length bytes - n) bytes (omega arith)

list_part : (i new : Input) (section : Limited) → GoesOn i new → limited_of (passed i (length new.rest)) ≡ Some section → (i.position ≤ section.start) × IsLastPart i new section.left.input
unfolding limited_of
list_part i new section g e =
    let n = bind_some (unsigned_at 32 (passed i (length new.rest)).rest) (λ n. begun (passed i (length new.rest)) n) section e in
    let less : length n.0.1 < length (passed i (length new.rest)).rest = number_shorter 32 (passed i (length new.rest)).rest n.0.0 n.0.1 n.1 in
    let len = passed_length i.rest (length new.rest) (omega (arith, g.forward, g.same_end)) in
    let is : begun_at (passed i (length new.rest)) n.0 ≡ section = some_is (begun_at (passed i (length new.rest)) n.0) section n.2 in
    subst (λ (s : Limited). (i.position ≤ s.start) × IsLastPart i new s.left.input) is
    (omega arith, (record { from = omega (arith, less, len, g.forward, g.same_end); to = omega (arith, less, len, g.forward, g.same_end); same_features = refl }, omega (arith, less, len, g.forward, g.same_end)))

-- and has a number of its items
list_has_count : {A : Type 0} (IsA : List ℕ → A → Type 0) (a_at : ReadingOf A) → ReadsExactly IsA a_at → (i : Input) (rest : List ℕ) → AreBytes i.rest → rest_of (list_at a_at i.rest) ≡ Some rest → ¬ (limited_of (passed i (length rest)) ≡ None)
unfolding list_at limited_of
list_has_count {A = A} IsA a_at exact i rest are h none =
    let again = reads_again (IsList IsA) (list_at a_at) (reads_list IsA a_at exact) [] i.rest rest are h in
    by_count (unsigned_at 32 (passed i (length rest)).rest) refl again.1 none
  where
    by_count : (read : Option (ℕ × List ℕ)) → unsigned_at 32 (passed i (length rest)).rest ≡ read → list_at a_at (passed i (length rest)).rest ≡ Some (read_or [] (list_at a_at (passed i (length rest)).rest), []) → limited_of (passed i (length rest)) ≡ None → ⊥
    by_count None e f g = let x = rw e at f in absurd cc
    by_count (Some n) e f g = let x = rw e at g in absurd cc

-- ---- functions

pub functions_are : (i : Input) (rest : List ℕ) (section : Limited) → AreBytes i.rest → rest_of (functions_at i.rest) ≡ Some rest → limited_of (passed i (length rest)) ≡ Some section → functions_at i.rest ≡ Some (functions_of section.left, rest)
functions_are i rest section are h e = list_is IsU32 (unsigned_at 32) (reads_unsigned 32) i rest section are h e

pub functions_have_count : (i : Input) (rest : List ℕ) → AreBytes i.rest → rest_of (functions_at i.rest) ≡ Some rest → ¬ (limited_of (passed i (length rest)) ≡ None)
functions_have_count i rest are h = list_has_count IsU32 (unsigned_at 32) (reads_unsigned 32) i rest are h

pub functions_part : (i new : Input) (section : Limited) → AreBytes i.rest → rest_of (functions_at i.rest) ≡ Some new.rest → GoesOn i new → limited_of (passed i (length new.rest)) ≡ Some section → AreFunctions i new section
functions_part i new section are h g e =
    let p = list_part i new section g e in
    record { from = p.0; part = p.1; read = list_reads IsU32 (unsigned_at 32) (reads_unsigned 32) i new.rest section are h e }

pub ruleset function_lists = (functions_are, functions_have_count, functions_part)

-- ---- expressions

pub expressions_are : (i : Input) (rest : List ℕ) (section : Limited) → AreBytes i.rest → rest_of (list_at expression_at i.rest) ≡ Some rest → limited_of (passed i (length rest)) ≡ Some section → list_at expression_at i.rest ≡ Some (expressions_of section.left, rest)
expressions_are i rest section are h e = list_is IsConstantExpression expression_at reads_expression i rest section are h e

pub expressions_have_count : (i : Input) (rest : List ℕ) → AreBytes i.rest → rest_of (list_at expression_at i.rest) ≡ Some rest → ¬ (limited_of (passed i (length rest)) ≡ None)
expressions_have_count i rest are h = list_has_count IsConstantExpression expression_at reads_expression i rest are h

pub expressions_part : (i new : Input) (section : Limited) → AreBytes i.rest → rest_of (list_at expression_at i.rest) ≡ Some new.rest → GoesOn i new → limited_of (passed i (length new.rest)) ≡ Some section → AreExpressions i new section
expressions_part i new section are h g e =
    let p = list_part i new section g e in
    record { from = p.0; part = p.1; read = list_reads IsConstantExpression expression_at reads_expression i new.rest section are h e }

pub ruleset expression_lists = (expressions_are, expressions_have_count, expressions_part)
