-- A place is in one part of a code section at most.
use Rattle.std.proofs.Common.{◌≡◌, ◌≤◌, ◌<◌, ◌⊎◌, inl, inr, ℕ, ◌+◌, length, List, Some, None, refl, sym, ap, subst, ◌∙◌, arith}
use Rattle.std.specs.Prelude.{◌++◌, codes, decimal}
use Rattle.wasm_core_read.specs.Input.{Input, end}
use Rattle.wasm_core_read.specs.TypeReading.{list_at}
use Rattle.wasm_core_read.proofs.ReadingLaws.{some_is}
use Rattle.wasmparser_payloads.specs.Locals.{run_at}
use Rattle.wasmparser_readers.specs.Passing.{rest_of}
use Rattle.wasm_gen_explain.specs.Bodies.{IsAtBody, IsBefore, IsInBodies, IsInBody, IsInCode, IsNextBody, IsOperatorAt, IsPast, IsWithinBody, PassesBody, StopsLocals, StopsSize, after_bodies, in_bodies, in_count, in_size, within}
use Rattle.wasm_gen_explain.specs.LargeIndexes.{IsLargeAtBody, IsLargeInBody, IsLargeInCode, IsLargeOperator}
use Rattle.wasm_gen_explain.specs.Lists.{EndsItems, EndsList}
use Rattle.wasm_gen_explain.specs.Operators.{BodyLeft, PassesOperator, front_name, whole_body}
use Rattle.wasm_gen_explain.specs.Passed.{ArePassed}
use Rattle.wasm_gen_explain.specs.Text.{function_text, named, place_text}
use Rattle.wasm_gen_explain.specs.declared.place.Place.{Place}
use Rattle.wasm_gen_explain.specs.declared.place.Place.TheVariants as places
use Rattle.wasmparser_operators.specs.OperatorReading.{code_at}
use Rattle.wasm_gen_explain.proofs.UniqueItems.{IsFunctional, IsLast, count_read, more_or_none, not_passed, not_past, one_rest, same_after, same_input, same_last, same_list}
use Rattle.wasm_gen_explain.proofs.UniqueOperators.{end_last, operator_last, operators_functional}

-- ---- in a body

same_first : (body : Input) (offset n m : ℕ) (a b : BodyLeft) → (p : IsPast body offset n a) (q : IsPast body offset m b) → p.first ≡ q.first
same_first body offset n m a b p q = same_after body p.first q.first p.goes_on q.goes_on (one_rest (list_at run_at body.rest) p.first.rest q.first.rest p.locals q.locals)

same_past : (body : Input) (offset n m : ℕ) (a b : BodyLeft) → IsPast body offset n a → IsLast (PassesOperator offset) a → IsPast body offset m b → IsLast (PassesOperator offset) b → (n ≡ m) × (a ≡ b)
same_past body offset n m a b p last q other =
    let moved : ArePassed (PassesOperator offset) (whole_body q.first) n a = subst (λ (i : Input). ArePassed (PassesOperator offset) (whole_body i) n a) (same_first body offset n m a b p q) p.operators in
    same_last (PassesOperator offset) (whole_body q.first) n m a b (operators_functional offset) moved last q.operators other

locals_read : (body : Input) (offset number : ℕ) (now : BodyLeft) → IsPast body offset number now → ¬ (StopsLocals body offset)
locals_read body offset number now p (inl unread) = let f : None ≡ Some p.first.rest = ap rest_of (sym unread) ∙ p.locals in absurd cc
locals_read body offset number now p (inr past) = absurd (not_past (list_at run_at body.rest) body p.first offset p.locals p.goes_on p.begins past)

operator_or_end : (body : Input) (offset number : ℕ) (name : List ℕ) (h : IsOperatorAt body offset number name) → ¬ (IsLargeOperator offset h.now.input h.stops.stops) → ¬ (IsBefore body offset)
operator_or_end body offset number name h small b =
    let same = (same_past body offset number b.number h.now b.now h.past (operator_last offset h.now h.stops.stops small) b.past (end_last offset b.now b.ends)).1 in
    let closed : h.now.blocks ≡ 0 = ap (λ (l : BodyLeft). l.blocks) same ∙ b.ends.closed in
    let ended : length h.now.input.rest ≡ 0 = ap (λ (l : BodyLeft). length l.input.rest) same ∙ ap length b.ends.ended in
    by_lack h.stops.lacks closed ended
  where
    by_lack : (0 < h.now.blocks) ⊎ (0 < length h.now.input.rest) → h.now.blocks ≡ 0 → length h.now.input.rest ≡ 0 → ⊥
    by_lack (inl lt) closed ended = absurd omega (arith, lt, closed)
    by_lack (inr lt) closed ended = absurd omega (arith, lt, ended)

same_operator : (body : Input) (offset n m : ℕ) (a b : List ℕ) (h : IsOperatorAt body offset n a) (k : IsOperatorAt body offset m b) → ¬ (IsLargeOperator offset h.now.input h.stops.stops) → ¬ (IsLargeOperator offset k.now.input k.stops.stops) → (n ≡ m) × (a ≡ b)
same_operator body offset n m a b h k small other =
    let same = same_past body offset n m h.now k.now h.past (operator_last offset h.now h.stops.stops small) k.past (operator_last offset k.now k.stops.stops other) in
    (same.0, h.named ∙ ap (λ (l : BodyLeft). front_name (code_at l.input.rest)) same.1 ∙ sym k.named)

in_body_or_before : (function : ℕ) (body : Input) (offset : ℕ) (place : Place) (h : IsInBody function body offset place) → ¬ (IsLargeInBody function body offset place h) → ¬ (IsBefore body offset)
in_body_or_before function body offset (places.Locals f) h small b = locals_read body offset b.number b.now b.past h.1
in_body_or_before function body offset (places.Operator f number name) h small b = operator_or_end body offset number name.now h.1 small b
in_body_or_before function body offset _ h small b = absurd h

operator_text : (f g n m : ℕ) (a b : List ℕ) → f ≡ g → n ≡ m → a ≡ b → function_text f ++ codes ", operator " ++ decimal n ++ named a ≡ function_text g ++ codes ", operator " ++ decimal m ++ named b
operator_text f g n m a b e k l = rw (e, k, l) refl

one_in_body : (function : ℕ) (body : Input) (offset : ℕ) (p q : Place) (h : IsInBody function body offset p) (k : IsInBody function body offset q) → ¬ (IsLargeInBody function body offset p h) → ¬ (IsLargeInBody function body offset q k)
    → place_text p ≡ place_text q
one_in_body function body offset (places.Locals f) (places.Locals g) h k small other = ap (λ (i : ℕ). place_text (places.Locals i)) (h.0 ∙ sym k.0)
one_in_body function body offset (places.Locals f) (places.Operator g m b) h k small other = absurd (locals_read body offset m k.1.now k.1.past h.1)
one_in_body function body offset (places.Operator f n a) (places.Locals g) h k small other = absurd (locals_read body offset n h.1.now h.1.past k.1)
one_in_body function body offset (places.Operator f n a) (places.Operator g m b) h k small other =
    let same = same_operator body offset n m a.now b.now h.1 k.1 small other in
    operator_text f g n m a.now b.now (h.0 ∙ sym k.0) same.0 same.1
one_in_body function body offset (places.Locals f) _ h k small other = absurd k
one_in_body function body offset (places.Operator f n a) _ h k small other = absurd k
one_in_body function body offset _ q h k small other = absurd h

-- ---- the next body

same_body : (old a b : Input) (rest other : List ℕ) → IsNextBody old a rest → IsNextBody old b other → (a ≡ b) × (rest ≡ other)
same_body old a b rest other p q =
    let same = some_is (a.rest, rest) (b.rest, other) (sym p.reads ∙ q.reads) in
    let first : a.rest ≡ b.rest = ap (λ x. x.0) same in
    let second : rest ≡ other = ap (λ x. x.1) same in
    let n : length a.rest ≡ length b.rest = ap length first in
    let m : length rest ≡ length other = ap length second in
    (same_input a b first (omega (arith, n, m, p.ends, q.ends)) (p.same_features ∙ sym q.same_features), second)

pub bodies_functional : (offset : ℕ) → IsFunctional (PassesBody offset)
bodies_functional offset s a b p q = same_after s a b p.goes_on q.goes_on (same_body s p.body q.body a.rest b.rest p.is_next q.is_next).1

size_read : (i body : Input) (rest : List ℕ) (offset : ℕ) → IsNextBody i body rest → body.position ≤ offset → ¬ (StopsSize i offset)
size_read i body rest offset next le (inl unread) = let f = sym next.reads ∙ unread in absurd cc
size_read i body rest offset next le (inr h) =
    let same : body ≡ h.0 = (same_body i body h.0 rest h.1 next h.2).0 in
    let at : body.position ≡ h.0.position = ap (λ (b : Input). b.position) same in
    absurd omega (arith, at, le, h.3)

-- a body that is passed ends where the next one begins
passed_end : (offset : ℕ) (old new : Input) (p : PassesBody offset old new) → end p.body ≡ new.position
passed_end offset old new p = omega (arith, p.is_next.ends, p.goes_on.same_end)

within_last : (function : ℕ) (i t : Input) (offset : ℕ) (place : Place) (h : IsWithinBody function i offset place) → ¬ (IsLargeInBody function h.body offset place h.stands) → ¬ (PassesBody offset i t)
within_last function i t offset place h small p =
    let same : p.body ≡ h.body = (same_body i p.body h.body t.rest h.rest p.is_next h.is_next).0 in
    let at : end p.body ≡ end h.body = ap end same in
    by_whole p.whole same (omega (arith, at, passed_end offset i t p, h.ends))
  where
    by_whole : (t.position < offset) ⊎ IsBefore p.body offset → p.body ≡ h.body → offset ≤ t.position → ⊥
    by_whole (inl lt) same le = absurd omega (arith, lt, le)
    by_whole (inr b) same le = in_body_or_before function h.body offset place h.stands small (subst (λ (i : Input). IsBefore i offset) same b)

at_body_last : (function : ℕ) (i : Input) (offset : ℕ) (place : Place) (h : IsAtBody function i offset place) → ¬ (IsLargeAtBody function i offset place h) → IsLast (PassesBody offset) i
at_body_last function i offset place (in_size h) small t p =
    let at = passed_end offset i t p in
    size_read i p.body t.rest offset p.is_next (omega (arith, at, p.ends)) h
at_body_last function i offset place (within q h) small t p = within_last function i t offset q h small p

within_same : (function : ℕ) (i : Input) (offset : ℕ) (p q : Place) (h : IsWithinBody function i offset p) (k : IsWithinBody function i offset q) → ¬ (IsLargeInBody function h.body offset p h.stands) → ¬ (IsLargeInBody function k.body offset q k.stands)
    → place_text p ≡ place_text q
within_same function i offset p q h k small other = by_body h.body k.body (same_body i h.body k.body h.rest k.rest h.is_next k.is_next).0 h.stands k.stands small other
  where
    by_body : (a b : Input) → a ≡ b → (x : IsInBody function a offset p) (y : IsInBody function b offset q) → ¬ (IsLargeInBody function a offset p x) → ¬ (IsLargeInBody function b offset q y) → place_text p ≡ place_text q
    by_body a b same = subst (λ (c : Input). (x : IsInBody function a offset p) (y : IsInBody function c offset q) → ¬ (IsLargeInBody function a offset p x) → ¬ (IsLargeInBody function c offset q y) → place_text p ≡ place_text q) same
        (λ x y. one_in_body function a offset p q x y)

one_at_body : (function : ℕ) (i : Input) (offset : ℕ) (p q : Place) (h : IsAtBody function i offset p) (k : IsAtBody function i offset q) → ¬ (IsLargeAtBody function i offset p h) → ¬ (IsLargeAtBody function i offset q k) → place_text p ≡ place_text q
one_at_body function i offset p q (in_size h) (in_size k) small other = refl
one_at_body function i offset p q (in_size h) (within r k) small other = absurd (size_read i k.body k.rest offset k.is_next k.begins h)
one_at_body function i offset p q (within r h) (in_size k) small other = absurd (size_read i h.body h.rest offset h.is_next h.begins k)
one_at_body function i offset p q (within r h) (within s k) small other = within_same function i offset r s h k small other

-- ---- code sections

in_one_or_end : (imported : ℕ) (content last : Input) (offset : ℕ) (place : Place) (h : IsInBodies imported content offset place) → ¬ (IsLargeAtBody (imported + h.in_one.number) h.in_one.now offset place h.in_one.stands)
    → ¬ (EndsItems (PassesBody offset) content offset last)
in_one_or_end imported content last offset place h small e =
    let o = h.in_one in
    let same = same_list content offset e.count h.count e.items h.items e.begins h.begins in
    let passed : ArePassed (PassesBody offset) h.items h.count last = subst (λ (k : ℕ). ArePassed (PassesBody offset) h.items k last) same.0 (subst (λ (i : Input). ArePassed (PassesBody offset) i e.count last) same.1 e.passed) in
    not_passed (PassesBody offset) h.items o.number h.count o.now last (bodies_functional offset) o.among o.passed (at_body_last (imported + o.number) o.now offset place o.stands small) passed

one_of_bodies : (imported : ℕ) (content : Input) (offset : ℕ) (p q : Place) (h : IsInBodies imported content offset p) (k : IsInBodies imported content offset q) → ¬ (IsLargeAtBody (imported + h.in_one.number) h.in_one.now offset p h.in_one.stands)
    → ¬ (IsLargeAtBody (imported + k.in_one.number) k.in_one.now offset q k.in_one.stands) → place_text p ≡ place_text q
one_of_bodies imported content offset p q h k small other =
    let a = h.in_one in
    let b = k.in_one in
    let list = same_list content offset h.count k.count h.items k.items h.begins k.begins in
    let passed : ArePassed (PassesBody offset) k.items a.number a.now = subst (λ (i : Input). ArePassed (PassesBody offset) i a.number a.now) list.1 a.passed in
    let same = same_last (PassesBody offset) k.items a.number b.number a.now b.now (bodies_functional offset) passed (at_body_last (imported + a.number) a.now offset p a.stands small) b.passed (at_body_last (imported + b.number) b.now offset q b.stands other) in
    by_body (imported + a.number) (imported + b.number) a.now b.now (ap (λ (n : ℕ). imported + n) same.0) same.1 a.stands b.stands small other
  where
    by_body : (f g : ℕ) (i j : Input) → f ≡ g → i ≡ j → (x : IsAtBody f i offset p) (y : IsAtBody g j offset q) → ¬ (IsLargeAtBody f i offset p x) → ¬ (IsLargeAtBody g j offset q y) → place_text p ≡ place_text q
    by_body f g i j e same = subst (λ (c : Input). (x : IsAtBody f i offset p) (y : IsAtBody g c offset q) → ¬ (IsLargeAtBody f i offset p x) → ¬ (IsLargeAtBody g c offset q y) → place_text p ≡ place_text q) same
        (subst (λ (c : ℕ). (x : IsAtBody f i offset p) (y : IsAtBody c i offset q) → ¬ (IsLargeAtBody f i offset p x) → ¬ (IsLargeAtBody c i offset q y) → place_text p ≡ place_text q) e (λ x y. one_at_body f i offset p q x y))

pub in_code_or_end : (imported : ℕ) (content : Input) (offset : ℕ) (place : Place) (h : IsInCode imported content offset place) → ¬ (IsLargeInCode imported content offset place h) → ¬ (EndsList (PassesBody offset) content offset)
in_code_or_end imported content offset place (in_count h) small e = count_read content offset e.ends.count e.ends.items e.ends.begins h
in_code_or_end imported content offset place (after_bodies h) small e = more_or_none (PassesBody offset) content offset (bodies_functional offset) h e
in_code_or_end imported content offset place (in_bodies p h) small e = in_one_or_end imported content e.last offset p h small e.ends

pub one_in_code : (imported : ℕ) (content : Input) (offset : ℕ) (p q : Place) (h : IsInCode imported content offset p) (k : IsInCode imported content offset q) → ¬ (IsLargeInCode imported content offset p h) → ¬ (IsLargeInCode imported content offset q k)
    → place_text p ≡ place_text q
one_in_code imported content offset p q (in_bodies r h) (in_bodies s k) small other = one_of_bodies imported content offset r s h k small other
one_in_code imported content offset p q (in_bodies r h) (in_count k) small other = absurd (count_read content offset h.count h.items h.begins k)
one_in_code imported content offset p q (in_bodies r h) (after_bodies k) small other = absurd (in_one_or_end imported content k.last offset r h small k.ends)
one_in_code imported content offset p q (in_count h) (in_bodies s k) small other = absurd (count_read content offset k.count k.items k.begins h)
one_in_code imported content offset p q (after_bodies h) (in_bodies s k) small other = absurd (in_one_or_end imported content h.last offset s k other h.ends)
one_in_code imported content offset p q (in_count h) (in_count k) small other = refl
one_in_code imported content offset p q (in_count h) (after_bodies k) small other = refl
one_in_code imported content offset p q (after_bodies h) (in_count k) small other = refl
one_in_code imported content offset p q (after_bodies h) (after_bodies k) small other = refl
