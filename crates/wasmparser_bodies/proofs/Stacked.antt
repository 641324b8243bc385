-- How changes at the end of the operands, the blocks and the assigned locals are seen. The blocks have the innermost one first.
use Rattle.std.proofs.Common.{◌≡◌, ℕ, zero, suc, ◌+◌, ◌-◌, ◌<◌, ◌≤◌, ⊎_elim, true, false, List, [], ◌∷◌, ◌++◌, length, get_or, take, drop, Some, None, refl, sym, ap, ◌∙◌, subst, arith, add-one, reverse, map}
use Rattle.std.specs.Prelude.{slice_get}
use Rattle.std.specs.Option.{option_map}
use Rattle.std.proofs.Math.ListN.{set, drop_of_length-le}
use Rattle.std.proofs.Math.Seq.{set-append_seam, drop-append_seam, drop-cons}
use Rattle.std.proofs.lemmas.Bool.{cases_lt}
use Rattle.std.proofs.lemmas.List.{append-nil, drop-append-le, drop-take, get_or-drop, get_or-map, get_or-reverse, length-append, length-drop, length-map, length-reverse, map-append, take-map, length-take, length-take-le, reverse-append, take-append-drop, take-append-le, take-take, take_all}
use Rattle.std.proofs.lemmas.Option.{slice_get-get_or, slice_get_past}
use Rattle.wasm_bodies.specs.BodyContext.{is_among}
use Rattle.wasm_bodies.specs.Operands as operands
use Rattle.wasm_bodies.specs.Operands.{State, popped, popped_from, put, nothing_known}
use Rattle.wasm_bodies_laws.specs.Machine as machine
use Rattle.wasmparser_types.specs.Index.{Index}
use Rattle.wasmparser_types.specs.ValTypes.{val_type}
use Rattle.wasmparser_types.specs.declared.val_type.ValType.{ValType}
use Rattle.wasmparser_bodies.specs.StackChanges.{all_known, at_list, known_below, places_from, places_of, entered_by, left_with, lowered, marked as marked_local, else_with}
use Rattle.wasmparser_bodies.specs.StackViews.{all_of, block_kept, block_seen, place_kept, operand, AreWithin, base_of, block_with_ids, frame_kind, frames_of, is_open_of, state_of, view_of}
use Rattle.wasmparser_bodies.specs.declared.frame.Frame.{Frame}
use Rattle.wasmparser_bodies.specs.declared.frame.FrameKind.TheVariants as kinds
use Rattle.wasmparser_bodies.specs.declared.operand.Operand.{Operand}

-- ---- lists

last_split : {X : Type 0} (xs : List X) (n : ℕ) (d : X) → length xs ≡ suc n → xs ≡ take n xs ++ (get_or xs n d ∷ [])
last_split [] n d e = absurd (omega (arith, e))
last_split (x ∷ []) zero d e = refl
last_split (x ∷ y ∷ xs) zero d e = absurd (omega (arith, e))
last_split (x ∷ xs) (suc n) d e = let h : length xs ≡ suc n = omega (arith, e) in ap (λ l. x ∷ l) (last_split xs n d h)

-- the last one comes first
pub reverse_last : {X : Type 0} (xs : List X) (n : ℕ) (d : X) → length xs ≡ suc n → reverse xs ≡ get_or xs n d ∷ reverse (take n xs)
reverse_last xs n d e = ap reverse (last_split xs n d e) ∙ reverse-append (take n xs) (get_or xs n d ∷ [])

pub reverse_set_last : {X : Type 0} (xs : List X) (n : ℕ) (y : X) → length xs ≡ suc n → reverse (set xs n y) ≡ y ∷ reverse (take n xs)
reverse_set_last xs n y e =
    let len : length (take n xs) ≡ n = omega (arith, length-take n xs) in
    let s : set xs n y ≡ take n xs ++ y ∷ [] =
    ap (λ l. set l n y) (last_split xs n y e) ∙ subst (λ k. set (take n xs ++ (get_or xs n y ∷ [])) k y ≡ take n xs ++ y ∷ []) len (set-append_seam (take n xs) (get_or xs n y) [] y) in
    ap reverse s ∙ reverse-append (take n xs) (y ∷ [])

drop-reverse_le : {X : Type 0} (n : ℕ) (ys : List X) → n ≤ length ys → drop n (reverse ys) ≡ reverse (take (length ys - n) ys)
drop-reverse_le n ys le =
    let k = length ys - n in
    let split : reverse ys ≡ reverse (drop (length ys - n) ys) ++ reverse (take (length ys - n) ys) = ap reverse (sym (take-append-drop (length ys - n) ys)) ∙ reverse-append (take (length ys - n) ys) (drop (length ys - n) ys) in
    let len : length (reverse (drop (length ys - n) ys)) ≡ n = omega (arith, length-reverse (drop (length ys - n) ys), length-drop (length ys - n) ys) in
    ap (drop n) split ∙ subst (λ j. drop j (reverse (drop (length ys - n) ys) ++ reverse (take (length ys - n) ys)) ≡ reverse (take (length ys - n) ys)) len (drop-append_seam (reverse (drop (length ys - n) ys)) (reverse (take (length ys - n) ys)))

drop-reverse_past : {X : Type 0} (n : ℕ) (ys : List X) → length ys ≤ n → drop n (reverse ys) ≡ reverse (take (length ys - n) ys)
drop-reverse_past n ys le =
    let none : length ys - n ≡ 0 = omega arith in
    let past : length (reverse ys) ≤ n = omega (arith, length-reverse ys) in
    rw none (drop_of_length-le (reverse ys) past)

-- without the first ones of the reverse
pub drop-reverse : {X : Type 0} (n : ℕ) (ys : List X) → drop n (reverse ys) ≡ reverse (take (length ys - n) ys)
drop-reverse n ys = ⊎_elim (λ h. drop-reverse_past n ys (omega (arith, h))) (drop-reverse_le n ys) (cases_lt (length ys) n)

-- ---- the operands of the innermost list

module _ {X : Type 0} where
  -- what is left above a base where the last n are gone
  pub lowered_known : (xs : List X) (b n : ℕ) → b ≤ length xs → reverse (drop b (take (b + (length xs - b - n)) xs)) ≡ drop n (reverse (drop b xs))
  lowered_known xs b n le =
      let len : length (drop b xs) ≡ length xs - b = length-drop b xs in
      ap reverse (drop-take b (length xs - b - n) xs) ∙ ap (λ k. reverse (take (k - n) (drop b xs))) (sym len) ∙ sym (drop-reverse n (drop b xs))

  -- what stands above a base, and then others
  pub appended_known : (xs ys : List X) (b : ℕ) → b ≤ length xs → reverse (drop b (xs ++ ys)) ≡ reverse ys ++ reverse (drop b xs)
  appended_known xs ys b le = ap reverse (drop-append-le b xs ys le) ∙ reverse-append (drop b xs) ys

pub base_within : (fs : List Frame) (n k : ℕ) → AreWithin fs n k → base_of fs ≤ n
base_within [] n k h = omega arith
base_within (f ∷ fs) n k h = h.0

pub within : (fs : List Frame) (n k m l : ℕ) → AreWithin fs n k → base_of fs ≤ m → k ≤ l → AreWithin fs m l
within [] n k m l h le le' = tt
within (f ∷ fs) n k m l h le le' = (le, omega (arith, h.1), h.2)

-- the blocks see what is below the innermost list alone
pub frames_kept : (fs : List Frame) (xs ys : List (operands.Operand Index)) (a : List ℕ) → take (base_of fs) xs ≡ take (base_of fs) ys → frames_of fs xs a ≡ frames_of fs ys a
frames_kept [] xs ys a e = refl
frames_kept (f ∷ fs) xs ys a e = rw e refl

-- The operands from a place on are replaced, which is within the innermost list.
pub replaced_from : (fs : List Frame) (xs ys : List (operands.Operand Index)) (at : ℕ) (a : List ℕ) → base_of fs ≤ at → at ≤ length xs
    → view_of fs (take at xs ++ ys) a ≡ record { now = record { known = reverse ys ++ reverse (drop (base_of fs) (take at xs)); is_open = is_open_of fs; assigned = a }; frames = frames_of fs xs a }
replaced_from fs xs ys at a b le =
    let len : length (take at xs) ≡ at = length-take-le at xs le in
    let below : base_of fs ≤ length (take at xs) = omega arith in
    let known : reverse (drop (base_of fs) (take at xs ++ ys)) ≡ reverse ys ++ reverse (drop (base_of fs) (take at xs)) = appended_known (take at xs) ys (base_of fs) below in
    let same : frames_of fs (take at xs ++ ys) a ≡ frames_of fs xs a = frames_kept fs (take at xs ++ ys) xs a (take-append-le (base_of fs) (take at xs) ys below ∙ take-take (base_of fs) at xs b) in
    rw (known, same) refl

-- ---- changes of the operands. The operands are those of the code.

pub pushed : (fs : List Frame) (old new : List Operand) (x : Operand) (a : List ℕ) → AreWithin fs (length old) (length a) → new ≡ old ++ x ∷ []
    → view_of fs (map operand new) a ≡ at_list (put (operand x) (state_of fs (map operand old) a)) (view_of fs (map operand old) a)
pushed fs old new x a w e =
    let len : length (map operand old) ≡ length old = length-map old operand in
    let all : map operand new ≡ take (length (map operand old)) (map operand old) ++ operand x ∷ [] = ap (map operand) e ∙ map-append operand old (x ∷ []) ∙ ap (λ l. l ++ operand x ∷ []) (sym (take_all (length (map operand old)) (map operand old) (omega arith))) in
    let b : base_of fs ≤ length (map operand old) = omega (arith, base_within fs (length old) (length a) w) in
    let whole : take (length (map operand old)) (map operand old) ≡ map operand old = take_all (length (map operand old)) (map operand old) (omega arith) in
    ap (λ l. view_of fs l a) all ∙ replaced_from fs (map operand old) (operand x ∷ []) (length (map operand old)) a b (omega arith) ∙ rw whole refl

-- the last n are gone, and others stand there
pub replaced : (fs : List Frame) (old : List Operand) (all ys : List (operands.Operand Index)) (at n : ℕ) (a : List ℕ) → AreWithin fs (length old) (length a)
    → at ≡ base_of fs + (length old - base_of fs - n) → all ≡ take at (map operand old) ++ ys
    → view_of fs all a ≡ record { now = record { known = reverse ys ++ drop n (reverse (drop (base_of fs) (map operand old))); is_open = is_open_of fs; assigned = a }; frames = frames_of fs (map operand old) a }
replaced fs old all ys at n a w e is =
    let len : length (map operand old) ≡ length old = length-map old operand in
    let le = base_within fs (length old) (length a) w in
    let b : base_of fs ≤ length (map operand old) = omega arith in
    let known : reverse (drop (base_of fs) (take at (map operand old))) ≡ drop n (reverse (drop (base_of fs) (map operand old))) =
    subst (λ k. reverse (drop (base_of fs) (take k (map operand old))) ≡ drop n (reverse (drop (base_of fs) (map operand old)))) (ap (λ k. base_of fs + (k - base_of fs - n)) len ∙ sym e) (lowered_known (map operand old) (base_of fs) n b) in
    ap (λ l. view_of fs l a) is ∙ replaced_from fs (map operand old) ys at a (omega arith) (omega arith) ∙ ap (λ l. record { now = record { known = reverse ys ++ l; is_open = is_open_of fs; assigned = a }; frames = frames_of fs (map operand old) a }) known

-- how many there are after the last ones were replaced
pub length_replaced : (old new : List Operand) (ys : List (operands.Operand Index)) (at : ℕ) → at ≤ length old → map operand new ≡ take at (map operand old) ++ ys → length new ≡ at + length ys
length_replaced old new ys at le is =
    let len : length (map operand old) ≡ length old = length-map old operand in
    let m : length (map operand new) ≡ length new = length-map new operand in
    let t : length (take at (map operand old)) ≡ at = length-take-le at (map operand old) (omega arith) in
    omega (arith, ap length is, length-append (take at (map operand old)) ys)

pub replaced_within : (fs : List Frame) (old new : List Operand) (ys : List (operands.Operand Index)) (at k : ℕ) → AreWithin fs (length old) k → base_of fs ≤ at → at ≤ length old
    → map operand new ≡ take at (map operand old) ++ ys → AreWithin fs (length new) k
replaced_within fs old new ys at k w b le is =
    let len = length_replaced old new ys at le is in
    within fs (length old) k (length new) k w (omega arith) (omega arith)

-- ---- changes of the innermost block

pub frames_split : (cs : List Frame) (x : Frame) → 0 < length cs → x ≡ get_or cs (length cs - 1) x → reverse cs ≡ x ∷ reverse (take (length cs - 1) cs)
frames_split cs x lt is =
    let e : length cs ≡ suc (length cs - 1) = omega arith in
    subst (λ z. reverse cs ≡ z ∷ reverse (take (length cs - 1) cs)) (sym is) (reverse_last cs (length cs - 1) x e)

-- a block is opened above all but the last n
pub entered : (fs : List Frame) (f : Frame) (old : List Operand) (all : List (operands.Operand Index)) (params : List ValType) (n : ℕ) (a : List ℕ) → AreWithin fs (length old) (length a)
    → f.height ≡ base_of fs + (length old - base_of fs - n) → f.init_height ≡ length a → f.unreachable ≡ false → all ≡ take f.height (map operand old) ++ all_of params
    → view_of (f ∷ fs) all a ≡ entered_by (frame_kind f.kind) (block_with_ids f.block_type) n (map val_type params) (view_of fs (map operand old) a)
entered fs f old all params n a w e i shut is =
    let at = f.height in
    let xs = map operand old in
    let len : length (map operand old) ≡ length old = length-map old operand in
    let le = base_within fs (length old) (length a) w in
    let t : length (take f.height (map operand old)) ≡ f.height = length-take-le f.height (map operand old) (omega arith) in
    let front : take f.height all ≡ take f.height (map operand old) = ap (take f.height) is ∙ take-append-le f.height (take f.height (map operand old)) (all_of params) (omega arith) ∙ take-take f.height f.height (map operand old) (omega arith) in
    let rest : drop f.height all ≡ all_of params = ap (drop f.height) is ∙ subst (λ k. drop k (take f.height (map operand old) ++ all_of params) ≡ all_of params) t (drop-append_seam (take f.height (map operand old)) (all_of params)) in
    let kept : take f.init_height a ≡ a = take_all f.init_height a (omega arith) in
    let r = replaced fs old (take f.height (map operand old)) [] f.height n a w e (sym (append-nil (take f.height (map operand old)))) in
    let known : reverse (drop (base_of fs) (take f.height (map operand old))) ≡ drop n (reverse (drop (base_of fs) (map operand old))) = ap (λ (m : machine.Machine Index). m.now.known) r in
    let same : frames_of fs (take f.height (map operand old)) a ≡ frames_of fs (map operand old) a = ap (λ (m : machine.Machine Index). m.frames) r in
    rw (rest, shut, front, kept, known, same, append-nil (reverse (all_of params))) refl

pub entered_within : (fs : List Frame) (f : Frame) (old new : List Operand) (ys : List (operands.Operand Index)) (k : ℕ) → AreWithin fs (length old) k → base_of fs ≤ f.height → f.height ≤ length old → f.init_height ≡ k
    → map operand new ≡ take f.height (map operand old) ++ ys → AreWithin (f ∷ fs) (length new) k
entered_within fs f old new ys k w b le i is =
    let len = length_replaced old new ys f.height le is in
    (omega arith, omega arith, within fs (length old) k f.height f.init_height w b (omega arith))

-- the innermost block is closed, and gives operands to the list around it
pub left : (fs : List Frame) (f : Frame) (old : List Operand) (all : List (operands.Operand Index)) (results : List ValType) (a : List ℕ) → AreWithin (f ∷ fs) (length old) (length a)
    → all ≡ take f.height (map operand old) ++ all_of results → view_of fs all (take f.init_height a) ≡ left_with (map val_type results) (view_of (f ∷ fs) (map operand old) a)
left fs f old all results a w is =
    let len : length (map operand old) ≡ length old = length-map old operand in
    let b = base_within fs f.height f.init_height w.2 in
    let t : length (take f.height (map operand old)) ≡ f.height = length-take-le f.height (map operand old) (omega (arith, w.0)) in
    let twice : take f.height (take f.height (map operand old)) ≡ take f.height (map operand old) = take-take f.height f.height (map operand old) (omega arith) in
    let all' : all ≡ take f.height (take f.height (map operand old)) ++ all_of results = rw twice is in
    ap (λ l. view_of fs l (take f.init_height a)) all' ∙ replaced_from fs (take f.height (map operand old)) (all_of results) f.height (take f.init_height a) b (omega arith) ∙ rw twice refl

pub left_within : (fs : List Frame) (f : Frame) (old new : List Operand) (ys : List (operands.Operand Index)) (a : List ℕ) → AreWithin (f ∷ fs) (length old) (length a) → map operand new ≡ take f.height (map operand old) ++ ys → AreWithin fs (length new) (length (take f.init_height a))
left_within fs f old new ys a w is =
    let len = length_replaced old new ys f.height w.0 is in
    let t : length (take f.init_height a) ≡ f.init_height = length-take-le f.init_height a w.1 in
    let b = base_within fs f.height f.init_height w.2 in
    within fs f.height f.init_height (length new) (length (take f.init_height a)) w.2 (omega arith) (omega arith)

-- the second list of the innermost block begins
pub else_is : (fs : List Frame) (f g : Frame) (old : List Operand) (all : List (operands.Operand Index)) (params : List ValType) (a : List ℕ) → AreWithin (f ∷ fs) (length old) (length a)
    → g ≡ record f { kind = kinds.Else; unreachable = false } → all ≡ take f.height (map operand old) ++ all_of params → view_of (g ∷ fs) all (take f.init_height a) ≡ else_with (map val_type params) (view_of (f ∷ fs) (map operand old) a)
else_is fs f g old all params a w same is =
    let len : length (map operand old) ≡ length old = length-map old operand in
    let t : length (take f.height (map operand old)) ≡ f.height = length-take-le f.height (map operand old) (omega (arith, w.0)) in
    let front : take f.height all ≡ take f.height (map operand old) = ap (take f.height) is ∙ take-append-le f.height (take f.height (map operand old)) (all_of params) (omega arith) ∙ take-take f.height f.height (map operand old) (omega arith) in
    let rest : drop f.height all ≡ all_of params = ap (drop f.height) is ∙ subst (λ k. drop k (take f.height (map operand old) ++ all_of params) ≡ all_of params) t (drop-append_seam (take f.height (map operand old)) (all_of params)) in
    let kept : take f.init_height (take f.init_height a) ≡ take f.init_height a = take-take f.init_height f.init_height a (omega arith) in
    rw (same, rest, front, kept, append-nil (reverse (all_of params))) refl

pub else_within : (fs : List Frame) (f g : Frame) (old new : List Operand) (ys : List (operands.Operand Index)) (a : List ℕ) → AreWithin (f ∷ fs) (length old) (length a) → g ≡ record f { kind = kinds.Else; unreachable = false }
    → map operand new ≡ take f.height (map operand old) ++ ys → AreWithin (g ∷ fs) (length new) (length (take f.init_height a))
else_within fs f g old new ys a w same is =
    let len = length_replaced old new ys f.height w.0 is in
    let t : length (take f.init_height a) ≡ f.init_height = length-take-le f.init_height a w.1 in
    rw same (omega arith, omega arith, w.2)

-- what follows in the innermost list is never reached
pub marked : (fs : List Frame) (f g : Frame) (old : List Operand) (a : List ℕ) → AreWithin (f ∷ fs) (length old) (length a) → g ≡ record f { unreachable = true }
    → view_of (g ∷ fs) (map operand (take f.height old)) a ≡ at_list (nothing_known (state_of (f ∷ fs) (map operand old) a)) (view_of (f ∷ fs) (map operand old) a)
marked fs f g old a w same =
    let front : map operand (take f.height old) ≡ take f.height (map operand old) = sym (take-map operand f.height old) in
    let len : length (take f.height (map operand old)) ≤ f.height = omega (arith, length-take f.height (map operand old)) in
    rw (same, front, drop_of_length-le (take f.height (map operand old)) len, take-take f.height f.height (map operand old) (omega arith)) refl

pub marked_within : (fs : List Frame) (f g : Frame) (old : List Operand) (k : ℕ) → AreWithin (f ∷ fs) (length old) k → g ≡ record f { unreachable = true } → AreWithin (g ∷ fs) (length (take f.height old)) k
marked_within fs f g old k w same =
    let len : length (take f.height old) ≡ f.height = length-take-le f.height old w.0 in
    rw same (omega arith, w.1, w.2)

-- there is an open block where one is seen
pub some_frame : (cs : List Frame) (xs : List (operands.Operand Index)) (a : List ℕ) → (frames_of (reverse cs) xs a ≡ [] → ⊥) → 0 < length cs
some_frame [] xs a n = absurd (n refl)
some_frame (c ∷ cs) xs a n = omega arith

-- ---- open blocks

frames_length : (fs : List Frame) (xs : List (operands.Operand Index)) (a : List ℕ) → length (frames_of fs xs a) ≡ length fs
frames_length [] xs a = refl
frames_length (f ∷ fs) xs a = ap suc (frames_length fs (take f.height xs) (take f.init_height a))

pub length_frames : (cs : List Frame) (xs : List (operands.Operand Index)) (a : List ℕ) → length (frames_of (reverse cs) xs a) ≡ length cs
length_frames cs xs a = frames_length (reverse cs) xs a ∙ length-reverse cs

frames_get : (fs : List Frame) (xs : List (operands.Operand Index)) (a : List ℕ) (d : ℕ) → option_map block_seen (slice_get (frames_of fs xs a) d) ≡ option_map block_kept (slice_get fs d)
frames_get [] xs a d = refl
frames_get (f ∷ fs) xs a zero = refl
frames_get (f ∷ fs) xs a (suc d) = frames_get fs (take f.height xs) (take f.init_height a) d

pub frame_there : (cs : List Frame) (xs : List (operands.Operand Index)) (a : List ℕ) (d : ℕ) (x : Frame) → d < length cs → x ≡ get_or cs (length cs - 1 - d) x → option_map block_seen (slice_get (frames_of (reverse cs) xs a) d) ≡ Some (block_kept x)
frame_there cs xs a d x lt is =
    let lt' : d < length (reverse cs) = omega (arith, length-reverse cs) in
    frames_get (reverse cs) xs a d ∙ ap (option_map block_kept) (slice_get-get_or (reverse cs) d x lt' ∙ ap Some (get_or-reverse cs d x lt ∙ sym is))

pub frame_past : (cs : List Frame) (xs : List (operands.Operand Index)) (a : List ℕ) (d : ℕ) → length cs ≤ d → option_map block_seen (slice_get (frames_of (reverse cs) xs a) d) ≡ None
frame_past cs xs a d le =
    let le' : length (reverse cs) ≤ d = omega (arith, length-reverse cs) in
    frames_get (reverse cs) xs a d ∙ ap (option_map block_kept) (slice_get_past (reverse cs) d le')

-- ---- all operands

-- the lists of all blocks make up the whole
known_whole : (fs : List Frame) (xs : List (operands.Operand Index)) (a : List ℕ) → AreWithin fs (length xs) (length a) → (state_of fs xs a).known ++ known_below (frames_of fs xs a) ≡ reverse xs
known_whole [] xs a w = append-nil (reverse xs)
known_whole (f ∷ fs) xs a w =
    let n : length (take f.height xs) ≡ f.height = length-take-le f.height xs w.0 in
    let k : length (take f.init_height a) ≡ f.init_height = length-take-le f.init_height a w.1 in
    let w' : AreWithin fs (length (take f.height xs)) (length (take f.init_height a)) = rw (n, k) w.2 in
    ap (λ l. reverse (drop f.height xs) ++ l) (known_whole fs (take f.height xs) (take f.init_height a) w') ∙ sym (reverse-append (take f.height xs) (drop f.height xs)) ∙ ap reverse (take-append-drop f.height xs)

pub all_known_is : (fs : List Frame) (old : List Operand) (a : List ℕ) → AreWithin fs (length old) (length a) → all_known (view_of fs (map operand old) a) ≡ reverse (map operand old)
all_known_is fs old a w = known_whole fs (map operand old) a (rw (length-map old operand) w)

places_get : (fs : List Frame) (xs : List (operands.Operand Index)) (a : List ℕ) (d : ℕ) → AreWithin fs (length xs) (length a) → slice_get (places_from (is_open_of fs) (frames_of fs xs a)) d ≡ option_map place_kept (slice_get fs d)
places_get [] xs a d w = refl
places_get (f ∷ fs) xs a zero w =
    let n : length (take f.height xs) ≡ f.height = length-take-le f.height xs w.0 in
    let k : length (take f.init_height a) ≡ f.init_height = length-take-le f.init_height a w.1 in
    let w' : AreWithin fs (length (take f.height xs)) (length (take f.init_height a)) = rw (n, k) w.2 in
    ap (λ l. Some (length l, f.unreachable)) (known_whole fs (take f.height xs) (take f.init_height a) w') ∙ ap (λ k. Some (k, f.unreachable)) (length-reverse (take f.height xs) ∙ n)
places_get (f ∷ fs) xs a (suc d) w =
    let n : length (take f.height xs) ≡ f.height = length-take-le f.height xs w.0 in
    let k : length (take f.init_height a) ≡ f.init_height = length-take-le f.init_height a w.1 in
    places_get fs (take f.height xs) (take f.init_height a) d (rw (n, k) w.2)

pub place_there : (cs : List Frame) (old : List Operand) (a : List ℕ) (d : ℕ) (x : Frame) → AreWithin (reverse cs) (length old) (length a) → d < length cs → x ≡ get_or cs (length cs - 1 - d) x → slice_get (places_of (view_of (reverse cs) (map operand old) a)) d ≡ Some (place_kept x)
place_there cs old a d x w lt is =
    let lt' : d < length (reverse cs) = omega (arith, length-reverse cs) in
    places_get (reverse cs) (map operand old) a d (rw (length-map old operand) w) ∙ ap (option_map place_kept) (slice_get-get_or (reverse cs) d x lt' ∙ ap Some (get_or-reverse cs d x lt ∙ sym is))

pub place_past : (cs : List Frame) (old : List Operand) (a : List ℕ) (d : ℕ) → AreWithin (reverse cs) (length old) (length a) → length cs ≤ d → slice_get (places_of (view_of (reverse cs) (map operand old) a)) d ≡ None
place_past cs old a d w le =
    let le' : length (reverse cs) ≤ d = omega (arith, length-reverse cs) in
    places_get (reverse cs) (map operand old) a d (rw (length-map old operand) w) ∙ ap (option_map place_kept) (slice_get_past (reverse cs) d le')

-- the operand at a depth
pub operand_there : (old : List Operand) (d : ℕ) (x : Operand) → d < length old → x ≡ get_or old (length old - 1 - d) x → slice_get (reverse (map operand old)) d ≡ Some (operand x)
operand_there old d x lt is =
    let len : length (map operand old) ≡ length old = length-map old operand in
    let lt' : d < length (reverse (map operand old)) = omega (arith, length-reverse (map operand old)) in
    let at : length old - 1 - d < length old = omega arith in
    slice_get-get_or (reverse (map operand old)) d (operand x) lt' ∙ ap Some (get_or-reverse (map operand old) d (operand x) (omega arith) ∙ ap (λ k. get_or (map operand old) (k - 1 - d) (operand x)) len ∙ get_or-map operand old (length old - 1 - d) x (operand x) (omega arith) ∙ ap operand (sym is))

pub operand_past : (old : List Operand) (d : ℕ) → length old ≤ d → slice_get (reverse (map operand old)) d ≡ None
operand_past old d le = slice_get_past (reverse (map operand old)) d (omega (arith, length-reverse (map operand old), length-map old operand))

-- an operand of the innermost list, below others
pub peeked : (b : ℕ) (old : List Operand) (d : ℕ) (x : Operand) (s : State Index) → s.known ≡ reverse (drop b (map operand old)) → d < length old - b → x ≡ get_or old (length old - 1 - d) x → popped (lowered d s) ≡ Some (operand x, lowered (d + 1) s)
peeked b old d x s known lt is =
    let len : length (map operand old) ≡ length old = length-map old operand in
    let n : length (drop b (map operand old)) ≡ length old - b = omega (arith, length-drop b (map operand old)) in
    let m : length (reverse (drop b (map operand old))) ≡ length old - b = omega (arith, length-reverse (drop b (map operand old))) in
    let here : get_or (reverse (drop b (map operand old))) d (operand x) ≡ operand x =
    get_or-reverse (drop b (map operand old)) d (operand x) (omega arith)
    ∙ ap (λ k. get_or (drop b (map operand old)) (k - 1 - d) (operand x)) n
    ∙ get_or-drop b (map operand old) (length old - b - 1 - d) (operand x)
    ∙ ap (λ k. get_or (map operand old) k (operand x)) (omega arith)
    ∙ get_or-map operand old (length old - 1 - d) x (operand x) (omega arith) ∙ ap operand (sym is) in
    let e : drop d s.known ≡ operand x ∷ drop (d + 1) s.known = rw add-one (drop-cons s.known d (operand x) (rw known (omega arith)) ∙ ap (λ y. y ∷ drop (suc d) s.known) (ap (λ l. get_or l d (operand x)) known ∙ here)) in
    ap (λ l. popped_from l (lowered d s)) e

-- ---- assigned locals

pub within_more : (fs : List Frame) (n k l : ℕ) → k ≤ l → AreWithin fs n k → AreWithin fs n l
within_more [] n k l le h = tt
within_more (f ∷ fs) n k l le h = (h.0, omega (arith, h.1), h.2)

-- one more local is assigned, which no open block sees
frames_of_more : (fs : List Frame) (xs : List (operands.Operand Index)) (a : List ℕ) (x n : ℕ) → AreWithin fs n (length a) → frames_of fs xs (a ++ x ∷ []) ≡ frames_of fs xs a
frames_of_more [] xs a x n w = refl
frames_of_more (f ∷ fs) xs a x n w = rw (take-append-le f.init_height a (x ∷ []) w.1) refl

pub more_assigned : (fs : List Frame) (xs : List (operands.Operand Index)) (a : List ℕ) (x n : ℕ) → AreWithin fs n (length a) → is_among a x ≡ false
    → view_of fs xs (a ++ x ∷ []) ≡ at_list (marked_local x (state_of fs xs a)) (view_of fs xs a)
more_assigned fs xs a x n w e = rw (e, frames_of_more fs xs a x n w) refl
