-- Each reading is that of its form: numbers, bytes, bodies, names.
use Rattle.std.proofs.Common.{◌≡◌, ℕ, ◌+◌, ◌-◌, ◌*◌, ◌^◌, ◌<◌, ◌≤◌, true, false, cond, ltb, leb, List, [], ◌∷◌, ◌++◌, length, take, drop, Option, Some, None, refl, sym, ap, subst, ◌∙◌, append_assoc, arith, inl, inr, ◌⊎◌}
use Rattle.std.specs.Str.{is_utf8}
use Rattle.std.proofs.lemmas.Bool.{cases_lt, le-ltb, lt-ltb, le-leb, leb-true}
use Rattle.std.proofs.lemmas.Option.{cond_some}
use Rattle.std.proofs.lemmas.List.{append_cancel_right, append-nil, length-append, take-append-drop, length-take}
use Rattle.std.proofs.Math.Seq.{take-append_seam, drop-append_seam}
use Rattle.wasm_spec.specs.Bytes.{AreBytes, IsBytesOf, IsOneByte, IsUnsigned, IsU32, IsName}
use Rattle.wasm_spec.specs.ModuleParts.{IsBody}
use Rattle.wasm_core_read.specs.Laws.{ReadsExactly, FillsExactly, IsPrefixFree}
use Rattle.wasm_core_read.specs.PartReading.{body_at}
use Rattle.wasm_core_read.specs.Reading.{◌>>=◌, byte_at, unsigned_at, bytes_at, name_at, filled}
use Rattle.wasm_core_read.proofs.Names.{utf8, utf8_from}

-- the value of a step that did not fail
pub bind_some : {A B : Type 0} (r : Option A) (f : A → Option B) (y : B) → (r >>= f) ≡ Some y → (x : A) × (r ≡ Some x) × (f x ≡ Some y)
bind_some (Some x) f y e = (x, refl, e)
bind_some None f y e = absurd cc

abbrev done : {A : Type 0} → A → Option A
done x = Some x

pub some_is : {A : Type 0} (x y : A) → done x ≡ done y → x ≡ y
some_is x y e = cc

pub ltb_tells : (a b : ℕ) → ((ltb a b ≡ true) × (a < b)) ⊎ ((ltb a b ≡ false) × (b ≤ a))
ltb_tells a b = elim (cases_lt a b) [ inl lt ↦ inl (lt-ltb a b lt, lt) | inr le ↦ inr (le-ltb a b le, le) ]

-- one encoding after the other
pub joined : (bytes a mid b rest : List ℕ) → bytes ≡ a ++ mid → mid ≡ b ++ rest → bytes ≡ (a ++ b) ++ rest
joined bytes a mid b rest p q = p ∙ ap (λ (l : List ℕ). a ++ l) q ∙ sym (append_assoc a b rest)

-- both parts of bytes are bytes
pub parts_are : (a b : List ℕ) → AreBytes (a ++ b) → AreBytes a × AreBytes b
parts_are [] b h = (tt, h)
parts_are (x ∷ a) b h = let p = parts_are a b h.1 in ((h.0, p.0), p.1)

-- what stands after an encoding in bytes is bytes
pub rest_bytes : (bytes a rest : List ℕ) → AreBytes bytes → bytes ≡ a ++ rest → AreBytes rest
rest_bytes bytes a rest h e = (parts_are a rest (subst AreBytes e h)).1

abbrev pub Found : {A : Type 0} → (List ℕ → A → Type 0) → List ℕ → A → List ℕ → Type 0
Found IsA bytes v rest = (encoding : List ℕ) × (bytes ≡ encoding ++ rest) × IsA encoding v

-- ---- one byte

byte_found : (bytes : List ℕ) (v : ℕ) (rest : List ℕ) → AreBytes bytes → byte_at bytes ≡ Some (v, rest) → Found IsOneByte bytes v rest
unfolding byte_at
byte_found [] v rest h e = absurd cc
byte_found (b ∷ bs) v rest h e =
    let p = some_is (b, bs) (v, rest) e in
    subst (λ (x : ℕ × List ℕ). Found IsOneByte (b ∷ bs) x.0 x.1) p (b ∷ [], refl, (refl, h.0))

pub reads_byte : ReadsExactly IsOneByte byte_at
unfolding byte_at
reads_byte = record { found = byte_found; again = λ bytes v rest h. rw h.0 refl }

-- ---- numbers

longer : (bits b : ℕ) (bytes : List ℕ) (high : ℕ) → 128 ≤ b → b < 256 → 7 < bits → IsUnsigned (bits - 7) bytes high → IsUnsigned bits (b ∷ bytes) (b - 128 + 128 * high)
longer bits b [] high large small many h = absurd h
longer bits b (c ∷ cs) high large small many h = (large, small, many, high, omega arith, h)

pub unsigned_found : (bits : ℕ) (bytes : List ℕ) (v : ℕ) (rest : List ℕ) → AreBytes bytes → unsigned_at bits bytes ≡ Some (v, rest) → Found (IsUnsigned bits) bytes v rest
unfolding unsigned_at
unsigned_found bits [] v rest h e = absurd cc
unsigned_found bits (b ∷ bs) v rest h e =
    elim (ltb_tells b 128) [
      | inl (t, small) ↦ elim (ltb_tells b (2 ^ bits)) [
        | inl (u, fits) ↦
            let p = some_is (b, bs) (v, rest) (rw (t, u) at e) in
            subst (λ (x : ℕ × List ℕ). Found (IsUnsigned bits) (b ∷ bs) x.0 x.1) p (b ∷ [], refl, (small, fits, refl))
        | inr (u, large) ↦ let f = rw (t, u) at e in absurd cc
      ]
      | inr (t, large) ↦ elim (ltb_tells 7 bits) [
        | inl (u, many) ↦
            let s = bind_some (unsigned_at (bits - 7) bs) (λ x. Some (b - 128 + 128 * x.0, x.1)) (v, rest) (rw (t, u) at e) in
            let ih = unsigned_found (bits - 7) bs s.0.0 s.0.1 h.1 s.1 in
            subst (λ (x : ℕ × List ℕ). Found (IsUnsigned bits) (b ∷ bs) x.0 x.1) (some_is (b - 128 + 128 * s.0.0, s.0.1) (v, rest) s.2)
            (b ∷ ih.0, ap (λ (l : List ℕ). b ∷ l) ih.1, longer bits b ih.0 s.0.0 large h.0 many ih.2)
        | inr (u, few) ↦ let f = rw (t, u) at e in absurd cc
      ]
    ]

pub unsigned_again : (bits : ℕ) (bytes : List ℕ) (v : ℕ) (rest : List ℕ) → IsUnsigned bits bytes v → unsigned_at bits (bytes ++ rest) ≡ Some (v, rest)
unfolding unsigned_at
unsigned_again bits [] v rest h = absurd h
unsigned_again bits (b ∷ []) v rest h =
    let t : ltb b 128 ≡ true = lt-ltb b 128 h.0 in
    let u : ltb b (2 ^ bits) ≡ true = lt-ltb b (2 ^ bits) h.1 in
    rw (t, u) (ap (λ (n : ℕ). Some (n, rest)) (sym h.2))
unsigned_again bits (b ∷ c ∷ bs) v rest h =
    let t : ltb b 128 ≡ false = le-ltb b 128 h.0 in
    let u : ltb 7 bits ≡ true = lt-ltb 7 bits h.2 in
    let ih = unsigned_again (bits - 7) (c ∷ bs) h.3 rest h.5 in
    rw (t, u, ih) (ap (λ (n : ℕ). Some (n, rest)) (omega (arith, h.4)))

pub reads_unsigned : (bits : ℕ) → ReadsExactly (IsUnsigned bits) (unsigned_at bits)
reads_unsigned bits = record { found = unsigned_found bits; again = unsigned_again bits }

-- ---- so many bytes

pub bytes_found : (n : ℕ) (bytes x rest : List ℕ) → bytes_at n bytes ≡ Some (x, rest) → (bytes ≡ x ++ rest) × (length x ≡ n)
unfolding bytes_at
bytes_found n bytes x rest e =
    let p = cond_some (leb n (length bytes)) (take n bytes, drop n bytes) (x, rest) e in
    let le : n ≤ length bytes = leb-true n (length bytes) p.0 in
    let x-is : take n bytes ≡ x = ap (λ (q : List ℕ × List ℕ). q.0) p.1 in
    let rest-is : drop n bytes ≡ rest = ap (λ (q : List ℕ × List ℕ). q.1) p.1 in
    (rw (← x-is, ← rest-is) (sym (take-append-drop n bytes)), rw (← x-is) (omega (arith, length-take n bytes)))

pub bytes_again : (x rest : List ℕ) → bytes_at (length x) (x ++ rest) ≡ Some (x, rest)
unfolding bytes_at
bytes_again x rest =
    let t : leb (length x) (length (x ++ rest)) ≡ true = le-leb _ _ (omega (arith, length-append x rest)) in
    rw (t, take-append_seam x rest, drop-append_seam x rest) refl

pub reads_bytes : (n : ℕ) → ReadsExactly (IsBytesOf n) (bytes_at n)
reads_bytes n = record {
  found = λ bytes v rest h e. let p = bytes_found n bytes v rest e in (v, p.0, (((parts_are v rest (subst AreBytes p.0 h)).0, refl), p.1));
  again = λ encoding v rest h. rw (← h.1, ← h.0.1) (bytes_again v rest);
}

-- ---- bodies

-- the size of some bytes, and these
pub sized : (size content rest : List ℕ) → IsU32 size (length content) → body_at (size ++ (content ++ rest)) ≡ Some (content, rest)
unfolding body_at
sized size content rest h = rw (unsigned_again 32 size (length content) (content ++ rest) h) (bytes_again content rest)

body_found : (bytes body rest : List ℕ) → AreBytes bytes → body_at bytes ≡ Some (body, rest) → Found IsBody bytes body rest
unfolding body_at
body_found bytes body rest h e =
    let n = bind_some (unsigned_at 32 bytes) (λ n. bytes_at n.0 n.1) (body, rest) e in
    let size = unsigned_found 32 bytes n.0.0 n.0.1 h n.1 in
    let content = bytes_found n.0.0 n.0.1 body rest n.2 in
    let are = (parts_are body rest (subst AreBytes content.0 (rest_bytes bytes size.0 n.0.1 h size.1))).0 in
    (size.0 ++ body, joined bytes size.0 n.0.1 body rest size.1 content.0, (size.0, body, refl, rw content.1 size.2, (are, refl)))

body_again : (bytes body rest : List ℕ) → IsBody bytes body → body_at (bytes ++ rest) ≡ Some (body, rest)
body_again bytes body rest h =
    let split : bytes ++ rest ≡ h.0 ++ (body ++ rest) = rw (h.2, h.4.1) (append_assoc h.0 h.1 rest) in
    let size : IsU32 h.0 (length body) = rw h.4.1 h.3 in
    ap body_at split ∙ sized h.0 body rest size

pub reads_body : ReadsExactly IsBody body_at
reads_body = record { found = body_found; again = body_again }

-- ---- where the bytes are all of an encoding

pub filled_some : {A : Type 0} (read : Option (A × List ℕ)) (v : A) → filled read ≡ Some v → read ≡ Some (v, [])
filled_some None v e = absurd cc
filled_some (Some (x, [])) v e = ap (λ y. Some (y, [])) (some_is x v e)
filled_some (Some (x, b ∷ rest)) v e = absurd cc

pub fills_filled : {A : Type 0} (IsA : List ℕ → A → Type 0) (a_at : List ℕ → Option (A × List ℕ)) → ReadsExactly IsA a_at → FillsExactly IsA (λ bytes. filled (a_at bytes))
fills_filled IsA a_at law = record {
  found = λ bytes v h e.
      let f = law.found bytes v [] h (filled_some (a_at bytes) v e) in
      subst (λ (l : List ℕ). IsA l v) (sym (f.1 ∙ append-nil f.0)) f.2;
  again = λ encoding v h. let all : a_at encoding ≡ Some (v, []) = ap a_at (sym (append-nil encoding)) ∙ law.again encoding v [] h in rw all refl;
}

-- ---- names

pub reads_name : ReadsExactly IsName name_at
unfolding name_at
reads_name = record {
  found = λ bytes v rest h e.
      let n = bind_some (unsigned_at 32 bytes) (λ n. bytes_at n.0 n.1 >>= λ x. cond (is_utf8 x.0) (Some x) None) (v, rest) e in
      let c = bind_some (bytes_at n.0.0 n.0.1) (λ x. cond (is_utf8 x.0) (Some x) None) (v, rest) n.2 in
      let g = cond_some (is_utf8 c.0.0) c.0 (v, rest) c.2 in
      let size = unsigned_found 32 bytes n.0.0 n.0.1 h n.1 in
      let content = bytes_found n.0.0 n.0.1 c.0.0 c.0.1 c.1 in
      let are = (parts_are c.0.0 c.0.1 (subst AreBytes content.0 (rest_bytes bytes size.0 n.0.1 h size.1))).0 in
      subst (λ x. Found IsName bytes x.0 x.1) g.1
      (size.0 ++ c.0.0, joined bytes size.0 n.0.1 c.0.0 c.0.1 size.1 content.0, ((size.0, c.0.0, refl, rw content.1 size.2, (are, refl)), utf8_from c.0.0 g.0));
  again = λ encoding v rest h.
      let f = h.0 in
      let split : encoding ++ rest ≡ f.0 ++ (v ++ rest) = rw (f.2, f.4.1) (append_assoc f.0 f.1 rest) in
      let size : IsU32 f.0 (length v) = rw f.4.1 f.3 in
      let t : is_utf8 v ≡ true = utf8 v h.1 in
      ap name_at split ∙ rw (unsigned_again 32 f.0 (length v) (v ++ rest) size, bytes_again v rest, t) refl;
}

-- ---- one value, and no encoding that begins another

pub prefix_free : {A : Type 0} (IsA : List ℕ → A → Type 0) (a_at : List ℕ → Option (A × List ℕ)) → ReadsExactly IsA a_at → IsPrefixFree IsA
prefix_free {A = A} IsA a_at law = λ a b x y v w p q e.
    let both : Some (v, x) ≡ Some (w, y) = sym (law.again a v x p) ∙ ap a_at e ∙ law.again b w y q in
    let same = some_is (v, x) (w, y) both in
    let rests : x ≡ y = ap (λ (r : A × List ℕ). r.1) same in
    (append_cancel_right a b y (rw rests at e), ap (λ (r : A × List ℕ). r.0) same)
