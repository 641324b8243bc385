-- Ways of reading that are made of others read what their forms are made of.
use Rattle.std.proofs.Common.{◌≡◌, ℕ, Bool, true, false, cond, eqb, List, [], ◌∷◌, ◌++◌, Option, Some, None, is_some, refl, sym, ap, subst, ◌∙◌, append_assoc, inl, inr}
use Rattle.std.proofs.lemmas.Bool.Decides.{eqb_tells}
use Rattle.std.proofs.lemmas.Bool.{eq-eqb}
use Rattle.std.proofs.lemmas.Option.{cond_some}
use Rattle.wasm_spec.specs.Bytes.{AreBytes, IsU32, IsPair, IsMarked, IsOptional}
use Rattle.wasm_core_read.specs.Laws.{ReadsExactly}
use Rattle.wasm_core_read.specs.Reading.{◌>>=◌, ReadingOf, unsigned_at, seen_at, tested_at, pair_at, optional_at, announced_at, numbered_at, after_code, bare_code, no_code}
use Rattle.wasm_core_read.proofs.Forms.{bind_some, some_is, joined, rest_bytes, Found, unsigned_found}

-- what is read is an encoding of the form
abbrev pub Finds : {A : Type 0} → (List ℕ → A → Type 0) → ReadingOf A → Type 0
Finds {A} IsA a_at = (bytes : List ℕ) (v : A) (rest : List ℕ) → AreBytes bytes → a_at bytes ≡ Some (v, rest) → Found IsA bytes v rest

-- what is read after a code is an encoding of what that code announces
abbrev pub FindsAfter : {A : Type 0} → (ℕ → List ℕ → A → Type 0) → (ℕ → ReadingOf A) → Type 0
FindsAfter IsA form = (code : ℕ) → Finds (IsA code) (form code)

-- ---- views, tests, pairs, parts that may be absent

pub seen : {A B : Type 0} (IsB : List ℕ → B → Type 0) (IsA : List ℕ → A → Type 0) (a_at : ReadingOf A) (view : A → B) → Finds IsA a_at → ((encoding : List ℕ) (a : A) → IsA encoding a → IsB encoding (view a))
    → Finds IsB (seen_at view a_at)
seen IsB IsA a_at view law is = λ bytes v rest are e.
    let a = bind_some (a_at bytes) (λ a. Some (view a.0, a.1)) (v, rest) e in
    let f = law bytes a.0.0 a.0.1 are a.1 in
    subst (λ x. Found IsB bytes x.0 x.1) (some_is (view a.0.0, a.0.1) (v, rest) a.2) (f.0, f.1, is f.0 a.0.0 f.2)

-- one to one
pub reads_seen : {A B : Type 0} (IsA : List ℕ → A → Type 0) (a_at : ReadingOf A) (view : A → B) (back : B → A) → ((a : A) → back (view a) ≡ a) → ((b : B) → view (back b) ≡ b) → ReadsExactly IsA a_at
    → ReadsExactly (λ bytes b. IsA bytes (back b)) (seen_at view a_at)
reads_seen IsA a_at view back from to law = record {
  found = seen (λ bytes b. IsA bytes (back b)) IsA a_at view law.found (λ bytes a h. subst (λ x. IsA bytes x) (sym (from a)) h);
  again = λ bytes v rest h. rw (law.again bytes (back v) rest h) (ap (λ b. Some (b, rest)) (to v));
}

pub reads_tested : {A : Type 0} (IsA : List ℕ → A → Type 0) (a_at : ReadingOf A) (test : A → Bool) → ReadsExactly IsA a_at → ReadsExactly (λ encoding v. IsA encoding v × (test v ≡ true)) (tested_at test a_at)
reads_tested {A = A} IsA a_at test law = record {
  found = λ bytes v rest are e.
      let a = bind_some (a_at bytes) (λ a. cond (test a.0) (Some a) None) (v, rest) e in
      let c = cond_some (test a.0.0) a.0 (v, rest) a.2 in
      let f = law.found bytes a.0.0 a.0.1 are a.1 in
      subst (λ (x : A × List ℕ). Found (λ encoding w. IsA encoding w × (test w ≡ true)) bytes x.0 x.1) c.1 (f.0, f.1, (f.2, c.0));
  again = λ encoding v rest h. rw (law.again encoding v rest h.0, h.1) refl;
}

pub pair : {A B : Type 0} (IsA : List ℕ → A → Type 0) (a_at : ReadingOf A) (IsB : List ℕ → B → Type 0) (b_at : ReadingOf B) → Finds IsA a_at → Finds IsB b_at → Finds (IsPair IsA IsB) (pair_at a_at b_at)
pair {A = A} {B = B} IsA a_at IsB b_at first second = λ bytes v rest are e.
    let a = bind_some (a_at bytes) (λ a. b_at a.1 >>= λ b. Some ((a.0, b.0), b.1)) (v, rest) e in
    let b = bind_some (b_at a.0.1) (λ b. Some ((a.0.0, b.0), b.1)) (v, rest) a.2 in
    let f = first bytes a.0.0 a.0.1 are a.1 in
    let s = second a.0.1 b.0.0 b.0.1 (rest_bytes bytes f.0 a.0.1 are f.1) b.1 in
    subst (λ (x : (A × B) × List ℕ). Found (IsPair IsA IsB) bytes x.0 x.1) (some_is ((a.0.0, b.0.0), b.0.1) (v, rest) b.2)
    (f.0 ++ s.0, joined bytes f.0 a.0.1 s.0 b.0.1 f.1 s.1, (f.0, s.0, refl, f.2, s.2))

pub reads_pair : {A B : Type 0} (IsA : List ℕ → A → Type 0) (a_at : ReadingOf A) (IsB : List ℕ → B → Type 0) (b_at : ReadingOf B) → ReadsExactly IsA a_at → ReadsExactly IsB b_at → ReadsExactly (IsPair IsA IsB) (pair_at a_at b_at)
reads_pair IsA a_at IsB b_at first second = record {
  found = pair IsA a_at IsB b_at first.found second.found;
  again = λ bytes v rest h.
      let split : bytes ++ rest ≡ h.0 ++ (h.1 ++ rest) = rw h.2 (append_assoc h.0 h.1 rest) in
      ap (pair_at a_at b_at) split ∙ rw (first.again h.0 v.0 (h.1 ++ rest) h.3, second.again h.1 v.1 rest h.4) refl;
}

-- a part is there, or not
abbrev pub IsPresent : {A : Type 0} → Bool → (List ℕ → A → Type 0) → List ℕ → Option A → Type 0
IsPresent there IsA bytes v = IsOptional IsA bytes v × (is_some v ≡ there)

pub reads_optional : {A : Type 0} (IsA : List ℕ → A → Type 0) (a_at : ReadingOf A) (there : Bool) → ReadsExactly IsA a_at → ReadsExactly (IsPresent there IsA) (optional_at there a_at)
reads_optional {A = A} IsA a_at true law = record {
  found = seen (IsPresent true IsA) IsA a_at (λ a. Some a) law.found (λ encoding a h. (h, refl));
  again = present;
}
  where
    present : (encoding : List ℕ) (v : Option A) (rest : List ℕ) → IsPresent true IsA encoding v → optional_at true a_at (encoding ++ rest) ≡ Some (v, rest)
    present encoding None rest h = let f = h.1 in absurd cc
    present encoding (Some a) rest h = rw (law.again encoding a rest h.0) refl
reads_optional {A = A} IsA a_at false law = record {
  found = λ bytes v rest are e. subst (λ x. Found (IsPresent false IsA) bytes x.0 x.1) (some_is (None, bytes) (v, rest) e) ([], refl, (refl, refl));
  again = absent;
}
  where
    absent : (encoding : List ℕ) (v : Option A) (rest : List ℕ) → IsPresent false IsA encoding v → optional_at false a_at (encoding ++ rest) ≡ Some (v, rest)
    absent encoding None rest h = rw h.0 refl
    absent encoding (Some a) rest h = let f = h.1 in absurd cc

-- ---- codes

pub none : {A : Type 0} (IsA : ℕ → List ℕ → A → Type 0) → FindsAfter IsA no_code
none IsA code bytes v rest are e = absurd cc

pub bare : {A : Type 0} (IsA : ℕ → List ℕ → A → Type 0) (wanted : ℕ) (x : A) (others : ℕ → ReadingOf A) → IsA wanted [] x → FindsAfter IsA others → FindsAfter IsA (bare_code wanted x others)
bare IsA wanted x others is found code bytes v rest are e =
    elim (eqb_tells code wanted) [
      | inl (t, same) ↦ subst (λ y. Found (IsA code) bytes y.0 y.1) (some_is (x, bytes) (v, rest) (rw t at e)) ([], refl, subst (λ (c : ℕ). IsA c [] x) (sym same) is)
      | inr (t, other) ↦ found code bytes v rest are (rw t at e)
    ]

pub coded : {A : Type 0} (IsA : ℕ → List ℕ → A → Type 0) (wanted : ℕ) (a_at : ReadingOf A) (others : ℕ → ReadingOf A) → Finds (IsA wanted) a_at → FindsAfter IsA others → FindsAfter IsA (after_code wanted a_at others)
coded IsA wanted a_at others first found code bytes v rest are e =
    elim (eqb_tells code wanted) [
      | inl (t, same) ↦ subst (λ (c : ℕ). Found (IsA c) bytes v rest) (sym same) (first bytes v rest are (rw t at e))
      | inr (t, other) ↦ found code bytes v rest are (rw t at e)
    ]

-- what a first byte announces
abbrev pub Announced : {A : Type 0} → (List ℕ → A → Type 0) → ℕ → List ℕ → A → Type 0
Announced IsA code bytes v = IsA (code ∷ bytes) v

pub announced : {A : Type 0} (IsA : List ℕ → A → Type 0) (form : ℕ → ReadingOf A) → FindsAfter (Announced IsA) form → Finds IsA (announced_at form)
announced IsA form found [] v rest are e = absurd cc
announced IsA form found (b ∷ bs) v rest are e =
    let f = found b bs v rest are.1 e in
    (b ∷ f.0, ap (λ (l : List ℕ). b ∷ l) f.1, f.2)

-- what another code announces is read as without this one
pub past_code : {A : Type 0} (wanted : ℕ) (a_at : ReadingOf A) (form : ℕ → ReadingOf A) → ((rest : List ℕ) → form wanted rest ≡ None) → (bytes : List ℕ) (r : A × List ℕ) → announced_at form bytes ≡ Some r
    → announced_at (after_code wanted a_at form) bytes ≡ Some r
past_code wanted a_at form other [] r e = absurd cc
past_code wanted a_at form other (b ∷ bs) r e = elim (eqb_tells b wanted) [
  | inl (t, same) ↦ let no = sym (ap (λ (c : ℕ). form c bs) same ∙ other bs) ∙ e in absurd cc
  | inr (t, different) ↦ rw t e
]

pub past_bare : {A : Type 0} (wanted : ℕ) (x : A) (form : ℕ → ReadingOf A) → ((rest : List ℕ) → form wanted rest ≡ None) → (bytes : List ℕ) (r : A × List ℕ) → announced_at form bytes ≡ Some r
    → announced_at (bare_code wanted x form) bytes ≡ Some r
past_bare wanted x form other [] r e = absurd cc
past_bare wanted x form other (b ∷ bs) r e = elim (eqb_tells b wanted) [
  | inl (t, same) ↦ let no = sym (ap (λ (c : ℕ). form c bs) same ∙ other bs) ∙ e in absurd cc
  | inr (t, different) ↦ rw t e
]

-- what is announced, seen by a view
pub announced_seen : {A B : Type 0} (view : A → B) (form : ℕ → ReadingOf A) (bytes : List ℕ) (a : A) (rest : List ℕ) → announced_at form bytes ≡ Some (a, rest)
    → announced_at (λ code. seen_at view (form code)) bytes ≡ Some (view a, rest)
announced_seen view form [] a rest e = absurd cc
announced_seen view form (b ∷ bs) a rest e = rw e refl

-- what a u32 announces
abbrev pub Numbered : {A : Type 0} → (List ℕ → A → Type 0) → ℕ → List ℕ → A → Type 0
Numbered IsA code bytes v = (number : List ℕ) → IsU32 number code → IsA (number ++ bytes) v

pub numbered : {A : Type 0} (IsA : List ℕ → A → Type 0) (form : ℕ → ReadingOf A) → FindsAfter (Numbered IsA) form → Finds IsA (numbered_at form)
numbered IsA form found bytes v rest are e =
    let n = bind_some (unsigned_at 32 bytes) (λ n. form n.0 n.1) (v, rest) e in
    let number = unsigned_found 32 bytes n.0.0 n.0.1 are n.1 in
    let f = found n.0.0 n.0.1 v rest (rest_bytes bytes number.0 n.0.1 are number.1) n.2 in
    (number.0 ++ f.0, joined bytes number.0 n.0.1 f.0 rest number.1 f.1, f.2 number.0 number.2)

-- ---- forms that are the same

pub same_form : {A : Type 0} (IsA IsB : List ℕ → A → Type 0) (a_at : ReadingOf A) → ((encoding : List ℕ) (v : A) → IsA encoding v → IsB encoding v) → ((encoding : List ℕ) (v : A) → IsB encoding v → IsA encoding v) → ReadsExactly IsA a_at → ReadsExactly IsB a_at
same_form IsA IsB a_at to from law = record {
  found = λ bytes v rest are e. let f = law.found bytes v rest are e in (f.0, f.1, to f.0 v f.2);
  again = λ encoding v rest h. law.again encoding v rest (from encoding v h);
}

-- after a byte that is always the same
pub reads_marked : {A : Type 0} (code : ℕ) (IsA : List ℕ → A → Type 0) (a_at : ReadingOf A) → ReadsExactly IsA a_at → ReadsExactly (IsMarked code IsA) (announced_at (after_code code a_at no_code))
reads_marked code IsA a_at law = record {
  found = announced (IsMarked code IsA) (after_code code a_at no_code)
      (coded (Announced (IsMarked code IsA)) code a_at no_code (λ bytes v rest are e. let f = law.found bytes v rest are e in (f.0, f.1, (f.0, refl, f.2))) (none (Announced (IsMarked code IsA))));
  again = λ encoding v rest h. let t : eqb code code ≡ true = eq-eqb code code refl in rw (h.1, t) (law.again h.0 v rest h.2);
}

pub announced_pair : {A B : Type 0} (form : ℕ → ReadingOf A) (b_at : ReadingOf B) (bytes : List ℕ) → announced_at (λ code. pair_at (form code) b_at) bytes ≡ pair_at (announced_at form) b_at bytes
announced_pair form b_at [] = refl
announced_pair form b_at (b ∷ bs) = refl
