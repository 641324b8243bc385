-- From a contract by the reading function to the one by the relation.
use Rattle.std.proofs.Common.{◌≡◌, ℕ, suc, ℤ, List, [], ◌∷◌, get_or, Fits, w8, take, drop, Option, Some, Result, Ok, Err, sym, ap, subst, ◌∙◌, arith}
use Rattle.std.proofs.lemmas.List.{take-append-drop}
use Rattle.wasm_spec.specs.Bytes.{AreBytes}
use Rattle.wasm_core_read.specs.declared.malformed.Malformed.{Malformed}
use Rattle.wasm_core_read.specs.Input.{Input, GoesOn}
use Rattle.wasm_core_read.specs.Laws.{ReadsExactly, Reads}
use Rattle.wasm_core_read.specs.Reading.{Gives, unsigned_at, signed_at}
use Rattle.wasm_core_read.proofs.Forms.{some_is, parts_are, rest_bytes, unsigned_found}
use Rattle.wasm_core_read.proofs.NumberForms.{signed_found}

-- what a slice holds is bytes
pub slice_bytes : (bytes : List ℕ) → ((k : ℕ) → Fits w8 (get_or bytes k 0)) → AreBytes bytes
slice_bytes [] h = tt
slice_bytes (b ∷ bs) h = (omega (arith, h 0), slice_bytes bs (λ k. h (suc k)))

pub reads_from : {X A : Type 0} (IsA : List ℕ → A → Type 0) (a_at : List ℕ → Option (A × List ℕ)) → ReadsExactly IsA a_at → (view : X → A) (old new : Input) (r : Result X Malformed)
    → AreBytes old.rest → Gives view old new r (a_at old.rest) → Reads IsA view old new r
reads_from IsA a_at law view old new (Ok x) are h =
    let f = law.found old.rest (view x) new.rest are h.0 in
    record {
      found = record { encoding = f.0; parts = f.1; encodes = f.2 };
      only = λ w rest b.
          let both = some_is (w, rest) (view x, new.rest) (sym (law.again b.encoding w rest b.encodes) ∙ ap a_at (sym b.parts) ∙ h.0) in
          (ap (λ q. q.0) both, ap (λ q. q.1) both);
      goes_on = h.1;
    }
reads_from IsA a_at law view old new (Err e) are h =
    (record { none = λ w rest b. let some = sym (law.again b.encoding w rest b.encodes) ∙ ap a_at (sym b.parts) ∙ h.0 in absurd cc; within = h.2 }, h.1)

-- what stands after a number in bytes is bytes
pub after_number : (bits : ℕ) (bytes : List ℕ) (v : ℕ) (rest : List ℕ) → AreBytes bytes → Some (v, rest) ≡ unsigned_at bits bytes → AreBytes rest
after_number bits bytes v rest h e = let f = unsigned_found bits bytes v rest h (sym e) in rest_bytes bytes f.0 rest h f.1

pub after_signed : (bits : ℕ) (bytes : List ℕ) (v : ℤ) (rest : List ℕ) → AreBytes bytes → Some (v, rest) ≡ signed_at bits bytes → AreBytes rest
after_signed bits bytes v rest h e = let f = signed_found bits bytes v rest h (sym e) in rest_bytes bytes f.0 rest h f.1

-- a part of bytes is bytes
pub dropped : (n : ℕ) (bytes : List ℕ) → AreBytes bytes → AreBytes (drop n bytes)
dropped n bytes h = (parts_are (take n bytes) (drop n bytes) (subst AreBytes (sym (take-append-drop n bytes)) h)).1

pub goes_further : (a b c : Input) → GoesOn a b → GoesOn b c → GoesOn a c
goes_further a b c g h = record {
  forward = omega (arith, g.forward, h.forward);
  same_end = h.same_end ∙ g.same_end;
  same_features = h.same_features ∙ g.same_features;
}
