-- Frames, sections and modules are read as their forms say.
use Rattle.std.proofs.Common.{◌≡◌, ℕ, zero, suc, ◌+◌, ◌-◌, ◌*◌, ◌^◌, ◌<◌, ◌≤◌, Bool, true, false, cond, eqb, List, [], ◌∷◌, ◌++◌, length, drop, Option, Some, None, refl, sym, ap, subst, ◌∙◌, append_assoc, arith, inl, inr, length-append}
use Rattle.std.specs.Prelude.{nat_eq, ◌&&◌}
use Rattle.std.specs.List.{AllByRecursion, list_all, starts_with}
use Rattle.std.proofs.lemmas.Bool.{and_from, and_parts, ltb-true, lt-ltb, eqb-true, eq-eqb}
use Rattle.std.proofs.lemmas.Bool.Decides.{Decides-eqb}
use Rattle.std.proofs.lemmas.Option.{cond_some}
use Rattle.std.proofs.lemmas.Slice.Eq.{starts_is}
use Rattle.wasm_spec.specs.Bytes.{AreBytes, IsItems}
use Rattle.wasm_spec.specs.Grammar.{header, section_id, IsSection, place_of, last_place, ComesAfter, AreOrdered, IsModule}
use Rattle.wasm_spec.specs.Syntax.{Section, functions_of, bodies_of, data_of, data_counts_of}
use Rattle.wasm_core_read.specs.Laws.{ReadsExactly, FillsExactly, IsFrame}
use Rattle.wasm_core_read.specs.ModuleReading.{content_of, frame_at, section_at, sections_at, sections_of, is_after, are_ordered, are_counted, in_order, module_of}
use Rattle.wasm_core_read.specs.PartReading.{body_at}
use Rattle.wasm_core_read.specs.Reading.{◌>>=◌, byte_at, unsigned_at, bytes_at}
use Rattle.wasm_core_read.proofs.BytesLaws.{bytes_length}
use Rattle.wasm_core_read.proofs.ContentForms.{fills_content, content_again}
use Rattle.wasm_core_read.proofs.Forms.{bind_some, some_is, Found, rest_bytes, ltb_tells, reads_body, sized}

-- ---- frames

steps : {A B C : Type 0} (r : Option A) (f : A → Option B) (g : B → Option C) → (r >>= λ x. (f x >>= g)) ≡ ((r >>= f) >>= g)
steps (Some x) f g = refl
steps None f g = refl

-- the id, and after it the size and the bytes
id_and_body : (b : ℕ) (bs : List ℕ) → frame_at (b ∷ bs) ≡ (body_at bs >>= λ c. Some ((b, c.0), c.1))
unfolding frame_at byte_at body_at
id_and_body b bs = steps (unsigned_at 32 bs) (λ n. bytes_at n.0 n.1) (λ c. Some ((b, c.0), c.1))

frame_found : (bytes : List ℕ) (frame : ℕ × List ℕ) (rest : List ℕ) → AreBytes bytes → frame_at bytes ≡ Some (frame, rest) → Found IsFrame bytes frame rest
unfolding frame_at byte_at
frame_found [] frame rest h e = absurd cc
frame_found (b ∷ bs) frame rest h e =
    let c = bind_some (body_at bs) (λ c. Some ((b, c.0), c.1)) (frame, rest) (sym (id_and_body b bs) ∙ e) in
    let f = reads_body.found bs c.0.0 c.0.1 h.1 c.1 in
    subst (λ x. Found IsFrame (b ∷ bs) x.0 x.1) (some_is ((b, c.0.0), c.0.1) (frame, rest) c.2) (b ∷ f.0, ap (λ (l : List ℕ). b ∷ l) f.1, (f.0, refl, f.2))

frame_again : (bytes : List ℕ) (frame : ℕ × List ℕ) (rest : List ℕ) → IsFrame bytes frame → frame_at (bytes ++ rest) ≡ Some (frame, rest)
frame_again bytes frame rest h =
    ap (λ (l : List ℕ). frame_at (l ++ rest)) h.1 ∙ id_and_body frame.0 (h.0 ++ rest) ∙ rw (reads_body.again h.0 frame.1 rest h.2) refl

pub reads_frame : ReadsExactly IsFrame frame_at
reads_frame = record { found = frame_found; again = frame_again }

-- both what stands in a frame and what stands after it are bytes
pub frame_bytes : (bytes : List ℕ) (frame : ℕ × List ℕ) (rest : List ℕ) → AreBytes bytes → frame_at bytes ≡ Some (frame, rest) → AreBytes frame.1 × AreBytes rest
frame_bytes bytes frame rest h e =
    let f = frame_found bytes frame rest h e in
    let content = f.2.2.4 in
    (subst AreBytes (sym content.1) content.0, rest_bytes bytes f.0 rest h f.1)

-- ---- sections

section_found : (compact : Bool) (bytes : List ℕ) (section : Section) (rest : List ℕ) → AreBytes bytes → section_at compact bytes ≡ Some (section, rest) → Found (IsSection compact) bytes section rest
unfolding section_at
section_found compact bytes section rest h e =
    let f = bind_some (frame_at bytes) (λ f. content_of compact f.0.0 f.0.1 >>= λ section. Some (section, f.1)) (section, rest) e in
    let s = bind_some (content_of compact f.0.0.0 f.0.0.1) (λ section. Some (section, f.0.1)) (section, rest) f.2 in
    let x = frame_found bytes f.0.0 f.0.1 h f.1 in
    let framed = x.2.2 in
    let content = (fills_content compact f.0.0.0).found framed.1 s.0 framed.4.0 (ap (content_of compact f.0.0.0) (sym framed.4.1) ∙ s.1) in
    subst (λ q. Found (IsSection compact) bytes q.0 q.1) (some_is (s.0, f.0.1) (section, rest) s.2)
    (x.0, x.1, (x.2.0, x.2.1 ∙ ap (λ (n : ℕ). n ∷ x.2.0) (sym content.1), (framed.0, framed.1, framed.2, framed.3, content.0)))

section_again : (compact : Bool) (bytes : List ℕ) (section : Section) (rest : List ℕ) → IsSection compact bytes section → section_at compact (bytes ++ rest) ≡ Some (section, rest)
unfolding section_at
section_again compact bytes section rest h =
    let f = h.2 in
    let id = section_id section in
    let split : bytes ++ rest ≡ id ∷ (f.0 ++ (f.1 ++ rest)) = ap (λ (l : List ℕ). l ++ rest) h.1 ∙ ap (λ (l : List ℕ). id ∷ (l ++ rest)) f.2 ∙ ap (λ (l : List ℕ). id ∷ l) (append_assoc f.0 f.1 rest) in
    let frame : frame_at (id ∷ (f.0 ++ (f.1 ++ rest))) ≡ Some ((id, f.1), rest) = id_and_body id (f.0 ++ (f.1 ++ rest)) ∙ rw (sized f.0 f.1 rest f.3) refl in
    ap (section_at compact) split ∙ rw (frame, content_again compact f.1 section f.4) refl

pub reads_section : (compact : Bool) → ReadsExactly (IsSection compact) (section_at compact)
reads_section compact = record { found = section_found compact; again = section_again compact }

-- ---- how long the rest is

pub number_shorter : (bits : ℕ) (bytes : List ℕ) (v : ℕ) (rest : List ℕ) → unsigned_at bits bytes ≡ Some (v, rest) → length rest < length bytes
unfolding unsigned_at
number_shorter bits [] v rest e = absurd cc
number_shorter bits (b ∷ bs) v rest e = elim (ltb_tells b 128) [
  | inl (t, small) ↦ elim (ltb_tells b (2 ^ bits)) [
    | inl (u, fits) ↦ let r : bs ≡ rest = ap (λ (x : ℕ × List ℕ). x.1) (some_is (b, bs) (v, rest) (rw (t, u) at e)) in omega (arith, ap length r)
    | inr (u, large) ↦ let f = rw (t, u) at e in absurd cc
  ]
  | inr (t, large) ↦ elim (ltb_tells 7 bits) [
    | inl (u, many) ↦
        let s = bind_some (unsigned_at (bits - 7) bs) (λ x. Some (b - 128 + 128 * x.0, x.1)) (v, rest) (rw (t, u) at e) in
        let r : s.0.1 ≡ rest = ap (λ (x : ℕ × List ℕ). x.1) (some_is (b - 128 + 128 * s.0.0, s.0.1) (v, rest) s.2) in
        omega (arith, number_shorter (bits - 7) bs s.0.0 s.0.1 s.1, ap length r)
    | inr (u, few) ↦ let f = rw (t, u) at e in absurd cc
  ]
]

-- What stands after a frame is shorter, so that reading sections ends.
pub frame_shorter : (bytes : List ℕ) (frame : ℕ × List ℕ) (rest : List ℕ) → frame_at bytes ≡ Some (frame, rest) → length rest < length bytes
unfolding frame_at byte_at body_at
frame_shorter [] frame rest e = absurd cc
frame_shorter (b ∷ bs) frame rest e =
    let n = bind_some (unsigned_at 32 bs) (λ n. bytes_at n.0 n.1 >>= λ c. Some ((b, c.0), c.1)) (frame, rest) e in
    let c = bind_some (bytes_at n.0.0 n.0.1) (λ c. Some ((b, c.0), c.1)) (frame, rest) n.2 in
    let r : c.0.1 ≡ rest = ap (λ (x : (ℕ × List ℕ) × List ℕ). x.1) (some_is ((b, c.0.0), c.0.1) (frame, rest) c.2) in
    omega (arith, number_shorter 32 bs n.0.0 n.0.1 n.1, (bytes_length n.0.0 n.0.1 c.0.0 c.0.1 c.1).1, ap length r)

-- ---- sections up to the end

sections_found : (compact : Bool) (fuel : ℕ) (bytes : List ℕ) (sections : List Section) → AreBytes bytes → sections_at compact fuel bytes ≡ Some sections → IsItems (IsSection compact) bytes sections
unfolding sections_at
sections_found compact zero [] sections h e = subst (λ x. IsItems (IsSection compact) [] x) (some_is [] sections e) refl
sections_found compact (suc f) [] sections h e = subst (λ x. IsItems (IsSection compact) [] x) (some_is [] sections e) refl
sections_found compact zero (b ∷ bs) sections h e = absurd cc
sections_found compact (suc f) (b ∷ bs) sections h e =
    let a = bind_some (section_at compact (b ∷ bs)) (λ x. sections_at compact f x.1 >>= λ others. Some (x.0 ∷ others)) sections e in
    let o = bind_some (sections_at compact f a.0.1) (λ others. Some (a.0.0 ∷ others)) sections a.2 in
    let first = (reads_section compact).found (b ∷ bs) a.0.0 a.0.1 h a.1 in
    let others = sections_found compact f a.0.1 o.0 (rest_bytes (b ∷ bs) first.0 a.0.1 h first.1) o.1 in
    subst (λ x. IsItems (IsSection compact) (b ∷ bs) x) (some_is (a.0.0 ∷ o.0) sections o.2) (first.0, a.0.1, first.1, first.2, others)

-- as many sections as there are bytes at most, so that the fuel is never short
sections_again : (compact : Bool) (fuel : ℕ) (bytes : List ℕ) (sections : List Section) → length bytes ≤ fuel → IsItems (IsSection compact) bytes sections → sections_at compact fuel bytes ≡ Some sections
unfolding sections_at
sections_again compact zero bytes [] le h = rw h refl
sections_again compact (suc f) bytes [] le h = rw h refl
sections_again compact zero bytes (section ∷ sections) le h =
    absurd (omega (arith, le, ap length h.2, length-append h.0 h.1, ap length h.3.1))
sections_again compact (suc f) bytes (section ∷ sections) le h =
    let framed = h.3.0 in
    let shown : bytes ≡ section_id section ∷ (framed ++ h.1) = h.2 ∙ ap (λ (l : List ℕ). l ++ h.1) h.3.1 in
    let first : section_at compact (section_id section ∷ (framed ++ h.1)) ≡ Some (section, h.1) = subst (λ (l : List ℕ). section_at compact (l ++ h.1) ≡ Some (section, h.1)) h.3.1 ((reads_section compact).again h.0 section h.1 h.3) in
    let others = sections_again compact f h.1 sections (omega (arith, le, ap length shown, length-append framed h.1)) h.4 in
    ap (sections_at compact (suc f)) shown ∙ rw (first, others) refl

pub of_found : (compact : Bool) (bytes : List ℕ) (sections : List Section) → AreBytes bytes → sections_of compact bytes ≡ Some sections → IsItems (IsSection compact) bytes sections
unfolding sections_of
of_found compact bytes sections h e = sections_found compact (length bytes) bytes sections h e

pub of_again : (compact : Bool) (bytes : List ℕ) (sections : List Section) → IsItems (IsSection compact) bytes sections → sections_of compact bytes ≡ Some sections
unfolding sections_of
of_again compact bytes sections h = sections_again compact (length bytes) bytes sections (omega arith) h

-- ---- the order of sections

after_found : (last : ℕ) (place : Option ℕ) → is_after last place ≡ true → ComesAfter last place
after_found last None e = tt
after_found last (Some place) e = ltb-true last place e

after_again : (last : ℕ) (place : Option ℕ) → ComesAfter last place → is_after last place ≡ true
after_again last None h = refl
after_again last (Some place) h = lt-ltb last place h

pub ordered_found : (last : ℕ) (sections : List Section) → are_ordered last sections ≡ true → AreOrdered last sections
ordered_found last [] e = tt
ordered_found last (section ∷ sections) e =
    let p = and_parts (is_after last (place_of section)) (are_ordered (last_place last (place_of section)) sections) e in
    (after_found last (place_of section) p.0, ordered_found (last_place last (place_of section)) sections p.1)

pub ordered_again : (last : ℕ) (sections : List Section) → AreOrdered last sections → are_ordered last sections ≡ true
ordered_again last [] h = refl
ordered_again last (section ∷ sections) h =
    and_from (is_after last (place_of section)) (are_ordered (last_place last (place_of section)) sections)
    (after_again last (place_of section) h.0) (ordered_again (last_place last (place_of section)) sections h.1)

counted_found : (sections : List Section) (counts : List ℕ) → list_all (λ count. eqb count (length (data_of sections))) counts ≡ true → AllByRecursion (λ count. count ≡ length (data_of sections)) counts
counted_found sections [] e = tt
counted_found sections (count ∷ counts) e =
    let p = and_parts (eqb count (length (data_of sections))) (list_all (λ n. eqb n (length (data_of sections))) counts) e in
    (eqb-true count (length (data_of sections)) p.0, counted_found sections counts p.1)

counted_again : (sections : List Section) (counts : List ℕ) → AllByRecursion (λ count. count ≡ length (data_of sections)) counts → list_all (λ count. eqb count (length (data_of sections))) counts ≡ true
counted_again sections [] h = refl
counted_again sections (count ∷ counts) h =
    and_from (eqb count (length (data_of sections))) (list_all (λ n. eqb n (length (data_of sections))) counts) (eq-eqb count (length (data_of sections)) h.0) (counted_again sections counts h.1)

-- what is asked of the sections of a module
pub record AreInOrder (sections : List Section) : Type 0 where
  pub ordered : AreOrdered 0 sections
  pub agreeing : length (functions_of sections) ≡ length (bodies_of sections)
  pub counted : AllByRecursion (λ count. count ≡ length (data_of sections)) (data_counts_of sections)

pub in_order_found : (read sections : List Section) → in_order read ≡ Some sections → (read ≡ sections) × AreInOrder read
in_order_found read sections e =
    let agree = eqb (length (functions_of read)) (length (bodies_of read)) in
    let g = cond_some (are_ordered 0 read && agree && are_counted read) read sections e in
    let p = and_parts (are_ordered 0 read && agree) (are_counted read) g.0 in
    let q = and_parts (are_ordered 0 read) agree p.0 in
    (g.1, record { ordered = ordered_found 0 read q.0; agreeing = eqb-true (length (functions_of read)) (length (bodies_of read)) q.1; counted = counted_found read (data_counts_of read) p.1 })

pub in_order_again : (sections : List Section) → AreInOrder sections → in_order sections ≡ Some sections
in_order_again sections h =
    let t : are_ordered 0 sections ≡ true = ordered_again 0 sections h.ordered in
    let u : eqb (length (functions_of sections)) (length (bodies_of sections)) ≡ true = eq-eqb (length (functions_of sections)) (length (bodies_of sections)) h.agreeing in
    let c : are_counted sections ≡ true = counted_again sections (data_counts_of sections) h.counted in
    rw (t, u, c) refl

-- ---- modules

module_found : (compact : Bool) (bytes : List ℕ) (sections : List Section) → AreBytes bytes → module_of compact bytes ≡ Some sections → IsModule compact bytes sections
unfolding module_of
module_found compact bytes sections h e =
    let headed = starts_is Decides-eqb bytes header (starts_with nat_eq bytes header) refl in
    let g = chosen (starts_with nat_eq bytes header) (sections_of compact (drop 8 bytes) >>= in_order) sections e in
    let begins : bytes ≡ header ++ drop 8 bytes = headed.0 g.0 in
    let s = bind_some (sections_of compact (drop 8 bytes)) in_order sections g.1 in
    let o = in_order_found s.0 sections s.2 in
    let holds = of_found compact (drop 8 bytes) s.0 (rest_bytes bytes header (drop 8 bytes) h begins) s.1 in
    subst (λ q. IsModule compact bytes q) o.0
    (record { body = drop 8 bytes; begins = begins; holds = holds; ordered = o.1.ordered; agreeing = o.1.agreeing; counted = o.1.counted })
  where
    chosen : {A : Type 0} (b : Bool) (x : Option A) (y : A) → cond b x None ≡ Some y → (b ≡ true) × (x ≡ Some y)
    chosen true x y e = (refl, e)
    chosen false x y e = absurd cc

module_again : (compact : Bool) (bytes : List ℕ) (sections : List Section) → IsModule compact bytes sections → module_of compact bytes ≡ Some sections
unfolding module_of
module_again compact bytes sections m =
    ap (module_of compact) m.begins ∙ rw (of_again compact m.body sections m.holds) (in_order_again sections (record { ordered = m.ordered; agreeing = m.agreeing; counted = m.counted }))

pub fills_module : (compact : Bool) → FillsExactly (IsModule compact) (module_of compact)
fills_module compact = record { found = module_found compact; again = module_again compact }

pub module_one : (compact : Bool) (bytes : List ℕ) (ps qs : List Section) → IsModule compact bytes ps → IsModule compact bytes qs → ps ≡ qs
module_one compact bytes ps qs m n = some_is ps qs (sym (module_again compact bytes ps m) ∙ module_again compact bytes qs n)
