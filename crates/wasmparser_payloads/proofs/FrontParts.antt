-- What is known of the bytes of a module between two of its pieces, and how each piece adds to it.
use Rattle.std.proofs.Common.{◌≡◌, ◌<◌, ◌+◌, ℕ, suc, Bool, true, List, [], ◌∷◌, ◌++◌, length, Option, Some, None, refl, sym, ap, subst, ◌∙◌, append_assoc, length-append, arith}
use Rattle.std.specs.Prelude.{map}
use Rattle.std.proofs.lemmas.Bool.{ltb-true}
use Rattle.std.proofs.lemmas.Grind.{flat_map-append}
use Rattle.std.proofs.lemmas.List.{append-nil}
use Rattle.wasm_spec.specs.Bytes.{AreBytes, IsU32, IsItems}
use Rattle.wasm_spec.specs.Grammar.{header, section_id, place_of, last_place, last_of, ComesAfter, AreOrdered, IsSection}
use Rattle.wasm_spec.specs.ModuleParts.{IsBody}
use Rattle.wasm_spec.specs.Syntax as syntax
use Rattle.wasm_spec.specs.Syntax.{Section, CodeSection}
use Rattle.wasm_core_read.specs.ModuleReading.{content_of, frame_at, section_at, is_after}
use Rattle.wasm_core_read.specs.PartReading.{body_at}
use Rattle.wasm_core_read.specs.Reading.{unsigned_at}
use Rattle.wasm_core_read.proofs.ContentForms.{content_id}
use Rattle.wasm_core_read.proofs.Forms.{reads_body, rest_bytes, unsigned_found}
use Rattle.wasm_core_read.proofs.ModuleForms.{reads_frame, reads_section, frame_bytes}
use Rattle.wasm_validity.specs.Entries.{Entry, OfBody, entries_in, entries_of}
use Rattle.wasmparser_payloads.specs.Pieces.{place_of_id}

-- ---- lists with one more at their end

pub items_joined : {A : Type 0} (IsA : List ℕ → A → Type 0) (a b : List ℕ) (xs ys : List A) → IsItems IsA a xs → IsItems IsA b ys → IsItems IsA (a ++ b) (xs ++ ys)
items_joined IsA a b [] ys h k = subst (λ (l : List ℕ). IsItems IsA (l ++ b) ys) (sym h) k
items_joined IsA a b (x ∷ xs) ys h k = (h.0, h.1 ++ b, ap (λ (l : List ℕ). l ++ b) h.2 ∙ append_assoc h.0 h.1 b, h.3, items_joined IsA h.1 b xs ys h.4 k)

pub item_added : {A : Type 0} (IsA : List ℕ → A → Type 0) (a b : List ℕ) (xs : List A) (x : A) → IsItems IsA a xs → IsA b x → IsItems IsA (a ++ b) (xs ++ x ∷ [])
item_added IsA a b xs x h k = items_joined IsA a b xs (x ∷ []) h (b, [], sym (append-nil b), k, refl)

last_added : (last : ℕ) (sections : List Section) (section : Section) → last_of last (sections ++ section ∷ []) ≡ last_place (last_of last sections) (place_of section)
last_added last [] section = refl
last_added last (s ∷ sections) section = last_added (last_place last (place_of s)) sections section

order_added : (last : ℕ) (sections : List Section) (section : Section) → AreOrdered last sections → ComesAfter (last_of last sections) (place_of section) → AreOrdered last (sections ++ section ∷ [])
order_added last [] section h k = (k, tt)
order_added last (s ∷ sections) section h k = (h.0, order_added (last_place last (place_of s)) sections section h.1 k)

pub entries_added : (sections : List Section) (section : Section) → entries_of (sections ++ section ∷ []) ≡ entries_of sections ++ entries_in section
entries_added sections section = flat_map-append entries_in sections (section ∷ []) ∙ ap (λ (l : List Entry). entries_of sections ++ l) (append-nil (entries_in section))

pub after_comes : (last : ℕ) (place : Option ℕ) → is_after last place ≡ true → ComesAfter last place
after_comes last None e = tt
after_comes last (Some place) e = ltb-true last place e

pub place_is : (section : Section) → place_of section ≡ place_of_id (section_id section)
unfolding place_of_id
place_is (syntax.Custom name contents) = refl
place_is (syntax.TypeSection x) = refl
place_is (syntax.ImportSection x) = refl
place_is (syntax.FunctionSection x) = refl
place_is (syntax.TableSection x) = refl
place_is (syntax.MemorySection x) = refl
place_is (syntax.TagSection x) = refl
place_is (syntax.GlobalSection x) = refl
place_is (syntax.ExportSection x) = refl
place_is (syntax.StartSection x) = refl
place_is (syntax.ElementSection x) = refl
place_is (syntax.DataCountSection x) = refl
place_is (syntax.CodeSection x) = refl
place_is (syntax.DataSection x) = refl

-- ---- frames

-- a section's id, its size and its content, and what follows them
pub record Framed (bytes : List ℕ) (id : ℕ) (content after : List ℕ) : Type 0 where
  pub size_encoding : List ℕ
  pub parts : bytes ≡ id ∷ (size_encoding ++ (content ++ after))
  pub sized : IsU32 size_encoding (length content)
  pub are : AreBytes content
  pub are_after : AreBytes after

pub frame_parts : (bytes : List ℕ) (f : (ℕ × List ℕ) × List ℕ) → AreBytes bytes → frame_at bytes ≡ Some f → Framed bytes f.0.0 f.0.1 f.1
frame_parts bytes f are e =
    let x = reads_frame.found bytes f.0 f.1 are e in
    let b = frame_bytes bytes f.0 f.1 are e in
    let framed = x.2.2 in
    let same : f.0.1 ≡ framed.1 = framed.4.1 in
    record {
      size_encoding = framed.0;
      parts = x.1 ∙ ap (λ (l : List ℕ). l ++ f.1) (x.2.1 ∙ ap (λ (l : List ℕ). f.0.0 ∷ l) (framed.2 ∙ ap (λ (l : List ℕ). framed.0 ++ l) (sym same))) ∙ ap (λ (l : List ℕ). f.0.0 ∷ l) (append_assoc framed.0 f.0.1 f.1);
      sized = subst (λ (l : List ℕ). IsU32 framed.0 (length l)) (sym same) framed.3;
      are = b.0;
      are_after = b.1;
    }

-- ---- between two sections, and within a code section

-- complete sections, which say this, before the rest
pub record Between (compact : Bool) (bytes : List ℕ) (last : ℕ) (rest : List ℕ) (entries : List Entry) : Type 0 where
  pub sections : List Section
  pub front : List ℕ
  pub begins : bytes ≡ header ++ (front ++ rest)
  pub holds : IsItems (IsSection compact) front sections
  pub ordered : AreOrdered 0 sections
  pub ends : last_of 0 sections ≡ last
  pub say : entries ≡ entries_of sections
  pub are : AreBytes rest

-- complete sections, and some bodies of a code section after them, of which so many are left; what is left of it, and what follows it
pub record Within (compact : Bool) (bytes : List ℕ) (count : ℕ) (left rest : List ℕ) (entries : List Entry) : Type 0 where
  pub last : ℕ
  pub before : List Entry
  pub code : List ℕ
  pub outside : Between compact bytes last code before
  pub comes_after : last < 12
  pub bodies : List (List ℕ)
  pub size_encoding : List ℕ
  pub count_encoding : List ℕ
  pub encoding : List ℕ
  pub opens : code ≡ 10 ∷ (size_encoding ++ (count_encoding ++ (encoding ++ (left ++ rest))))
  pub sized : IsU32 size_encoding (length count_encoding + (length encoding + length left))
  pub counted : IsU32 count_encoding (length bodies + count)
  pub holds : IsItems IsBody encoding bodies
  pub say : entries ≡ before ++ map (λ x. OfBody x) bodies
  pub are_left : AreBytes left
  pub are_rest : AreBytes rest

-- a complete section more
pub with_section : (compact : Bool) (bytes rest encoding after : List ℕ) (last : ℕ) (entries : List Entry) (section : Section) → Between compact bytes last rest entries
    → rest ≡ encoding ++ after → IsSection compact encoding section → ComesAfter last (place_of section) → AreBytes after
    → Between compact bytes (last_place last (place_of section)) after (entries ++ entries_in section)
with_section compact bytes rest encoding after last entries section b parts is comes are = record {
  sections = b.sections ++ section ∷ [];
  front = b.front ++ encoding;
  begins = b.begins ∙ ap (λ (l : List ℕ). header ++ l) (ap (λ (l : List ℕ). b.front ++ l) parts ∙ sym (append_assoc b.front encoding after));
  holds = item_added (IsSection compact) b.front encoding b.sections section b.holds is;
  ordered = order_added 0 b.sections section b.ordered (subst (λ (n : ℕ). ComesAfter n (place_of section)) (sym b.ends) comes);
  ends = last_added 0 b.sections section ∙ ap (λ (n : ℕ). last_place n (place_of section)) b.ends;
  say = ap (λ (l : List Entry). l ++ entries_in section) b.say ∙ sym (entries_added b.sections section);
  are = are;
}

-- a section whose content reads
pub past_section : (compact : Bool) (bytes rest : List ℕ) (last : ℕ) (entries : List Entry) (f : (ℕ × List ℕ) × List ℕ) (section : Section) → Between compact bytes last rest entries
    → frame_at rest ≡ Some f → is_after last (place_of_id f.0.0) ≡ true → content_of compact f.0.0 f.0.1 ≡ Some section
    → Between compact bytes (last_place last (place_of_id f.0.0)) f.1 (entries ++ entries_in section)
unfolding section_at
past_section compact bytes rest last entries f section b e t c =
    let read : section_at compact rest ≡ Some (section, f.1) = rw (e, c) refl in
    let x = (reads_section compact).found rest section f.1 b.are read in
    let place : place_of section ≡ place_of_id f.0.0 = place_is section ∙ ap place_of_id (content_id compact f.0.0 f.0.1 section c) in
    subst (λ (p : Option ℕ). Between compact bytes (last_place last p) f.1 (entries ++ entries_in section)) place
    (with_section compact bytes rest x.0 f.1 last entries section b x.1 x.2 (subst (ComesAfter last) (sym place) (after_comes last (place_of_id f.0.0) t)) (rest_bytes rest x.0 f.1 b.are x.1))

-- a code section is opened
pub opened : (compact : Bool) (bytes rest : List ℕ) (last : ℕ) (entries : List Entry) (f : (ℕ × List ℕ) × List ℕ) (n : ℕ × List ℕ) → Between compact bytes last rest entries
    → frame_at rest ≡ Some f → f.0.0 ≡ 10 → last < 12 → unsigned_at 32 f.0.1 ≡ Some n → Within compact bytes n.0 n.1 f.1 entries
opened compact bytes rest last entries f n b e id lt r =
    let x = frame_parts rest f b.are e in
    let c = unsigned_found 32 f.0.1 n.0 n.1 x.are r in
    let size : length f.0.1 ≡ length c.0 + (0 + length n.1) = omega (arith, ap length c.1, length-append c.0 n.1) in
    let count : n.0 ≡ 0 + n.0 = omega arith in
    record {
      last = last;
      before = entries;
      code = rest;
      outside = b;
      comes_after = lt;
      bodies = [];
      size_encoding = x.size_encoding;
      count_encoding = c.0;
      encoding = [];
      opens = x.parts ∙ ap (λ (i : ℕ). i ∷ (x.size_encoding ++ (f.0.1 ++ f.1))) id ∙ ap (λ (l : List ℕ). 10 ∷ (x.size_encoding ++ (l ++ f.1))) c.1 ∙ ap (λ (l : List ℕ). 10 ∷ (x.size_encoding ++ l)) (append_assoc c.0 n.1 f.1);
      sized = subst (IsU32 x.size_encoding) size x.sized;
      counted = subst (IsU32 c.0) count c.2;
      holds = refl;
      say = sym (append-nil entries);
      are_left = rest_bytes f.0.1 c.0 n.1 x.are c.1;
      are_rest = x.are_after;
    }

map_more : (before : List Entry) (bodies : List (List ℕ)) (body : List ℕ) → (before ++ map (λ x. OfBody x) bodies) ++ (OfBody body ∷ []) ≡ before ++ map (λ x. OfBody x) (bodies ++ body ∷ [])
map_more before bodies body = append_assoc before (map (λ x. OfBody x) bodies) (OfBody body ∷ []) ∙ ap (λ (l : List Entry). before ++ l) (mapped bodies)
  where
    mapped : (bodies : List (List ℕ)) → map (λ x. OfBody x) bodies ++ (OfBody body ∷ []) ≡ map (λ x. OfBody x) (bodies ++ body ∷ [])
    mapped [] = refl
    mapped (x ∷ xs) = ap (λ (l : List Entry). OfBody x ∷ l) (mapped xs)

-- a body more
pub past_body : (compact : Bool) (bytes left rest : List ℕ) (others : ℕ) (entries : List Entry) (body after : List ℕ) → Within compact bytes (suc others) left rest entries
    → body_at left ≡ Some (body, after) → Within compact bytes others after rest (entries ++ OfBody body ∷ [])
past_body compact bytes left rest others entries body after w e =
    let x = reads_body.found left body after w.are_left e in
    let split : w.encoding ++ (left ++ rest) ≡ (w.encoding ++ x.0) ++ (after ++ rest) =
    ap (λ (l : List ℕ). w.encoding ++ l) (ap (λ (l : List ℕ). l ++ rest) x.1 ∙ append_assoc x.0 after rest) ∙ sym (append_assoc w.encoding x.0 (after ++ rest)) in
    let size : length w.count_encoding + (length w.encoding + length left) ≡ length w.count_encoding + (length (w.encoding ++ x.0) + length after) =
    omega (arith, length-append w.encoding x.0, ap length x.1, length-append x.0 after) in
    let count : length w.bodies + suc others ≡ length (w.bodies ++ body ∷ []) + others = omega (arith, length-append w.bodies (body ∷ [])) in
    record {
      last = w.last;
      before = w.before;
      code = w.code;
      outside = w.outside;
      comes_after = w.comes_after;
      bodies = w.bodies ++ body ∷ [];
      size_encoding = w.size_encoding;
      count_encoding = w.count_encoding;
      encoding = w.encoding ++ x.0;
      opens = w.opens ∙ ap (λ (l : List ℕ). 10 ∷ (w.size_encoding ++ (w.count_encoding ++ l))) split;
      sized = subst (IsU32 w.size_encoding) size w.sized;
      counted = subst (IsU32 w.count_encoding) count w.counted;
      holds = item_added IsBody w.encoding x.0 w.bodies body w.holds x.2;
      say = ap (λ (l : List Entry). l ++ (OfBody body ∷ [])) w.say ∙ map_more w.before w.bodies body;
      are_left = rest_bytes left x.0 after w.are_left x.1;
      are_rest = w.are_rest;
    }

-- a code section of which nothing is left is complete
pub closed : (compact : Bool) (bytes rest : List ℕ) (entries : List Entry) → Within compact bytes 0 [] rest entries → Between compact bytes 12 rest entries
closed compact bytes rest entries w =
    let content : List ℕ = w.count_encoding ++ w.encoding in
    let size : length w.count_encoding + (length w.encoding + 0) ≡ length content = omega (arith, length-append w.count_encoding w.encoding) in
    let count : length w.bodies + 0 ≡ length w.bodies = omega arith in
    let split : w.size_encoding ++ (w.count_encoding ++ (w.encoding ++ rest)) ≡ (w.size_encoding ++ content) ++ rest =
    ap (λ (l : List ℕ). w.size_encoding ++ l) (sym (append_assoc w.count_encoding w.encoding rest)) ∙ sym (append_assoc w.size_encoding content rest) in
    let is : IsSection compact (10 ∷ (w.size_encoding ++ content)) (CodeSection w.bodies) =
    (w.size_encoding ++ content, refl, (w.size_encoding, content, refl, subst (IsU32 w.size_encoding) size w.sized, (w.count_encoding, w.encoding, refl, subst (IsU32 w.count_encoding) count w.counted, w.holds))) in
    subst (λ (es : List Entry). Between compact bytes 12 rest es) (sym w.say)
    (with_section compact bytes w.code (10 ∷ (w.size_encoding ++ content)) rest w.last w.before (CodeSection w.bodies) w.outside (w.opens ∙ ap (λ (l : List ℕ). 10 ∷ l) split) is w.comes_after w.are_rest)
