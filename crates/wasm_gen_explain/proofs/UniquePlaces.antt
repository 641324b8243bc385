-- A module has one place at an offset at most.
use Rattle.std.proofs.Common.{◌≡◌, inl, inr, ℕ, ◌+◌, List, refl, sym, ap, subst, ◌∙◌, arith}
use Rattle.wasm_core_read.specs.Input.{Input}
use Rattle.wasm_spec.specs.Features.{CompactImports, Features, has}
use Rattle.wasm_gen_explain.specs.Imports.{functions_among, imports_of}
use Rattle.wasm_gen_explain.specs.LargeIndexes.{IsLargeAtSection, IsLargePlace}
use Rattle.wasm_gen_explain.specs.Places.{IsAmong, IsPlace, ModuleLeft, PassesNext, after_header, in_header, in_sections}
use Rattle.wasm_gen_explain.specs.Sections.{IsAtSection}
use Rattle.wasm_gen_explain.specs.Text.{place_text}
use Rattle.wasm_gen_explain.specs.declared.place.Place.{Place}
use Rattle.wasm_gen_explain.proofs.UniqueItems.{IsFunctional, IsLast, same_after, same_last}
use Rattle.wasm_gen_explain.proofs.UniqueSections.{at_section_last, one_at_section, same_frame}

same_left : (a b : ModuleLeft) → a.input ≡ b.input → a.imported ≡ b.imported → a ≡ b
same_left a b e f = ap (λ (i : Input). record { input = i; imported = a.imported }) e ∙ ap (λ (k : ℕ). record { input = b.input; imported = k }) f

sections_functional : (offset : ℕ) → IsFunctional (PassesNext offset)
sections_functional offset s a b p q =
    let x = p.section in
    let y = q.section in
    let same = same_frame s.input x.content y.content x.id y.id a.input.rest b.input.rest x.frame y.frame in
    let section : (x.id, x.content.rest) ≡ (y.id, y.content.rest) = ap (λ (k : ℕ). (k, x.content.rest)) same.0 ∙ ap (λ (i : Input). (y.id, i.rest)) same.1 in
    let counted = ap (λ (it : ℕ × List ℕ). s.imported + functions_among (imports_of (has s.input.features CompactImports) it)) section in
    same_left a b (same_after s.input a.input b.input x.goes_on y.goes_on same.2) (p.counted ∙ counted ∙ sym q.counted)

next_last : (offset : ℕ) (now : ModuleLeft) (place : Place) (h : IsAtSection now.imported now.input offset place) → ¬ (IsLargeAtSection now.imported now.input offset place h) → IsLast (PassesNext offset) now
next_last offset now place h small t p = at_section_last now.imported now.input offset place h small t.input p.section

one_among : (start : ModuleLeft) (offset : ℕ) (p q : Place) (h : IsAmong start offset p) (k : IsAmong start offset q) → ¬ (IsLargeAtSection h.now.imported h.now.input offset p h.stands) → ¬ (IsLargeAtSection k.now.imported k.now.input offset q k.stands)
    → place_text p ≡ place_text q
one_among start offset p q h k small other =
    let same = same_last (PassesNext offset) start h.number k.number h.now k.now (sections_functional offset) h.passed (next_last offset h.now p h.stands small) k.passed (next_last offset k.now q k.stands other) in
    by_state h.now k.now same.1 h.stands k.stands small other
  where
    by_state : (a b : ModuleLeft) → a ≡ b → (x : IsAtSection a.imported a.input offset p) (y : IsAtSection b.imported b.input offset q) → ¬ (IsLargeAtSection a.imported a.input offset p x) → ¬ (IsLargeAtSection b.imported b.input offset q y) → place_text p ≡ place_text q
    by_state a b same = subst (λ (c : ModuleLeft). (x : IsAtSection a.imported a.input offset p) (y : IsAtSection c.imported c.input offset q) → ¬ (IsLargeAtSection a.imported a.input offset p x) → ¬ (IsLargeAtSection c.imported c.input offset q y) → place_text p ≡ place_text q)
        same (λ x y. one_at_section a.imported a.input offset p q x y)

pub one_place : (features : Features) (bytes : List ℕ) (offset : ℕ) (p q : Place) (h : IsPlace features bytes offset p) (k : IsPlace features bytes offset q) → ¬ (IsLargePlace features bytes offset p h) → ¬ (IsLargePlace features bytes offset q k) → place_text p ≡ place_text q
one_place features bytes offset p q (in_header h) (in_header k) small other = refl
one_place features bytes offset p q (in_header (inl lt)) (in_sections r le begins k) small other = absurd omega (arith, lt, le)
one_place features bytes offset p q (in_header (inr e)) (in_sections r le begins k) small other = let f = sym e ∙ begins in absurd cc
one_place features bytes offset p q (in_sections r le begins h) (in_header (inl lt)) small other = absurd omega (arith, lt, le)
one_place features bytes offset p q (in_sections r le begins h) (in_header (inr e)) small other = let f = sym e ∙ begins in absurd cc
one_place features bytes offset p q (in_sections r le begins h) (in_sections s ge starts k) small other = one_among (after_header features bytes) offset r s h k small other
