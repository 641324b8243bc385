use Rattle.std.proofs.Common.{◌≡◌, ℕ, List, [], ◌∷◌, ◌++◌, map, None, refl, ◌∙◌, subst, arith}
use Rattle.std.proofs.lemmas.List.Concat.{flat_map-append}
use Rattle.wasm_spec.specs.Features.{Features}
use Rattle.wasm_spec.specs.Syntax.{Section, ExportSection, Export}
use Rattle.wasm_spec.specs.Types.{ExternalKind, FuncKind, TableKind, MemoryKind, GlobalKind, TagKind}
use Rattle.wasm_validity.specs.Context.{Context, after, after_all, at_first, item_at}
use Rattle.wasm_validity.specs.Entries.{Entry, OfExport, entries_in, entries_of}
use Rattle.wasm_validity.specs.Rules.{KeepRules}
use Rattle.wasm_validity.specs.Validity.{context_of}
use Rattle.wasm_validity_examples.proofs.valid_module_examples.exports.Goals as goal

-- the last of some entries keep the rules after the others
rules_after : (features : Features) (cx : Context) (xs ys : List Entry) → KeepRules features cx (xs ++ ys) → KeepRules features (after_all cx xs) ys
rules_after features cx [] ys h = h
rules_after features cx (x ∷ xs) ys h = rules_after features (after cx x) xs ys h.1

-- exports add no item
same_items : (cx : Context) (x : Export) (kind : ExternalKind) (index : ℕ) → item_at (after cx (OfExport x)) kind index ≡ item_at cx kind index
same_items cx x FuncKind index = refl
same_items cx x TableKind index = refl
same_items cx x MemoryKind index = refl
same_items cx x GlobalKind index = refl
same_items cx x TagKind index = refl

-- an export of nothing breaks its rule, whichever exports stand before it
of_nothing : (features : Features) (cx : Context) (exports : List Export) (export : Export) (others : List Entry) → item_at cx export.kind export.index ≡ None
    → KeepRules features cx (map (λ x. OfExport x) (exports ++ (export ∷ [])) ++ others) → ⊥
of_nothing features cx [] export others none h = let f = rw none at h.0 in absurd cc
of_nothing features cx (x ∷ exports) export others none h =
    of_nothing features (after cx (OfExport x)) exports export others (same_items cx x export.kind export.index ∙ none) h.1

among : (features : Features) (before after : List Section) (exports : List Export) (export : Export) → item_at (context_of before) export.kind export.index ≡ None
    → KeepRules features at_first (entries_of (before ++ (ExportSection (exports ++ (export ∷ [])) ∷ after))) → ⊥
among features before after exports export none h =
    let section : Section = ExportSection (exports ++ (export ∷ [])) in
    let here = subst (λ l. KeepRules features at_first l) (flat_map-append entries_in before (section ∷ after)) h in
    of_nothing features (context_of before) exports export (entries_of after) none
    (rules_after features at_first (entries_of before) (entries_of (section ∷ after)) here)

pub returns : goal.returns
returns c = record {
  two_names = λ features. record {
    fine = record {
      rules = (refl, (refl, (refl, tt)));
      limits = (record { numbers = refl; types = λ limit p. p }, (record { numbers = refl; types = λ limit p. p }, (record { numbers = refl; types = λ limit p. p }, tt)));
    };
    bodies = λ i h. absurd (omega (arith, h));
  };
  one_name = λ features v. let f = v.fine.rules.1.1.0 in absurd cc;
  nothing = λ features before after exports export none v. among features before after exports export none v.fine.rules;
  variable = λ features on. record {
    fine = record {
      rules = (record { type = refl; initialiser = tt }, (rw on refl, tt));
      limits = (record { numbers = refl; types = λ limit p. p }, (record { numbers = refl; types = λ limit p. p }, tt));
    };
    bodies = λ i h. absurd (omega (arith, h));
  };
  variable_without = λ features off v. let f = rw off at v.fine.rules.1.0 in absurd cc;
  empty = λ features. record { fine = record { rules = tt; limits = tt }; bodies = λ i h. absurd (omega (arith, h)) };
}
