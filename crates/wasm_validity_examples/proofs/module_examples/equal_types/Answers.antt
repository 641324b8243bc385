use Rattle.std.proofs.Common.{◌≡◌, ℕ, false, List, [], ◌∷◌, refl, ap, arith, subst, sym}
use Rattle.wasm_bodies.specs.Bodies.{done, in_function, simple}
use Rattle.wasm_bodies.specs.Operands.{fresh}
use Rattle.wasm_bodies.specs.OperatorGrammar.{IsOperators}
use Rattle.wasm_bodies.specs.Operators.{End, StructNewDefault}
use Rattle.wasm_spec.proofs.Encodings.{small}
use Rattle.wasm_spec.specs.Features.{default_features}
use Rattle.wasm_spec.specs.Limits.{Limit}
use Rattle.wasm_spec.specs.Subtyping.{same}
use Rattle.wasm_spec.specs.Syntax.{Section, types_of}
use Rattle.wasm_spec.specs.Trees.{DefType, tree_of, unrolled}
use Rattle.wasm_spec.specs.Types.{Concrete, FuncComposite, FuncType, I32, Ref, StructComposite}
use Rattle.wasm_spec_examples.proofs.SmallOperators.{of_prefix}
use Rattle.wasm_spec_examples.proofs.TypeKinds.{none_above}
use Rattle.wasm_spec_examples.specs.TypeExamples.{const_field, empty_structure, final_type, gives}
use Rattle.wasm_validity.specs.ModuleBodies.{BodyAt, items_in}
use Rattle.wasm_validity.specs.Modules.{IsTypedBody}
use Rattle.wasm_validity.specs.DefinedTypes.{PassesGroupLimit}
use Rattle.wasm_validity.specs.Validity.{context_of}
use Rattle.wasm_validity_examples.proofs.ReadBodies.{only_end, struct_new_default_first}
use Rattle.wasm_validity_examples.proofs.SmallBodies.{IsRest, body_of, ended, just_end}
use Rattle.wasm_validity_examples.proofs.SmallModules.{at_one, begins, few_values, first_read, structure_passes_none}
use Rattle.wasm_validity_examples.proofs.SmallSections.{lone_group, lone_passes_none}
use Rattle.wasm_validity_examples.proofs.Telling.{AreTold, denies, mark, told_three, told_two}
use Rattle.wasm_validity_examples.specs.ModuleExamples.{alone, one_function}
use Rattle.wasm_validity_examples.proofs.module_examples.equal_types.Goals as goal

abbrev equal : List Section
equal = one_function (alone empty_structure ∷ alone empty_structure ∷ alone (FuncComposite (gives (Ref false (Concrete 1) ∷ []))) ∷ []) 2 (0x00 ∷ 0xfb ∷ 0x01 ∷ 0x00 ∷ 0x0b ∷ [])

abbrev differing : List Section
differing = one_function (alone empty_structure ∷ alone (StructComposite (const_field I32 ∷ [])) ∷ alone (FuncComposite (gives (Ref false (Concrete 1) ∷ []))) ∷ []) 2 (0x00 ∷ 0xfb ∷ 0x01 ∷ 0x00 ∷ 0x0b ∷ [])

abbrev first : DefType
first = record { tree = tree_of [] (alone empty_structure); place = 0 }

structure_is : IsOperators default_features (0xfb ∷ 0x01 ∷ 0x00 ∷ 0x0b ∷ []) (StructNewDefault 0 ∷ End ∷ [])
structure_is =
    (0xfb ∷ 0x01 ∷ 0x00 ∷ [], 0x0b ∷ [], refl, of_prefix default_features 0xfb 1 (0x00 ∷ []) (StructNewDefault 0) refl (omega arith) refl (small 0 (omega arith)), just_end default_features)

returning_passes_none : (limit : Limit) → PassesGroupLimit (first ∷ first ∷ []) (alone (FuncComposite (gives (Ref false (Concrete 1) ∷ [])))) limit → ⊥
returning_passes_none =
    lone_group (first ∷ first ∷ []) (final_type (FuncComposite (gives (Ref false (Concrete 1) ∷ []))))
    (lone_passes_none _ (final_type (FuncComposite (gives (Ref false (Concrete first) ∷ [])))) refl refl (few_values (gives (Ref false (Concrete first) ∷ [])) (omega arith) (omega arith)))

-- the other types of the second module
abbrev second : DefType
second = record { tree = tree_of (first ∷ []) (alone (StructComposite (const_field I32 ∷ []))); place = 0 }

abbrev third : DefType
third = record { tree = tree_of (first ∷ second ∷ []) (alone (FuncComposite (gives (Ref false (Concrete 1) ∷ [])))); place = 0 }

differing_told : AreTold (first ∷ second ∷ third ∷ [])
differing_told =
    told_three first second third (record { sub = _; is = refl; none = refl })
    (told_two second third (record { sub = _; is = refl; none = refl }) (record { sub = _; is = refl; none = refl }) (λ e. let f : 4 ≡ 1 = ap mark e in absurd cc))
    (λ e. let f : 3 ≡ 4 = ap mark e in absurd cc) (λ e. let f : 3 ≡ 1 = ap mark e in absurd cc)

pub returns : goal.returns
returns c = record {
  one = record {
    fine = record {
      rules = (
        record { rules = record { allowed = refl; in_range = tt; each = (record { earlier = tt; extends = record { at_most_one = omega arith; each = tt }; continues = tt }, tt) }; small = tt },
        (
          record { rules = record { allowed = refl; in_range = tt; each = (record { earlier = tt; extends = record { at_most_one = omega arith; each = tt }; continues = tt }, tt) }; small = tt },
          (
            record { rules = record { allowed = refl; in_range = (omega arith, tt); each = (record { earlier = tt; extends = record { at_most_one = omega arith; each = tt }; continues = tt }, tt) }; small = (omega arith, tt) },
            (refl, (tt, tt)),
          ),
        ),
      );
      limits = (record { numbers = refl; types = structure_passes_none [] }, (record { numbers = refl; types = structure_passes_none (first ∷ []) }, (record { numbers = refl; types = returning_passes_none }, (record { numbers = refl; types = λ limit p. p }, (record { numbers = refl; types = λ limit p. p }, tt)))));
    };
    bodies = at_one (BodyAt (IsTypedBody default_features equal) equal)
        (record {
          index = 2;
          type = gives (Ref false (Concrete 1) ∷ []);
          body = 0x00 ∷ 0xfb ∷ 0x01 ∷ 0x00 ∷ 0x0b ∷ [];
          indexed = refl;
          named = refl;
          has = refl;
          holds = λ is_below tells. body_of default_features _ (gives (Ref false (Concrete 1) ∷ [])) (simple (StructNewDefault 0) done) (0xfb ∷ 0x01 ∷ 0x00 ∷ 0x0b ∷ []) (omega arith) structure_is (rw ((tells (Ref false (Concrete 0)) (Ref false (Concrete 1))).1 (record { null = λ e. e; heap = same })) refl);
        });
  };
  two = λ v.
      let type : FuncType ℕ = gives (Ref false (Concrete 1) ∷ []) in
      let r = first_read default_features differing 2 type (0xfb ∷ 0x01 ∷ 0x00 ∷ 0x0b ∷ []) differing_told v (omega arith) refl refl refl in
      let cx = in_function default_features (items_in (types_of differing) (context_of differing) r.is_below) type r.read.runs in
      let f = struct_new_default_first default_features 0 (0x0b ∷ []) r.read.operators (omega arith) r.read.spelled in
      let s = begins default_features _ type (0xfb ∷ 0x01 ∷ 0x00 ∷ 0x0b ∷ []) r.read (StructNewDefault 0) f.0 f.1 refl in
      let m : fresh (Ref false (Concrete 0) ∷ []) [] ≡ s.0 = cc s.1 in
      let e = ended cx (fresh (Ref false (Concrete 0) ∷ []) []) (subst (λ l. IsRest cx l (End ∷ [])) (sym m) (subst (λ l. IsRest cx s.0 l) (only_end default_features f.0 f.2) s.2)) in
      let no = denies (context_of differing) r.is_below r.tells (Ref false (Concrete 0)) (Ref false (Concrete 1))
      (λ b. let g : first ≡ second = none_above unrolled first second _ refl refl b.heap in let h : 3 ≡ 4 = ap mark g in absurd cc) in
      let none = rw no at e in
      absurd cc;
}
