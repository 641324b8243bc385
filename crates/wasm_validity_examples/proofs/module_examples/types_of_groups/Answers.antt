use Rattle.std.proofs.Common.{true, List, [], ◌∷◌, refl, arith}
use Rattle.wasm_bodies.specs.Bodies.{done, simple}
use Rattle.wasm_bodies.specs.OperatorGrammar.{IsOperators}
use Rattle.wasm_bodies.specs.Operators.{CallRef, End, LocalGet}
use Rattle.wasm_spec.proofs.Encodings.{small}
use Rattle.wasm_spec.specs.Features.{default_features}
use Rattle.wasm_spec.specs.Subtyping.{same}
use Rattle.wasm_spec.specs.Syntax.{Section}
use Rattle.wasm_spec.specs.Trees.{DefType, tree_of}
use Rattle.wasm_spec.specs.Types.{Concrete, FuncComposite, Group, Ref}
use Rattle.wasm_spec_examples.proofs.SmallOperators.{of_byte}
use Rattle.wasm_spec_examples.specs.TypeExamples.{empty_function, empty_structure, final_type, takes}
use Rattle.wasm_validity.specs.ModuleBodies.{BodyAt}
use Rattle.wasm_validity.specs.Modules.{IsTypedBody}
use Rattle.wasm_validity_examples.proofs.SmallBodies.{body_of, empty_body, just_end}
use Rattle.wasm_validity_examples.proofs.SmallModules.{at_one, few_fields, few_values, pair_group}
use Rattle.wasm_validity_examples.proofs.SmallSections.{lone_passes_none}
use Rattle.wasm_validity_examples.specs.ModuleExamples.{one_function}
use Rattle.wasm_validity_examples.proofs.module_examples.types_of_groups.Goals as goal

abbrev second : List Section
second = one_function (Group (final_type empty_structure ∷ final_type empty_function ∷ []) ∷ []) 1 (0x00 ∷ 0x0b ∷ [])

abbrev later : List Section
later = one_function (Group (final_type (FuncComposite (takes (Ref true (Concrete 1) ∷ []))) ∷ final_type empty_function ∷ []) ∷ []) 0 (0x00 ∷ 0x20 ∷ 0x00 ∷ 0x14 ∷ 0x01 ∷ 0x0b ∷ [])

-- the second type of the group
abbrev called : DefType
called = record { tree = tree_of [] (Group (final_type (FuncComposite (takes (Ref true (Concrete 1) ∷ []))) ∷ final_type empty_function ∷ [])); place = 1 }

call_is : IsOperators default_features (0x20 ∷ 0x00 ∷ 0x14 ∷ 0x01 ∷ 0x0b ∷ []) (LocalGet 0 ∷ CallRef 1 ∷ End ∷ [])
call_is = (
  0x20 ∷ 0x00 ∷ [],
  0x14 ∷ 0x01 ∷ 0x0b ∷ [],
  refl,
  of_byte default_features 0x20 (0x00 ∷ []) (LocalGet 0) refl (omega arith) refl (small 0 (omega arith)),
  (0x14 ∷ 0x01 ∷ [], 0x0b ∷ [], refl, of_byte default_features 0x14 (0x01 ∷ []) (CallRef 1) refl (omega arith) refl (small 1 (omega arith)), just_end default_features),
)

pub returns : goal.returns
returns c = record {
  second = λ features gc types. record {
    fine = record {
      rules = (
        record {
          rules = record {
            allowed = rw (gc, types) refl;
            in_range = tt;
            each = (
              record { earlier = tt; extends = record { at_most_one = omega arith; each = tt }; continues = tt },
              (record { earlier = tt; extends = record { at_most_one = omega arith; each = tt }; continues = tt }, tt),
            );
          };
          small = tt;
        },
        (refl, (tt, tt)),
      );
      limits = (record { numbers = refl; types = pair_group [] (final_type empty_structure) (final_type empty_function) (lone_passes_none _ (final_type empty_structure) refl refl (few_fields [] (omega arith))) (lone_passes_none _ (final_type empty_function) refl refl (few_values (takes []) (omega arith) (omega arith))) }, (record { numbers = refl; types = λ limit p. p }, (record { numbers = refl; types = λ limit p. p }, tt)));
    };
    bodies = at_one (BodyAt (IsTypedBody features second) second) (record {
      index = 1;
      type = takes [];
      body = 0x00 ∷ 0x0b ∷ [];
      indexed = refl;
      named = refl;
      has = refl;
      holds = λ is_below tells. empty_body features _;
    });
  };
  later = record {
    fine = record {
      rules = (
        record {
          rules = record {
            allowed = refl;
            in_range = (omega arith, tt);
            each = (
              record { earlier = tt; extends = record { at_most_one = omega arith; each = tt }; continues = tt },
              (record { earlier = tt; extends = record { at_most_one = omega arith; each = tt }; continues = tt }, tt),
            );
          };
          small = (omega arith, tt);
        },
        (refl, (tt, tt)),
      );
      limits = (record { numbers = refl; types = pair_group [] (final_type (FuncComposite (takes (Ref true (Concrete 1) ∷ [])))) (final_type empty_function) (lone_passes_none _ (final_type (FuncComposite (takes (Ref true (Concrete called) ∷ [])))) refl refl (few_values (takes (Ref true (Concrete called) ∷ [])) (omega arith) (omega arith))) (lone_passes_none _ (final_type empty_function) refl refl (few_values (takes []) (omega arith) (omega arith))) }, (record { numbers = refl; types = λ limit p. p }, (record { numbers = refl; types = λ limit p. p }, tt)));
    };
    bodies = at_one (BodyAt (IsTypedBody default_features later) later)
        (record {
          index = 0;
          type = takes (Ref true (Concrete 1) ∷ []);
          body = 0x00 ∷ 0x20 ∷ 0x00 ∷ 0x14 ∷ 0x01 ∷ 0x0b ∷ [];
          indexed = refl;
          named = refl;
          has = refl;
          holds = λ is_below tells. body_of default_features _ (takes (Ref true (Concrete 1) ∷ [])) (simple (LocalGet 0) (simple (CallRef 1) done)) (0x20 ∷ 0x00 ∷ 0x14 ∷ 0x01 ∷ 0x0b ∷ []) (omega arith) call_is (rw ((tells (Ref true (Concrete 1)) (Ref true (Concrete 1))).1 (record { null = λ e. e; heap = same })) refl);
        });
  };
  later_alone = λ v. let f = v.fine.rules.0.rules.in_range.0 in omega (arith, f);
}
