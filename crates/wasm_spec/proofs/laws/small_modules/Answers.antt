use Rattle.std.proofs.Common.{ℕ, Bool, true, inr, List, refl, arith, [], ◌∷◌, ◌++◌, length}
use Rattle.std.specs.Str.{IsUtf8}
use Rattle.wasm_spec.specs.Bytes.{AreBytes, IsU32}
use Rattle.wasm_spec.specs.Grammar.{IsSection}
use Rattle.wasm_spec.specs.ModuleParts.{IsBody}
use Rattle.wasm_spec.specs.Syntax.{Custom, TypeSection, CodeSection}
use Rattle.wasm_spec.specs.TypeGrammar.{IsValType, IsRecGroup}
use Rattle.wasm_spec.specs.Types.{FuncComposite, RecGroup, Single}
use Rattle.wasm_spec.proofs.Encodings.{small, section, none, one, function_section}
use Rattle.wasm_spec.proofs.laws.small_modules.Goals as goal

-- a custom section, from the encodings of its size and of its name's length
custom : (compact : Bool) (size count name contents : List ℕ) → IsU32 size (length (count ++ name ++ contents)) → IsU32 count (length name)
    → AreBytes name → IsUtf8 name → AreBytes contents → IsSection compact (0x00 ∷ (size ++ (count ++ name ++ contents))) (Custom name contents)
custom compact size count name contents framed counted bytes encoding others =
    section compact size (count ++ name ++ contents) (Custom name contents) framed
    (count ++ name, contents, refl, ((count, name, refl, counted, (bytes, refl)), encoding), (others, refl))

empty : (compact : Bool) → IsSection compact (0x00 ∷ 0x01 ∷ 0x00 ∷ []) (Custom [] [])
empty compact = custom compact (0x01 ∷ []) (0x00 ∷ []) [] [] (small 1 (omega arith)) (small 0 (omega arith)) tt ([], (refl, refl)) tt

empty_padded : (compact : Bool) → IsSection compact (0x00 ∷ 0x81 ∷ 0x00 ∷ 0x00 ∷ []) (Custom [] [])
empty_padded compact = custom compact (0x81 ∷ 0x00 ∷ []) (0x00 ∷ []) [] [] (omega arith, omega arith, omega arith, 0, refl, (omega arith, omega arith, refl)) (small 0 (omega arith)) tt ([], (refl, refl)) tt

named : (compact : Bool) → IsSection compact (0x00 ∷ 0x03 ∷ 0x01 ∷ 0x61 ∷ 0x07 ∷ []) (Custom (0x61 ∷ []) (7 ∷ []))
unfolding lib.Utf8.encode
named compact = custom compact (0x03 ∷ []) (0x01 ∷ []) (0x61 ∷ []) (0x07 ∷ []) (small 3 (omega arith)) (small 1 (omega arith))
    (omega arith, tt) (0x61 ∷ [], (refl, refl)) (omega arith, tt)

abbrev one_type : RecGroup ℕ
one_type = Single (record { is_final = true; supertypes = []; composite_type = FuncComposite (record { params = []; results = [] }) })

types : (compact : Bool) → IsSection compact (0x01 ∷ 0x04 ∷ 0x01 ∷ 0x60 ∷ 0x00 ∷ 0x00 ∷ []) (TypeSection (one_type ∷ []))
types compact = section compact (0x04 ∷ []) (0x01 ∷ 0x60 ∷ 0x00 ∷ 0x00 ∷ []) (TypeSection (one_type ∷ [])) (small 4 (omega arith))
    (one IsRecGroup (0x60 ∷ 0x00 ∷ 0x00 ∷ []) one_type refl (inr (refl, refl, (0x00 ∷ 0x00 ∷ [], refl, (0x00 ∷ [], 0x00 ∷ [], refl, none IsValType, none IsValType)))))

code : (compact : Bool) → IsSection compact (0x0a ∷ 0x05 ∷ 0x01 ∷ 0x03 ∷ 0x00 ∷ 0x00 ∷ 0x0b ∷ []) (CodeSection ((0x00 ∷ 0x00 ∷ 0x0b ∷ []) ∷ []))
code compact = section compact (0x05 ∷ []) (0x01 ∷ 0x03 ∷ 0x00 ∷ 0x00 ∷ 0x0b ∷ []) (CodeSection ((0x00 ∷ 0x00 ∷ 0x0b ∷ []) ∷ [])) (small 5 (omega arith))
    (one IsBody (0x03 ∷ 0x00 ∷ 0x00 ∷ 0x0b ∷ []) (0x00 ∷ 0x00 ∷ 0x0b ∷ []) refl
    (0x03 ∷ [], 0x00 ∷ 0x00 ∷ 0x0b ∷ [], refl, small 3 (omega arith), ((omega arith, (omega arith, (omega arith, tt))), refl)))

pub returns-clause-empty : goal.returns-clause-empty
returns-clause-empty c = λ compact. record { body = []; begins = refl; holds = refl; ordered = tt; agreeing = refl; counted = tt }

pub returns-clause-custom : goal.returns-clause-custom
returns-clause-custom c = λ compact. record {
  body = 0x00 ∷ 0x01 ∷ 0x00 ∷ [];
  begins = refl;
  holds = (0x00 ∷ 0x01 ∷ 0x00 ∷ [], [], refl, empty compact, refl);
  ordered = (tt, tt);
  agreeing = refl;
  counted = tt;
}

pub returns-clause-padded : goal.returns-clause-padded
returns-clause-padded c = λ compact. record {
  body = 0x00 ∷ 0x81 ∷ 0x00 ∷ 0x00 ∷ 0x00 ∷ 0x03 ∷ 0x01 ∷ 0x61 ∷ 0x07 ∷ [];
  begins = refl;
  holds = (
    0x00 ∷ 0x81 ∷ 0x00 ∷ 0x00 ∷ [],
    0x00 ∷ 0x03 ∷ 0x01 ∷ 0x61 ∷ 0x07 ∷ [],
    refl,
    empty_padded compact,
    (0x00 ∷ 0x03 ∷ 0x01 ∷ 0x61 ∷ 0x07 ∷ [], [], refl, named compact, refl),
  );
  ordered = (tt, (tt, tt));
  agreeing = refl;
  counted = tt;
}

pub returns-clause-functions : goal.returns-clause-functions
returns-clause-functions c = λ compact. record {
  body = 0x01 ∷ 0x04 ∷ 0x01 ∷ 0x60 ∷ 0x00 ∷ 0x00 ∷ 0x03 ∷ 0x02 ∷ 0x01 ∷ 0x00 ∷ 0x0a ∷ 0x05 ∷ 0x01 ∷ 0x03 ∷ 0x00 ∷ 0x00 ∷ 0x0b ∷ [];
  begins = refl;
  holds = (
    0x01 ∷ 0x04 ∷ 0x01 ∷ 0x60 ∷ 0x00 ∷ 0x00 ∷ [],
    0x03 ∷ 0x02 ∷ 0x01 ∷ 0x00 ∷ 0x0a ∷ 0x05 ∷ 0x01 ∷ 0x03 ∷ 0x00 ∷ 0x00 ∷ 0x0b ∷ [],
    refl,
    types compact,
    (
      0x03 ∷ 0x02 ∷ 0x01 ∷ 0x00 ∷ [],
      0x0a ∷ 0x05 ∷ 0x01 ∷ 0x03 ∷ 0x00 ∷ 0x00 ∷ 0x0b ∷ [],
      refl,
      function_section compact,
      (0x0a ∷ 0x05 ∷ 0x01 ∷ 0x03 ∷ 0x00 ∷ 0x00 ∷ 0x0b ∷ [], [], refl, code compact, refl),
    ),
  );
  ordered = (omega arith, (omega arith, (omega arith, tt)));
  agreeing = refl;
  counted = tt;
}
