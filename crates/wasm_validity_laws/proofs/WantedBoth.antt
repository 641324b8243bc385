-- What two tests let through is wanted by both.
use Rattle.std.proofs.Common.{◌≡◌, Bool, true, false, ◌&&◌, List, [], ◌∷◌, map}
use Rattle.std.proofs.lemmas.Bool.{and_parts}
use Rattle.wasm_bodies.specs.BodyContext.{ModuleItems, unpacked}
use Rattle.wasm_bodies_laws.specs.References.{AreAllWanted, AreWanted, TakesAndGives, WantedBy}
use Rattle.wasm_spec.specs.Features.{Features}
use Rattle.wasm_spec.specs.Types.{ValType, Ref, FuncType}
use Rattle.wasm_validity_laws.specs.WantedTypes.{is_both}

and_true : (a b : Bool) → a ≡ true → b ≡ true → (a && b) ≡ true
and_true true b first second = second
and_true false b first second = absurd cc

module _ {R : Type 0} (p q : ValType R → Bool) where
  abbrev Both : ValType R → Type 0
  Both = WantedBy (is_both p q)

  one : (type : ValType R) → p type ≡ true → q type ≡ true → Both type
  one type first second = and_true (p type) (q type) first second

  all : (types : List (ValType R)) → AreAllWanted (WantedBy p) types → AreAllWanted (WantedBy q) types → AreAllWanted Both types
  all [] first second = tt
  all (type ∷ types) first second = (one type first.0 second.0, all types first.1 second.1)

  pub both_functions : (type : FuncType R) → TakesAndGives (WantedBy p) type → TakesAndGives (WantedBy q) type → TakesAndGives Both type
  both_functions type first second = (all type.params first.0 second.0, all type.results first.1 second.1)

  pub both_wanted : (features : Features) (items : ModuleItems R) → AreWanted (WantedBy p) features items → AreWanted (WantedBy q) features items → AreWanted Both features items
  both_wanted features items first second = record {
    numbers = λ type. one _ (first.numbers type) (second.numbers type);
    abstract_references = λ heap. one _ (first.abstract_references heap) (second.abstract_references heap);
    written = λ type stands_for e. one stands_for (first.written type stands_for e) (second.written type stands_for e);
    functions = λ index type e. both_functions type (first.functions index type e) (second.functions index type e);
    globals = λ index type e mutable. one type.value_type (first.globals index type e mutable) (second.globals index type e mutable);
    tables = λ index type e. one _ (first.tables index type e) (second.tables index type e);
    references = λ on index type e. one type (first.references on index type e) (second.references on index type e);
    nullable = λ on nullable heap both. let parts = and_parts (p (Ref nullable heap)) (q (Ref nullable heap)) both in
        one (Ref true heap) (first.nullable on nullable heap parts.0) (second.nullable on nullable heap parts.1);
    fields = λ on index fields e. all (map unpacked fields) (first.fields on index fields e) (second.fields on index fields e);
    elements = λ on index field e. one (unpacked field) (first.elements on index field e) (second.elements on index field e);
  }
