use Rattle.wasm_core_types.specs.SubTypes.{sub_type}
use Rattle.wasm_smith_validity.proofs.BelowLaws.{abstract_exact, concrete_exact, to_abstract_exact, none_to_abstract, to_concrete_exact, none_to_concrete}
use Rattle.wasm_smith_validity.proofs.WalkLaws.{seen_get, seen_none}
use Rattle.wasm_smith_validity.proofs.subtyping.is_heap_below.Goals as goal

pub returns-in-Abstract-high : goal.returns-in-Abstract-high
returns-in-Abstract-high c = λ all. rw (c.in-Abstract.is, c.in-Abstract-high.is) (abstract_exact c.args.types.now _ _ _ c.is_abstract_below.ensures)

pub returns-in-Some : goal.returns-in-Some
returns-in-Some c = λ all.
    let is = seen_get sub_type c.args.types.now c.in-Concrete-high.index c.in-Some.type_.now c.in-Some.ensures.lookup.0 c.in-Some.ensures.lookup.1 in
    rw (c.in-Abstract.is, c.in-Concrete-high.is)
    (to_concrete_exact c.args.types.now _ c.in-Concrete-high.index c.in-Some.type_.now _ is (rw c.bottom_of.ensures at c.is_abstract_below-in-Some.ensures))

pub returns-in-None : goal.returns-in-None
returns-in-None c = λ all.
    let is = seen_none sub_type c.args.types.now c.in-Concrete-high.index c.in-None.ensures.lookup.0 in
    rw (c.in-Abstract.is, c.in-Concrete-high.is) (λ no. absurd cc, λ h. absurd (none_to_concrete c.args.types.now _ c.in-Concrete-high.index is h))

pub returns-in-Some-get : goal.returns-in-Some-get
returns-in-Some-get c = λ all.
    let is = seen_get sub_type c.args.types.now c.in-Concrete.index c.in-Some-get.type_.now c.in-Some-get.ensures.lookup.0 c.in-Some-get.ensures.lookup.1 in
    rw (c.in-Concrete.is, c.in-Abstract-high-2.is)
    (to_abstract_exact c.args.types.now c.in-Concrete.index c.in-Some-get.type_.now _ _ is (rw c.kind_of.ensures at c.is_abstract_below-in-Some-get.ensures))

pub returns-in-None-get : goal.returns-in-None-get
returns-in-None-get c = λ all.
    let is = seen_none sub_type c.args.types.now c.in-Concrete.index c.in-None-get.ensures.lookup.0 in
    rw (c.in-Concrete.is, c.in-Abstract-high-2.is) (λ no. absurd cc, λ h. absurd (none_to_abstract c.args.types.now c.in-Concrete.index _ is h))

pub returns-in-Concrete-high-2 : goal.returns-in-Concrete-high-2
returns-in-Concrete-high-2 c = λ all. rw (c.in-Concrete.is, c.in-Concrete-high-2.is) (concrete_exact c.args.types.now _ _ _ (c.is_under.ensures all))
