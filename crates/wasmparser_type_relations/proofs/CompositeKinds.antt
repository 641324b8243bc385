-- Kinds of composite types.
use Rattle.std.proofs.Common.{◌≡◌, true, refl}
use Rattle.wasm_spec.specs.Subtyping.{abstract_of, bottom_of, is_abstract_below}
use Rattle.wasm_spec.specs.Types.{AbstractHeapType, None, NoFunc, NoCont, CompositeType, FuncComposite, StructComposite, ArrayComposite, ContComposite}
use Rattle.wasmparser_type_relations.specs.Ranked.{is_same_kind}

pub kinds_agree : {R : Type 0} (c d : CompositeType R) → is_same_kind c d ≡ true → abstract_of d ≡ abstract_of c
kinds_agree (FuncComposite a) (FuncComposite b) h = refl
kinds_agree (StructComposite a) (StructComposite b) h = refl
kinds_agree (ArrayComposite a) (ArrayComposite b) h = refl
kinds_agree (ContComposite a) (ContComposite b) h = refl
kinds_agree _ _ h = absurd cc

pub agreeing_kinds : {R : Type 0} (c d : CompositeType R) → abstract_of d ≡ abstract_of c → is_same_kind c d ≡ true
agreeing_kinds (FuncComposite a) (FuncComposite b) h = refl
agreeing_kinds (StructComposite a) (StructComposite b) h = refl
agreeing_kinds (ArrayComposite a) (ArrayComposite b) h = refl
agreeing_kinds (ContComposite a) (ContComposite b) h = refl
agreeing_kinds _ _ h = absurd cc

-- only a kind's bottom is below its bottom
pub bottom_alone : {R : Type 0} (a : AbstractHeapType) (c : CompositeType R) → is_abstract_below a (bottom_of c) ≡ true → bottom_of c ≡ a
bottom_alone NoFunc (FuncComposite type) h = refl
bottom_alone _ (FuncComposite type) h = absurd cc
bottom_alone None (StructComposite fields) h = refl
bottom_alone _ (StructComposite fields) h = absurd cc
bottom_alone None (ArrayComposite field) h = refl
bottom_alone _ (ArrayComposite field) h = absurd cc
bottom_alone NoCont (ContComposite function) h = refl
bottom_alone _ (ContComposite function) h = absurd cc

pub bottom_itself : {R : Type 0} (c : CompositeType R) → is_abstract_below (bottom_of c) (bottom_of c) ≡ true
bottom_itself (FuncComposite type) = refl
bottom_itself (StructComposite fields) = refl
bottom_itself (ArrayComposite field) = refl
bottom_itself (ContComposite function) = refl
