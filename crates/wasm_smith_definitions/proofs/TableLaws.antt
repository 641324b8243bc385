-- Tables that a configuration offers keep the rules under its features.
use Rattle.std.proofs.Common.{min, ◌≡◌, ℕ, zero, suc, ◌-◌, ◌^◌, ◌<◌, ◌≤◌, Bool, true, false, ◌&&◌, ◌||◌, List, [], length, append-nil, refl, ap, sym, ◌∙◌, subst, arith, nat_eq, if◌then◌else◌, Some, None}
use Rattle.std.proofs.lemmas.Bool.{and_from, and_parts, or_left, or_right}
use Rattle.wasm_spec.specs.Constants.{ConstantExpression}
use Rattle.wasm_spec.specs.Features.{Features, has, Gc, Memory64, ReferenceTypes, FunctionReferences}
use Rattle.wasm_spec.specs.Gates.{is_allowed}
use Rattle.wasm_spec.specs.Types.{HeapType, Abstract, Concrete, RefType, TableType, ValType, GlobalType}
use Rattle.wasm_validity.specs.Rules.{value_of}
use Rattle.wasm_validity.specs.TypeRules.{is_funcref}
use Rattle.wasm_smith_config.specs.Config.{AreFeaturesOf, sanitized}
use Rattle.wasm_smith_config.specs.declared.config.Config.{Config}
use Rattle.wasm_smith_definitions.specs.Kinds.{of_table}
use Rattle.wasm_smith_definitions.specs.Steps.{Allows}
use Rattle.wasm_smith_types.specs.Drawing.{Offers, reference_at}
use Rattle.wasm_smith_types.specs.Permitted.{IsPermittedValue, SuitsValues}
use Rattle.wasm_smith_types.proofs.OfferingLaws.{values_suit}
use Rattle.wasm_smith_types.proofs.PermittedLaws.{reference_permitted}
use Rattle.wasm_smith_validity.specs.Constants.{IsConstant, Scope, imported_scope, scope}
use Rattle.wasm_smith_validity.specs.Rules.{keeps_table}
use Rattle.wasm_smith_validity.specs.Spaces.{Spaces, functions_of, globals_of, is_named}
use Rattle.wasm_smith_definitions.specs.Constants.{MayWrite, Gives, has_plain}
use Rattle.wasm_smith_definitions.specs.Offered.{most_elements_for, AreOffersOf, IsPermittedFor, IsOfferedElement, IsOfferedTable, HasFewTables, with_null}
use Rattle.wasm_smith_definitions.proofs.OfferedLaws.{implies_from, bounds_from, null_permitted, null_plain, permitted_written}

-- ---- element types

-- references of the configuration's offers are permitted where references are values
pub reference_offered : (c : Config) (o : Offers) (count : ℕ) (s t : List ℕ) (type : ValType ℕ) → AreOffersOf c o → reference_at o count s ≡ (type, t) → c.reference_types_enabled ≡ true
    → IsPermittedFor c count (with_null type)
reference_offered c o count s t type are drawn on features f =
    let fst : ValType ℕ × List ℕ → ValType ℕ = λ p. p.0 in
    let suits : SuitsValues features o = subst (SuitsValues features) (sym are) (values_suit c features f) in
    null_permitted features count type (subst (IsPermittedValue features count) (ap fst drawn) (reference_permitted features o suits count s (f ReferenceTypes ∙ on)))

both : true ≡ false → ⊥
both e = cc

pub element_offered : (c : Config) (o : Offers) (count : ℕ) (s t : List ℕ) (type : ValType ℕ) (element : RefType ℕ) → AreOffersOf c o → c.reference_types_enabled ≡ true → reference_at o count s ≡ (type, t)
    → value_of element ≡ with_null type → IsOfferedElement c count element
element_offered c o count s t type element are on drawn is = record {
  nullable = ap has_plain is ∙ null_plain type;
  permitted = λ here. subst (IsPermittedFor c count) (sym is) (reference_offered c o count s t type are drawn here);
  only_functions = λ off. absurd (both (sym on ∙ off));
}

func_named : (k : Spaces) (nullable : Bool) (heap : HeapType ℕ) → is_funcref (record { nullable = nullable; heap_type = heap }) ≡ true → is_named k.types heap ≡ true
func_named k nullable (Abstract heap) e = refl
func_named k true (Concrete index) e = absurd cc
func_named k false (Concrete index) e = absurd cc

element_is : (c : Config) (k : Spaces) (features : Features) (count : ℕ) (type : RefType ℕ) (on : Bool) → c.reference_types_enabled ≡ on → AreFeaturesOf c features → count ≤ length k.types
    → IsOfferedElement c count type → ((is_funcref type || is_allowed features (value_of type)) && is_named k.types type.heap_type) ≡ true
element_is c k features count type true on f le h =
    let written = permitted_written c k count (value_of type) (h.permitted on) le features f in
    let parts = and_parts (is_allowed features (value_of type)) (is_named k.types type.heap_type) written in
    and_from _ _ (or_right (is_funcref type) _ parts.0) parts.1
element_is c k features count type false on f le h =
    let func = h.only_functions on in
    and_from _ _ (or_left _ _ func) (func_named k type.nullable type.heap_type func)

pub element_written : (c : Config) (k : Spaces) (count : ℕ) (type : RefType ℕ) → HasFewTables c → c.gc_enabled ≡ true → IsOfferedElement c count type → count ≤ length k.types → MayWrite c k (value_of type)
element_written c k count type few gc h le = permitted_written c k count (value_of type) (h.permitted (few.references gc)) le

-- ---- tables

elements_within : (c : Config) (is_64 : Bool) → most_elements_for c is_64 ≤ (if is_64 then 2 ^ 64 - 1 else 2 ^ 32 - 1)
elements_within c true = omega arith
elements_within c false = omega arith

one_or_several : (c : Config) (count : ℕ) (on : Bool) → HasFewTables c → count < c.max_tables → (references : Bool) → c.reference_types_enabled ≡ references → on ≡ references → (nat_eq count 0 || on) ≡ true
one_or_several c zero on few room references r e = refl
one_or_several c (suc count) on few room true r e = or_right _ _ e
one_or_several c (suc count) on few room false r e = let one = few.one r in absurd (omega (arith, one, room))

-- a configuration that is put in order has few tables
pub sanitized_few : (c : Config) → HasFewTables (sanitized c)
sanitized_few c = record { one = λ off. few c.reference_types_enabled off; references = λ on. (and_parts c.gc_enabled c.reference_types_enabled on).1 }
  where
    few : (references : Bool) → references ≡ false → (if references then c.max_tables else min c.max_tables 1) ≤ 1
    few true off = absurd (both off)
    few false off = omega arith

-- an offered table, imported or own, keeps its rule where there is room
pub table_keeps : (c : Config) (k : Spaces) (features : Features) (count : ℕ) (type : TableType ℕ) → AreFeaturesOf c features → HasFewTables c → length k.tables < c.max_tables → count ≤ length k.types
    → IsOfferedTable c count type → keeps_table features k type ≡ true
table_keeps c k features count type f few room le h =
    and_from _ _ (and_from _ _ (element_is c k features count type.element_type c.reference_types_enabled refl f le h.element)
    (and_from _ _ (implies_from type.limits.is_64 _ (λ e. f Memory64 ∙ h.is_64 e)) (bounds_from type.limits (most_elements_for c type.limits.is_64) _ h.bounds (elements_within c type.limits.is_64))))
    (one_or_several c (length k.tables) (has features ReferenceTypes) few room c.reference_types_enabled refl (f ReferenceTypes))

pub null_table_allowed : (c : Config) (k : Spaces) (count : ℕ) (type : TableType ℕ) → HasFewTables c → length k.tables < c.max_tables → count ≤ length k.types → IsOfferedTable c count type
    → Allows c k (of_table (record { type = type; initialiser = None }))
null_table_allowed c k count type few room le h features f = record {
  type = table_keeps c k features count type f few room le h;
  filled = h.element.nullable;
  initialiser = tt;
}

imported_alone : (k : Spaces) (own : List (GlobalType ℕ)) (gc : Bool) → k.own_globals ≡ own → own ≡ [] → (if gc then globals_of k else k.imported_globals) ≡ k.imported_globals
imported_alone k own true e none = rw (e, none) (append-nil k.imported_globals)
imported_alone k own false e none = refl

-- before a module's own globals all expressions see the imported ones alone
pub same_scope : (features : Features) (k : Spaces) → k.own_globals ≡ [] → scope features k ≡ imported_scope k
same_scope features k none =
    ap (λ (globals : List (GlobalType ℕ)). let s : Scope = record { types = k.types; functions = functions_of k; globals = globals } in s) (imported_alone k k.own_globals (has features Gc) refl none)

pub filled_table_allowed : (c : Config) (k : Spaces) (count : ℕ) (type : TableType ℕ) (e : ConstantExpression) → HasFewTables c → length k.tables < c.max_tables → count ≤ length k.types → IsOfferedTable c count type
    → k.own_globals ≡ [] → c.gc_enabled ≡ true → Gives c k (value_of type.element_type) e → Allows c k (of_table (record { type = type; initialiser = Some e }))
filled_table_allowed c k count type e few room le h none gc gives features f = record {
  type = table_keeps c k features count type f few room le h;
  filled = f FunctionReferences ∙ gc;
  initialiser = subst (λ s. IsConstant features s (value_of type.element_type) e) (same_scope features k none) (gives features f);
}
