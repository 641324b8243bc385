-- Adding a group to the types of a module adds its entry.
use Rattle.std.proofs.Common.{◌≡◌, ◌≤◌, ◌<◌, ◌+◌, inl, inr, ℕ, suc, Bool, true, false, List, [], ◌∷◌, length, refl, sym, subst, arith, rules}
use Rattle.std.specs.Prelude.{if◌then◌else◌, not, Result, Ok, Err, IfOk, IfErr}
use Rattle.std.specs.List.{AllByRecursion}
use Rattle.wasm_core_types.specs.Limits as core
use Rattle.wasm_spec.proofs.GroupTrees.{length-types_after}
use Rattle.wasm_spec.specs.Features.{Features, Gc, has}
use Rattle.wasm_spec.specs.Groups.{KeepsGroupRules, reference_bound}
use Rattle.wasm_spec.specs.Limits.{Limit, Groups, Types, most, total_of_types}
use Rattle.wasm_spec.specs.Syntax.{members}
use Rattle.wasm_spec.specs.Trees.{DefType, types_after}
use Rattle.wasm_spec.specs.TypeReferences.{group_refs}
use Rattle.wasm_spec.specs.Types.{RecGroup}
use Rattle.wasm_validity.specs.Context.{Context}
use Rattle.wasm_validity.specs.DefinedTypes.{PassesGroupLimit}
use Rattle.wasm_validity.specs.Entries.{OfType}
use Rattle.wasm_validity.specs.Rules.{is_past}
use Rattle.wasmparser_error.specs.declared.error.Error.{Error}
use Rattle.wasmparser_error.specs.declared.error.ErrorKind.{ErrorKind}
use Rattle.wasmparser_error.specs.declared.error.ErrorKind.TheVariants as kinds
use Rattle.wasmparser_module_state.specs.Judging.{Accepts, Adds, NamesEntry, IsAt}
use Rattle.wasmparser_module_types.specs.ModuleTypes.{KnownTypes, AddsGroup, RefusesGroup, IsCause, breaks_a_rule, finds_no_room, passes_a_limit, out_of_memory}
use Rattle.wasmparser_module_types.specs.History.{HasNoRoom}

all_below : (bound n : ℕ) → bound ≤ n → (indexes : List ℕ) → AllByRecursion (λ index. index < bound) indexes → AllByRecursion (λ index. index < n) indexes
all_below bound n le [] all = tt
all_below bound n le (index ∷ indexes) all = (omega (arith, all.0, le), all_below bound n le indexes all.1)

bound_within : (features : Features) (before : List DefType) (group : RecGroup ℕ) → reference_bound features (length before) group ≤ length before + length (members group)
bound_within features before group = by_gc (has features Gc)
  where
    by_gc : (gc : Bool) → (if gc then length before + length (members group) else length before) ≤ length before + length (members group)
    by_gc true = omega arith
    by_gc false = omega arith

small : (features : Features) (before : List DefType) (group : RecGroup ℕ) → KeepsGroupRules features before group → length (types_after before group) ≤ most Types
    → AllByRecursion (λ index. index < total_of_types) (group_refs group)
small features before group keeps few =
    all_below (reference_bound features (length before) group) total_of_types
    (omega (arith, bound_within features before group, length-types_after before group, few)) (group_refs group) keeps.in_range

within_limit : (limit : Limit) (n : ℕ) → n ≤ most limit → not (is_past limit n) ≡ true
within_limit limit n le = search (rules, arith)

past_limit : (limit : Limit) (n : ℕ) → most limit < n → is_past limit n ≡ true
past_limit limit n lt = search (rules, arith)

accepted : (cx : Context) (old new : KnownTypes) (group : RecGroup ℕ) → cx.types ≡ old.types → cx.groups ≡ old.groups → AddsGroup old new group
    → Accepts old.features cx (OfType group) (record cx { types = new.types; groups = new.groups })
accepted cx old new group types groups adds = record {
  rule = record {
    rules = subst (λ ts. KeepsGroupRules old.features ts group) (sym types) adds.rules;
    small = small old.features old.types group adds.rules adds.few_types;
  };
  limits = record {
    numbers = rw (types, groups, within_limit Groups (suc old.groups) adds.few_groups, within_limit Types (length (types_after old.types group)) adds.few_types) refl;
    types = λ limit passes. adds.limits limit (subst (λ ts. PassesGroupLimit ts group limit) types passes);
  };
  known = rw (adds.types, adds.groups, types, groups) refl;
}

named : (cx : Context) (old : KnownTypes) (group : RecGroup ℕ) (kind : ErrorKind) → cx.types ≡ old.types → cx.groups ≡ old.groups → IsCause old group kind → NamesEntry old.features cx old.interned (OfType group) kind
named cx old group _ types groups (breaks_a_rule breaks) = λ keeps. breaks (subst (λ ts. KeepsGroupRules old.features ts group) types keeps.rules)
named cx old group _ types groups (passes_a_limit l (inl p)) = inl (inl (sym p.0, rw groups (past_limit Groups (suc old.groups) p.1)))
named cx old group _ types groups (passes_a_limit l (inr (inl p))) = inl (inr (inl (sym p.0, rw types (past_limit Types (length (types_after old.types group)) p.1))))
named cx old group _ types groups (passes_a_limit l (inr (inr p))) = inr (subst (λ ts. PassesGroupLimit ts group (core.limit l)) (sym types) p)
named cx old group _ types groups (finds_no_room full) = subst (λ ts. HasNoRoom old.interned ts group) (sym types) full
named cx old group _ types groups (out_of_memory right) = rw (types, groups) right

placed : (kind : ErrorKind) (offset place : ℕ) → place ≡ offset → IsAt offset kind place
placed kinds.Memory offset place e = tt
placed _ offset place e = e

pub adds_group : (cx : Context) (old new : KnownTypes) (group : RecGroup ℕ) (offset : ℕ) (result : Result (Unit {0}) Error) → cx.types ≡ old.types → cx.groups ≡ old.groups
    → IfOk result (λ _. AddsGroup old new group) → IfErr result (RefusesGroup old group offset) → Adds old.features cx old.interned (OfType group) offset result (record cx { types = new.types; groups = new.groups })
adds_group cx old new group offset (Ok x) types groups ok err = accepted cx old new group types groups ok
adds_group cx old new group offset (Err e) types groups ok err = (named cx old group e.kind types groups err.cause, placed e.kind offset e.offset err.place, refl)
