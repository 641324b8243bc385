-- The state after entries that keep all rules and limits, and after others.
use Rattle.std.proofs.Common.{◌≡◌, ℕ, true, false, List, [], ◌++◌, Some, is_some, slice_get, refl, sym, ap, subst, ◌∙◌}
use Rattle.std.specs.List.{AllByRecursion}
use Rattle.wasm_spec.specs.Features.{Features}
use Rattle.wasm_spec.specs.Trees.{DefType}
use Rattle.wasmparser_module_types.specs.ModuleTypes.{KnownTypes}
use Rattle.wasm_validity.specs.Context.{Context, after_all, at_first}
use Rattle.wasm_validity.specs.DefinedTypes.{func_type_at}
use Rattle.wasm_validity.specs.Entries.{Entry, entries_of}
use Rattle.wasm_validity.specs.IndexSpaces.{spaces_in}
use Rattle.wasm_validity.specs.Rules.{KeepLimits, KeepRules}
use Rattle.wasm_validity_laws.specs.KnownImports.{IsThere}
use Rattle.wasm_validity_laws.specs.NamedTypes.{NamesTypes}
use Rattle.wasmparser_module_state.specs.History.{EnterAll, held}
use Rattle.wasmparser_module_state.specs.State.{context, features_of}
use Rattle.wasmparser_module_state.specs.declared.module_state.ModuleState.{ModuleState}
use Rattle.wasmparser_payloads.specs.Pieces.{Piece}
use Rattle.wasmparser_validator.specs.PieceJudging.{Says}
use Rattle.wasmparser_validator.proofs.EntryLists.{after_both, enter_both, keep_both, within_both}
use Rattle.wasmparser_validator.specs.Bodies.{AreNamed}
use Rattle.wasmparser_validator.specs.KnownSpaces.{AreFew, CanBeShown, IsReached}
use Rattle.wasmparser_validator.proofs.Counts.{are_few}

pub reached_first : (state : ModuleState) → context state ≡ at_first → IsReached state
reached_first state known = record { before = held state; entries = []; rules = tt; limits = tt; known = known; entered = refl }

-- what a piece says comes after the entries before it
pub reached_next : (old new : ModuleState) (piece : Piece) → IsReached old → Says (features_of old) (context old) (held old) piece (context new) (held new) → features_of new ≡ features_of old → IsReached new
reached_next old new piece before said same = record {
  before = before.before;
  entries = before.entries ++ said.entries;
  rules = subst (λ f. KeepRules f at_first (before.entries ++ said.entries)) (sym same)
      (keep_both (features_of old) at_first before.entries said.entries before.rules (subst (λ cx. KeepRules (features_of old) cx said.entries) before.known said.rules));
  limits = within_both at_first before.entries said.entries before.limits (subst (λ cx. KeepLimits cx said.entries) before.known said.limits);
  known = said.known ∙ ap (λ cx. after_all cx said.entries) before.known ∙ sym (after_both at_first before.entries said.entries);
  entered = subst (λ f. EnterAll f at_first before.before (before.entries ++ said.entries) (held new)) (sym same)
      (enter_both (features_of old) at_first before.before (held old) (held new) before.entries said.entries before.entered (subst (λ cx. EnterAll (features_of old) cx (held old) said.entries (held new)) before.known said.entered));
}

pub ruleset next_steps = (reached_first, reached_next)

-- what is known at a module's end is what was known
pub reached_so : (old new : ModuleState) → IsReached old → context new ≡ context old → new.types ≡ record old.types { grows = false } → IsReached new
reached_so old new reached known types = record {
  before = reached.before;
  entries = reached.entries;
  rules = subst (λ (t : KnownTypes). KeepRules t.features at_first reached.entries) (sym types) reached.rules;
  limits = reached.limits;
  known = known ∙ reached.known;
  entered = subst (λ (t : KnownTypes). EnterAll t.features at_first reached.before reached.entries t.interned) (sym types) reached.entered;
}

pub ruleset end_steps = (reached_first, reached_so)

pub can_be_shown : (state : ModuleState) → ((features : Features) (entries : List Entry) → KeepRules features at_first entries → NamesTypes (spaces_in (after_all at_first entries)))
    → ((entries : List Entry) → AllByRecursion (IsThere (after_all at_first entries)) (after_all at_first entries).imported) → IsReached state → CanBeShown state
can_be_shown state law there reached = record {
  few = subst AreFew (sym reached.known) (are_few reached.entries reached.limits);
  named = subst (λ (cx : Context). NamesTypes (spaces_in cx)) (sym reached.known) (law (features_of state) reached.entries reached.rules);
  imports = subst (λ (cx : Context). AllByRecursion (IsThere cx) cx.imported) (sym reached.known) (there reached.entries);
}

pub are_named : (state : ModuleState) → ((features : Features) (entries : List Entry) (place index : ℕ) → KeepRules features at_first entries
    → slice_get (after_all at_first entries).own_functions place ≡ Some index → is_some (func_type_at (after_all at_first entries).types index) ≡ true)
    → IsReached state → AreNamed (context state)
are_named state law reached = subst AreNamed (sym reached.known) (λ place index at. law (features_of state) reached.entries place index reached.rules at)

pub ruleset shown_steps = (can_be_shown, are_named)
