-- Entries that keep the rules by index keep them in the context that is meant.
use Rattle.std.proofs.Common.{◌≤◌, ℕ, suc, List, [], ◌∷◌, length, sym, ◌∙◌, subst}
use Rattle.std.specs.List.{AllByRecursion}
use Rattle.std.proofs.lemmas.Bool.{and_from}
use Rattle.wasm_spec.specs.Features.{Features}
use Rattle.wasm_spec.specs.Limits.{Types, most}
use Rattle.wasm_spec.specs.Syntax.{imported_by}
use Rattle.wasm_spec.specs.Types.{SubType}
use Rattle.wasm_spec.proofs.GroupTrees.{Stand}
use Rattle.wasm_validity.specs.Context.{Context, after}
use Rattle.wasm_validity.specs.Entries.{Entry, OfCustom, OfType, OfImport, OfFunction, OfTable, OfMemory, OfTags, OfTag, OfGlobal, OfExport, OfStart, OfElement, OfDataCount, OfBody, OfData}
use Rattle.wasm_validity.specs.Rules.{Keeps, KeepRules, keep_items as keep_items_in, shares_small_index}
use Rattle.wasm_smith_validity.specs.Rules.{KeepsRule, KeepAll}
use Rattle.wasm_smith_validity.proofs.IndexedContext.{IsBehind, by_index, entry_after, items_types}
use Rattle.wasm_smith_validity.proofs.MeantItems.{function_as, tag_as, items_as, own_table_as, global_as, element_as, data_as, export_as, start_as}
use Rattle.wasm_smith_validity.proofs.SmallIndexes.{entry_small}

keeps_as : (features : Features) (types : List (SubType ℕ)) (cx : Context) → Stand types cx.types → length types ≤ most Types → (entry : Entry) → IsBehind entry
    → KeepsRule features (by_index types cx) entry → Keeps features cx entry
keeps_as features types cx stand few (OfCustom name) behind h = tt
keeps_as features types cx stand few (OfType group) behind h = absurd behind
keeps_as features types cx stand few (OfImport entry) behind h =
    and_from (shares_small_index entry) (keep_items_in features cx (imported_by entry)) (entry_small features (by_index types cx) entry few h.0 h.1)
    (items_as features types cx stand (imported_by entry) ∙ h.1)
keeps_as features types cx stand few (OfFunction index) behind h = function_as types cx stand index ∙ h
keeps_as features types cx stand few (OfTable table) behind h = own_table_as features types cx stand table h
keeps_as features types cx stand few (OfMemory type) behind h = h
keeps_as features types cx stand few OfTags behind h = h
keeps_as features types cx stand few (OfTag index) behind h = tag_as features types cx stand index ∙ h
keeps_as features types cx stand few (OfGlobal global) behind h = global_as features types cx stand global h
keeps_as features types cx stand few (OfExport export) behind h = export_as features types cx export ∙ h
keeps_as features types cx stand few (OfStart function) behind h = start_as types cx stand function ∙ h
keeps_as features types cx stand few (OfElement segment) behind h = element_as features types cx stand segment h
keeps_as features types cx stand few (OfDataCount count) behind h = h
keeps_as features types cx stand few (OfBody body) behind h = tt
keeps_as features types cx stand few (OfData segment) behind h = data_as features types cx stand segment.mode h

-- no entry behind the types adds types
stand_after : (types : List (SubType ℕ)) (cx : Context) → Stand types cx.types → (entry : Entry) → IsBehind entry → Stand types (after cx entry).types
stand_after types cx stand (OfCustom name) h = stand
stand_after types cx stand (OfType group) h = absurd h
stand_after types cx stand (OfImport entry) h = subst (Stand types) (sym (items_types (record cx { imports = suc cx.imports }) (imported_by entry))) stand
stand_after types cx stand (OfFunction index) h = stand
stand_after types cx stand (OfTable table) h = stand
stand_after types cx stand (OfMemory type) h = stand
stand_after types cx stand OfTags h = stand
stand_after types cx stand (OfTag index) h = stand
stand_after types cx stand (OfGlobal global) h = stand
stand_after types cx stand (OfExport export) h = stand
stand_after types cx stand (OfStart function) h = stand
stand_after types cx stand (OfElement segment) h = stand
stand_after types cx stand (OfDataCount count) h = stand
stand_after types cx stand (OfBody body) h = stand
stand_after types cx stand (OfData segment) h = stand

pub rules_as : (features : Features) (types : List (SubType ℕ)) (cx : Context) → Stand types cx.types → length types ≤ most Types → (entries : List Entry)
    → AllByRecursion IsBehind entries → KeepAll features (by_index types cx) entries → KeepRules features cx entries
rules_as features types cx stand few [] behind h = tt
rules_as features types cx stand few (entry ∷ entries) behind h = (
  keeps_as features types cx stand few entry behind.0 h.0,
  rules_as features types (after cx entry) (stand_after types cx stand entry behind.0) few entries behind.1
      (subst (λ k. KeepAll features k entries) (sym (entry_after types cx entry behind.0)) h.1),
)
