-- Imports in the order in which they came, and the same in groups.
use Rattle.std.proofs.Common.{◌≡◌, ◌<◌, Bool, true, false, List, [], ◌∷◌, ◌++◌, ℕ, length, unwrap_or, refl, ap, ap₂, ◌∙◌}
use Rattle.std.specs.List.{list_any}
use Rattle.std.specs.Prelude.{bytes_eq, if◌then◌else◌, OnOk, Result, Ok, Err}
use Rattle.std.specs.declared.alloc.AllocError.{AllocError}
use Rattle.wasm_validity.specs.ImportedItems.{Imported, with_import, with_imports}
use Rattle.wasmparser_names.proofs.Keys.{known_before}
use Rattle.wasmparser_names.specs.ImportNames.{Kept, imported, module_at}
use Rattle.wasmparser_names.specs.KeptImports.{AreOfModules, kept_imports}
use Rattle.wasmparser_names.specs.ModuleNames.{with_name}
use Rattle.wasmparser_names.specs.declared.import_names.KeptImport.{KeptImport}
use Rattle.wasmparser_names.specs.declared.name_hasher.NameHasher.{NameHasher}

one_more : (old news : List Imported) (new : Imported) → with_imports old (news ++ new ∷ []) ≡ with_import (with_imports old news) new
one_more old [] new = refl
one_more old (x ∷ news) new = one_more (with_import old x) news new

module _ (modules : List (List ℕ)) where
  abbrev of_kept : KeptImport → Imported
  of_kept import = imported (module_at modules import.origin) import.name import.item

  last_kept : (imports : List KeptImport) (import : KeptImport) → kept_imports modules (imports ++ import ∷ []) ≡ kept_imports modules imports ++ of_kept import ∷ []
  last_kept [] import = refl
  last_kept (x ∷ imports) import = ap (λ l. of_kept x ∷ l) (last_kept imports import)

  pub kept_last : (imports : List KeptImport) (import : KeptImport) (name : List ℕ) → import.name ≡ name
      → kept_imports modules (imports ++ import ∷ []) ≡ kept_imports modules imports ++ imported (module_at modules import.origin) name import.item ∷ []
  kept_last imports import name is =
      last_kept imports import ∙ ap (λ name. kept_imports modules imports ++ imported (module_at modules import.origin) name import.item ∷ []) is

  pub known_last : (imports : List KeptImport) (import : KeptImport) → import.origin < length modules → AreOfModules modules imports → AreOfModules modules (imports ++ import ∷ [])
  known_last [] import known all = (known, tt)
  known_last (x ∷ imports) import known all = (all.0, known_last imports import known all.1)

  -- an import goes to its group
  pub kept_pushed : (hasher : NameHasher) (imports new : List KeptImport) (import : Imported) (result : Result (Unit {0}) AllocError) → OnOk result (kept_imports modules new ≡ kept_imports modules imports ++ import ∷ [])
      → OnOk result
      (◌≡◌ {A = Kept} (record { modules = modules; imports = with_imports [] (kept_imports modules new); hasher = hasher })
      (record { modules = modules; imports = with_import (with_imports [] (kept_imports modules imports)) import; hasher = hasher }))
  kept_pushed hasher imports new import (Ok x) is =
      ap (λ imports. record { modules = modules; imports = imports; hasher = hasher }) (ap (with_imports []) is ∙ one_more [] (kept_imports modules imports) import)
  kept_pushed hasher imports new import (Err e) is = tt

-- ---- names of modules that come later

module _ (modules more : List (List ℕ)) where
  -- a known one stays
  same_module : (n : ℕ) → n < length modules → module_at (modules ++ more) n ≡ module_at modules n
  same_module n few = ap (λ o. unwrap_or o []) (known_before modules more n few)

  same_kept : (imports : List KeptImport) → AreOfModules modules imports → kept_imports (modules ++ more) imports ≡ kept_imports modules imports
  same_kept [] all = refl
  same_kept (x ∷ imports) all = ap₂ (λ origin l. imported origin x.name x.item ∷ l) (same_module x.origin all.0) (same_kept imports all.1)

module _ (modules : List (List ℕ)) (name : List ℕ) (imports : List KeptImport) (all : AreOfModules modules imports) where
  named_more : kept_imports (with_name modules name) imports ≡ kept_imports modules imports
  named_more = by (list_any (bytes_eq name) modules)
    where
      by : (b : Bool) → kept_imports (if b then modules else modules ++ name ∷ []) imports ≡ kept_imports modules imports
      by true = refl
      by false = same_kept modules (name ∷ []) imports all

  pub numbered : (old_hasher new_hasher : NameHasher) → new_hasher ≡ old_hasher → (result : Result ℕ AllocError) (new : List (List ℕ)) → OnOk result (new ≡ with_name modules name)
      → OnOk result
      (◌≡◌ {A = Kept} (record { modules = new; imports = with_imports [] (kept_imports new imports); hasher = new_hasher })
      (record { modules = with_name modules name; imports = with_imports [] (kept_imports modules imports); hasher = old_hasher }))
  numbered hasher new_hasher same (Ok n) new is = rw (is, same) (ap (λ kept. record { modules = with_name modules name; imports = with_imports [] kept; hasher = hasher }) named_more)
  numbered hasher new_hasher same (Err e) new is = tt
