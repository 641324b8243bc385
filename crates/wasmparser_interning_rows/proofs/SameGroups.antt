-- A group of which nothing was replaced names what it named.
use Rattle.std.proofs.Common.{◌≡◌, List, [], ◌∷◌, map, refl, sym, ap, ◌∙◌, subst}
use Rattle.std.specs.List.{AllByRecursion}
use Rattle.wasm_spec.proofs.TypeMaps.{group_refs-map}
use Rattle.wasm_spec.specs.TypeReferences.{group_map, group_refs}
use Rattle.wasm_spec.specs.Types.{RecGroup}
use Rattle.wasmparser_rec_groups.specs.Interning.{IsModuleIndex, NamesModuleTypes}
use Rattle.wasmparser_types.specs.Index.{Index}

same : (xs : List Index) → map (λ index. index) xs ≡ xs
same [] = refl
same (x ∷ xs) = ap (λ q. x ∷ q) (same xs)

pub names : (old new : RecGroup Index) → new ≡ group_map (λ index. index) old → AllByRecursion IsModuleIndex (group_refs old) → NamesModuleTypes new
names old new is all =
    let refs : group_refs new ≡ group_refs old = ap group_refs is ∙ group_refs-map (λ index. index) old ∙ same (group_refs old) in
    subst (AllByRecursion IsModuleIndex) (sym refs) all
