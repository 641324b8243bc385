-- Types named by their places in the module.
use Rattle.std.specs.Prelude.{⊤}
use Rattle.wasmparser_types.specs.Index.{Index, Module, RecGroup, Id}

abbrev pub IsModuleIndex : Index → Type 0
IsModuleIndex (Module n) = ⊤
IsModuleIndex (RecGroup n) = ⊥
IsModuleIndex (Id n) = ⊥
