-- Indexes as the code has them unpacked.
use Rattle.wasmparser_types.specs.Index as spec
use Rattle.wasmparser_types.specs.declared.index.UnpackedIndex.{UnpackedIndex}
use Rattle.wasmparser_types.specs.declared.index.UnpackedIndex.TheVariants.{Module, RecGroup, Id}

abbrev pub index : UnpackedIndex → spec.Index
index (Module n) = spec.Module n
index (RecGroup n) = spec.RecGroup n
index (Id n) = spec.Id n
