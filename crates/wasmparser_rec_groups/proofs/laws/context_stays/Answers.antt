use Rattle.wasm_spec.specs.Features.{needs_type_canonicalization}
use Rattle.wasmparser_rec_groups.specs.Interning.{canonical_members}
use Rattle.wasmparser_rec_groups.proofs.KnownTypes.{same_context, still_canonical, still_no_module}
use Rattle.wasmparser_rec_groups.proofs.laws.context_stays.Goals as goal

pub returns : goal.returns
returns c = record {
  no_module = λ features ids old new group is_new number it interned. still_no_module old new ids group (needs_type_canonicalization features) is_new number interned it.names it.none;
  types = λ canonical features ids others old new group is_new number it interned known.
      same_context canonical old new it.agree (needs_type_canonicalization features) is_new (canonical_members ids group) number interned others known;
  found = λ canonical features ids old new group is_new number interned own found.
      still_canonical canonical old new (needs_type_canonicalization features) is_new (canonical_members ids group) number interned own found;
}
