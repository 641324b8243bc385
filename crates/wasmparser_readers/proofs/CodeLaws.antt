-- Forms that their first byte announces: what reads where there is no byte, and after one.
use Rattle.std.proofs.Common.{◌≡◌, ◌≢◌, ℕ, true, false, List, [], ◌∷◌, Some, None, refl, ap, ◌∙◌}
use Rattle.std.proofs.lemmas.Bool.{ne_eqb}
use Rattle.wasm_core_read.specs.Reading.{ReadingOf, byte_at, announced_at}
use Rattle.wasm_core_read.specs.TypeReading.{mutability_at}
use Rattle.wasm_core_read.proofs.Forms.{some_is}
use Rattle.wasmparser_readers.specs.PackedReading.{packed_val_at, packed_val_from, packed_ref_type_at, packed_ref_from, packed_storage_at, packed_storage_from, packed_composite_at, packed_composite_from, packed_sub_at, packed_sub_from, packed_group_at, packed_group_from}

no_code : {A : Type 0} (form : ℕ → ReadingOf A) (bytes : List ℕ) → byte_at bytes ≡ None → announced_at form bytes ≡ None
unfolding byte_at
no_code form [] e = refl
no_code form (b ∷ rest) e = absurd cc

after : {A : Type 0} (form : ℕ → ReadingOf A) (bytes : List ℕ) (b : ℕ) (rest : List ℕ) → byte_at bytes ≡ Some (b, rest) → announced_at form bytes ≡ form b rest
unfolding byte_at
after form [] b rest e = absurd cc
after form (c ∷ cs) b rest e = ap (λ (p : ℕ × List ℕ). form p.0 p.1) (some_is (c, cs) (b, rest) e)

pub no_val : (bytes : List ℕ) → byte_at bytes ≡ None → packed_val_at bytes ≡ None
unfolding packed_val_at
no_val bytes e = no_code _ bytes e

pub val_after : (bytes : List ℕ) (b : ℕ) (rest : List ℕ) → byte_at bytes ≡ Some (b, rest) → packed_val_at bytes ≡ packed_val_from b rest
unfolding packed_val_at
val_after bytes b rest e = after _ bytes b rest e

pub ruleset val_codes = (no_val, val_after)

pub no_ref : (bytes : List ℕ) → byte_at bytes ≡ None → packed_ref_type_at bytes ≡ None
unfolding packed_ref_type_at
no_ref bytes e = no_code _ bytes e

pub ref_after : (bytes : List ℕ) (b : ℕ) (rest : List ℕ) → byte_at bytes ≡ Some (b, rest) → packed_ref_type_at bytes ≡ packed_ref_from b rest
unfolding packed_ref_type_at
ref_after bytes b rest e = after _ bytes b rest e

pub ruleset ref_codes = (no_ref, ref_after)

pub no_storage : (bytes : List ℕ) → byte_at bytes ≡ None → packed_storage_at bytes ≡ None
unfolding packed_storage_at
no_storage bytes e = no_code _ bytes e

pub storage_after : (bytes : List ℕ) (b : ℕ) (rest : List ℕ) → byte_at bytes ≡ Some (b, rest) → packed_storage_at bytes ≡ packed_storage_from b rest
unfolding packed_storage_at
storage_after bytes b rest e = after _ bytes b rest e

pub ruleset storage_codes = (no_storage, storage_after)

pub no_composite : (bytes : List ℕ) → byte_at bytes ≡ None → packed_composite_at bytes ≡ None
unfolding packed_composite_at
no_composite bytes e = no_code _ bytes e

pub composite_after : (bytes : List ℕ) (b : ℕ) (rest : List ℕ) → byte_at bytes ≡ Some (b, rest) → packed_composite_at bytes ≡ packed_composite_from b rest
unfolding packed_composite_at
composite_after bytes b rest e = after _ bytes b rest e

pub ruleset composite_codes = (no_composite, composite_after)

pub no_sub : (bytes : List ℕ) → byte_at bytes ≡ None → packed_sub_at bytes ≡ None
unfolding packed_sub_at
no_sub bytes e = no_code _ bytes e

pub sub_after : (bytes : List ℕ) (b : ℕ) (rest : List ℕ) → byte_at bytes ≡ Some (b, rest) → packed_sub_at bytes ≡ packed_sub_from b rest
unfolding packed_sub_at
sub_after bytes b rest e = after _ bytes b rest e

pub ruleset sub_codes = (no_sub, sub_after)

pub no_group : (bytes : List ℕ) → byte_at bytes ≡ None → packed_group_at bytes ≡ None
unfolding packed_group_at
no_group bytes e = no_code _ bytes e

pub group_after : (bytes : List ℕ) (b : ℕ) (rest : List ℕ) → byte_at bytes ≡ Some (b, rest) → packed_group_at bytes ≡ packed_group_from b rest
unfolding packed_group_at
group_after bytes b rest e = after _ bytes b rest e

pub ruleset group_codes = (no_group, group_after)

pub no_mutability : (bytes : List ℕ) → byte_at bytes ≡ None → mutability_at bytes ≡ None
unfolding mutability_at
no_mutability bytes e = no_code _ bytes e

pub const : (bytes : List ℕ) (b : ℕ) (rest : List ℕ) → byte_at bytes ≡ Some (b, rest) → b ≡ 0 → mutability_at bytes ≡ Some (false, rest)
unfolding mutability_at
const bytes b rest e same = after _ bytes b rest e ∙ rw same refl

pub mutable : (bytes : List ℕ) (b : ℕ) (rest : List ℕ) → byte_at bytes ≡ Some (b, rest) → b ≡ 1 → mutability_at bytes ≡ Some (true, rest)
unfolding mutability_at
mutable bytes b rest e same = after _ bytes b rest e ∙ rw same refl

pub neither : (bytes : List ℕ) (b : ℕ) (rest : List ℕ) → byte_at bytes ≡ Some (b, rest) → b ≢ 0 → b ≢ 1 → mutability_at bytes ≡ None
unfolding mutability_at
neither bytes b rest e off on = after _ bytes b rest e ∙ rw (ne_eqb b 0 off, ne_eqb b 1 on) refl

pub ruleset mutability_codes = (no_mutability, const, mutable, neither)
