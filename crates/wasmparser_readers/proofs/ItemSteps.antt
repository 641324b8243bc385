-- Forms that their first byte announces: what reads where there is no byte, and after one.
use Rattle.std.proofs.Common.{◌≡◌, ◌≢◌, ◌≤◌, ◌<◌, ℕ, List, [], ◌∷◌, Some, None, refl, ap, ◌∙◌}
use Rattle.std.proofs.lemmas.Bool.{ne_eqb, le-ltb, lt-ltb}
use Rattle.wasm_core_read.specs.Reading.{ReadingOf, byte_at, unsigned_at, announced_at}
use Rattle.wasm_core_read.specs.TypeReading.{limits_at, limits_with, tag_type_at, external_kind_at}
use Rattle.wasm_core_read.proofs.Forms.{some_is}
use Rattle.wasm_spec.specs.Types.{FuncKind, TableKind, MemoryKind, GlobalKind, TagKind}

pub no_code : {A : Type 0} (form : ℕ → ReadingOf A) (bytes : List ℕ) → byte_at bytes ≡ None → announced_at form bytes ≡ None
unfolding byte_at
no_code form [] e = refl
no_code form (b ∷ rest) e = absurd cc

pub after : {A : Type 0} (form : ℕ → ReadingOf A) (bytes : List ℕ) (b : ℕ) (rest : List ℕ) → byte_at bytes ≡ Some (b, rest) → announced_at form bytes ≡ form b rest
unfolding byte_at
after form [] b rest e = absurd cc
after form (c ∷ cs) b rest e = ap (λ (p : ℕ × List ℕ). form p.0 p.1) (some_is (c, cs) (b, rest) e)

-- ---- limits

pub no_limits : (bytes : List ℕ) → byte_at bytes ≡ None → limits_at bytes ≡ None
unfolding limits_at
no_limits bytes e = no_code _ bytes e

pub other_flags : (bytes : List ℕ) (b : ℕ) (rest : List ℕ) → byte_at bytes ≡ Some (b, rest) → 16 ≤ b → limits_at bytes ≡ None
unfolding limits_at
other_flags bytes b rest e high = after _ bytes b rest e ∙ rw (le-ltb b 16 high) refl

pub limits : (bytes : List ℕ) (b : ℕ) (rest : List ℕ) → byte_at bytes ≡ Some (b, rest) → b < 16 → limits_at bytes ≡ limits_with b rest
unfolding limits_at
limits bytes b rest e low = after _ bytes b rest e ∙ rw (lt-ltb b 16 low) refl

pub ruleset limits_steps = (no_limits, other_flags, limits)

-- ---- tags

pub no_tag : (bytes : List ℕ) → byte_at bytes ≡ None → tag_type_at bytes ≡ None
unfolding tag_type_at
no_tag bytes e = no_code _ bytes e

pub tag : (bytes : List ℕ) (b : ℕ) (rest : List ℕ) → byte_at bytes ≡ Some (b, rest) → b ≡ 0 → tag_type_at bytes ≡ unsigned_at 32 rest
unfolding tag_type_at
tag bytes b rest e same = after _ bytes b rest e ∙ rw same refl

pub other_tag : (bytes : List ℕ) (b : ℕ) (rest : List ℕ) → byte_at bytes ≡ Some (b, rest) → b ≢ 0 → tag_type_at bytes ≡ None
unfolding tag_type_at
other_tag bytes b rest e other = after _ bytes b rest e ∙ rw (ne_eqb b 0 other) refl

pub ruleset tag_steps = (no_tag, tag, other_tag)

-- ---- kinds

pub no_kind : (bytes : List ℕ) → byte_at bytes ≡ None → external_kind_at bytes ≡ None
unfolding external_kind_at
no_kind bytes e = no_code _ bytes e

pub func_kind : (bytes : List ℕ) (b : ℕ) (rest : List ℕ) → byte_at bytes ≡ Some (b, rest) → b ≡ 0 → external_kind_at bytes ≡ Some (FuncKind, rest)
unfolding external_kind_at
func_kind bytes b rest e same = after _ bytes b rest e ∙ rw same refl

pub table_kind : (bytes : List ℕ) (b : ℕ) (rest : List ℕ) → byte_at bytes ≡ Some (b, rest) → b ≡ 1 → external_kind_at bytes ≡ Some (TableKind, rest)
unfolding external_kind_at
table_kind bytes b rest e same = after _ bytes b rest e ∙ rw same refl

pub memory_kind : (bytes : List ℕ) (b : ℕ) (rest : List ℕ) → byte_at bytes ≡ Some (b, rest) → b ≡ 2 → external_kind_at bytes ≡ Some (MemoryKind, rest)
unfolding external_kind_at
memory_kind bytes b rest e same = after _ bytes b rest e ∙ rw same refl

pub global_kind : (bytes : List ℕ) (b : ℕ) (rest : List ℕ) → byte_at bytes ≡ Some (b, rest) → b ≡ 3 → external_kind_at bytes ≡ Some (GlobalKind, rest)
unfolding external_kind_at
global_kind bytes b rest e same = after _ bytes b rest e ∙ rw same refl

pub tag_kind : (bytes : List ℕ) (b : ℕ) (rest : List ℕ) → byte_at bytes ≡ Some (b, rest) → b ≡ 4 → external_kind_at bytes ≡ Some (TagKind, rest)
unfolding external_kind_at
tag_kind bytes b rest e same = after _ bytes b rest e ∙ rw same refl

pub other_kind : (bytes : List ℕ) (b : ℕ) (rest : List ℕ) → byte_at bytes ≡ Some (b, rest) → b ≢ 0 → b ≢ 1 → b ≢ 2 → b ≢ 3 → b ≢ 4 → external_kind_at bytes ≡ None
unfolding external_kind_at
other_kind bytes b rest e h i j k l = after _ bytes b rest e ∙ rw (ne_eqb b 0 h, ne_eqb b 1 i, ne_eqb b 2 j, ne_eqb b 3 k, ne_eqb b 4 l) refl

pub ruleset kind_steps = (no_kind, func_kind, table_kind, memory_kind, global_kind, tag_kind, other_kind)
