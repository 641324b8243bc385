use Rattle.std.proofs.Common.{◌≡◌, ◌⊎◌, ℕ, ap, inl, inr, sym, ◌∙◌, nat_lt, subst}
use Rattle.std.specs.Int.{from_bool}
use Rattle.wasm_encoder_sections.specs.CoreItems.{export_kind}
use Rattle.wasm_encoder_sections.specs.declared.entity_type.ExportKind.{ExportKind}
use Rattle.wasm_encoder_sections.specs.declared.entity_type.ExportKind.TheVariants as kinds
use Rattle.wasm_smith_definitions.specs.Kinds.{count_of}
use Rattle.wasm_smith_module.proofs.ExportLaws.{global_size, memory_size, table_size}
use Rattle.wasm_smith_module.proofs.counts.export_size.Goals as goal
use Rattle.wasm_smith_module.specs.Measures.{size_of_item, with_own}
use Rattle.wasm_smith_sections.specs.ModuleItems.{made_of}
use Rattle.wasm_smith_validity.specs.Rules.{item_at}
use Rattle.wasm_smith_validity.specs.Spaces.{Spaces}

abbrev IsPlain : Spaces → ℕ → ExportKind → Type 0
IsPlain k index kind = size_of_item k.types (item_at k (export_kind kind) index) ≡ from_bool (nat_lt index (count_of k (export_kind kind)))

plain : (k : Spaces) (index : ℕ) (kind : ExportKind) → (kind ≡ kinds.Table) ⊎ ((kind ≡ kinds.Memory) ⊎ (kind ≡ kinds.Global)) → IsPlain k index kind
plain k index kind (inl e) = subst (IsPlain k index) (sym e) (table_size k index)
plain k index kind (inr (inl e)) = subst (IsPlain k index) (sym e) (memory_size k index)
plain k index kind (inr (inr e)) = subst (IsPlain k index) (sym e) (global_size k index)

pub returns-in-Table : goal.returns-in-Table
returns-in-Table c =
    let k = with_own c.args.imported.now (made_of c.args.items.now) in
    c.from.ensures ∙ (ap from_bool c.has_item.ensures ∙ sym (plain k c.args.item.now.index c.args.item.now.kind c.in-Table.is))
