-- How large types count.
use Rattle.std.specs.Prelude.{ℕ, ◌+◌, ◌*◌, ◌-◌, length}
use Rattle.std.specs.declared.ops.Range.{Range}
use Rattle.wasm_spec.specs.Types.{CompositeType, FuncComposite, StructComposite, ArrayComposite, ContComposite}

-- A sub type and its composite type count one each. Beside them count a parameter or a result one, a field its storage and whether it is mutable, and
-- elements one.
abbrev pub size_of : {R : Type 0} → CompositeType R → ℕ
size_of (FuncComposite type) = 2 + length type.params + length type.results
size_of (StructComposite fields) = 2 + 2 * length fields
size_of (ArrayComposite elements) = 3
size_of (ContComposite function) = 2

-- a group counts its types
abbrev pub group_size : Range ℕ → ℕ
group_size range = range.end - range.start
