-- Indexes of defined types, and the numbers that they are packed into.
use Rattle.std.specs.Prelude.{◌≡◌, ℕ, ◌+◌, ◌*◌, ◌/◌, ◌%◌, ◌^◌, ◌<◌, ◌==◌, Option, Some, None, if◌then◌else◌}
use Rattle.std.proofs.Common.{arith}
use Rattle.std.proofs.lemmas.Bool.Decides.{nat_tests}

-- how a defined type is named: by its place in the module, by its place in its own recursive group, or by its id
pub data Index : Type 0 where
  Module : ℕ → Index
  RecGroup : ℕ → Index
  Id : ℕ → Index

-- the number, of whichever kind it is
abbrev pub number_of : Index → ℕ
number_of (Module n) = n
number_of (RecGroup n) = n
number_of (Id n) = n

abbrev pub module_index : Index → Option ℕ
module_index (Module n) = Some n
module_index (RecGroup n) = None
module_index (Id n) = None

abbrev pub rec_group_index : Index → Option ℕ
rec_group_index (Module n) = None
rec_group_index (RecGroup n) = Some n
rec_group_index (Id n) = None

abbrev pub core_type_id : Index → Option ℕ
core_type_id (Module n) = None
core_type_id (RecGroup n) = None
core_type_id (Id n) = Some n

-- the numbers that are packed are below this one
abbrev pub packable : ℕ
packable = 2 ^ 20

-- the number, and its kind in the lowest 2 bits
abbrev pub packed : Index → ℕ
packed (Module n) = 4 * n
packed (RecGroup n) = 4 * n + 1
packed (Id n) = 4 * n + 2

abbrev pub unpacked : ℕ → Index
unpacked bits = if bits % 4 == 0 then Module (bits / 4) else (if bits % 4 == 1 then RecGroup (bits / 4) else Id (bits / 4))

-- these bits are those of an index
pub record IsPacked (bits : ℕ) : Type 0 where
  pub number : bits < 4 * packable
  pub kind : bits % 4 < 3

pub packed-unpacked : (bits : ℕ) → bits % 4 < 3 → packed (unpacked bits) ≡ bits
packed-unpacked bits is = grind (arith, nat_tests)

pub unpacked-packed : (index : Index) → unpacked (packed index) ≡ index
unpacked-packed (Module n) = grind (arith, nat_tests)
unpacked-packed (RecGroup n) = grind (arith, nat_tests)
unpacked-packed (Id n) = grind (arith, nat_tests)
