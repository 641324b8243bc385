-- The encoding of a made module (Core Specification 3.0, Binary Format, "Modules"), the shortest that there is: neighbouring locals of one type are one run,
-- and a section without items isn't written. Its counts, runs and lengths are numbers of 32 bits.
use Rattle.std.specs.Prelude.{◌≡◌, ◌⊎◌, ⊤, ℕ, ◌≤◌, ◌<◌, ◌^◌, Bool, List, [], ◌∷◌, ◌++◌, length, map}
use Rattle.std.specs.List.{AllByRecursion, AllZip, flat_map}
use Rattle.wasm_bodies.specs.Bodies.{Run}
use Rattle.wasm_encoder_bodies.specs.Locals.{locals_encoding, AreRunsOf, AreWritable, PassLength}
use Rattle.wasm_spec.specs.Grammar.{header}
use Rattle.wasm_spec.specs.Syntax.{Section}
use Rattle.wasm_spec.specs.Types.{ValType}
use Rattle.wasm_smith_unstructured.specs.declared.error.Error.{Error}
use Rattle.wasm_smith_unstructured.specs.declared.error.Error.TheVariants.{IncorrectFormat, EmptyChoose, NotEnoughData, BadConfig, BadShape, TypeSize, Memory, TooLong}
use Rattle.wasm_smith_validity.specs.Made.{Made, MadeBody}
use Rattle.wasm_smith_validity.specs.MadeBodies.{code_of}
use Rattle.wasm_smith_validity.specs.Sections.{sections_with}
use Rattle.wasm_smith_sections.specs.Contents.{content, section_bytes, stated_count}

-- ---- bodies

-- so many locals of a type
abbrev pub as_run : ℕ × ValType ℕ → Run
as_run run = record { count = run.0; type = run.1 }

-- The encoding of a body: runs of its locals, and what follows them.
pub record IsBodyEncoding (made : MadeBody) (encoding : List ℕ) : Type 0 where
  pub runs : List (ℕ × ValType ℕ)
  pub joined : AreRunsOf made.locals runs
  pub writable : AreWritable runs
  pub is : encoding ≡ locals_encoding (map as_run runs) ++ code_of made.raw

abbrev pub AreBodyEncodings : List MadeBody → List (List ℕ) → Type 0
AreBodyEncodings made bodies = AllZip IsBodyEncoding made bodies

-- ---- modules

-- the encoding of a module with these bodies, where data segments may be counted
abbrev pub encoding_with : Bool → Made → List (List ℕ) → List ℕ
encoding_with counted m bodies = header ++ flat_map section_bytes (sections_with counted bodies m)

-- the content of a section has a length of 32 bits
abbrev pub IsShortSection : Section → Type 0
IsShortSection section = length (content section) < 2 ^ 32

pub record IsModuleEncoding (counted : Bool) (m : Made) (encoding : List ℕ) : Type 0 where
  pub bodies : List (List ℕ)
  pub are : AreBodyEncodings m.bodies bodies
  pub short : AllByRecursion IsShortSection (sections_with counted bodies m)
  pub is : encoding ≡ encoding_with counted m bodies

-- ---- what can't be written

-- some item has this
abbrev pub SomeByRecursion : {A : Type 0} → (A → Type 0) → List A → Type 0
SomeByRecursion P [] = ⊥
SomeByRecursion P (item ∷ items) = P item ⊎ SomeByRecursion P items

-- some of these locals, from the first on, have too many runs, or one that is too long
abbrev pub HasLongFront : List (ValType ℕ) → Type 0
HasLongFront locals = (front rest : List (ValType ℕ)) × (locals ≡ front ++ rest) × PassLength front

abbrev pub SomeHaveLongFront : List MadeBody → Type 0
SomeHaveLongFront [] = ⊥
SomeHaveLongFront (body ∷ others) = HasLongFront body.locals ⊎ SomeHaveLongFront others

abbrev pub HasManyItems : Section → Type 0
HasManyItems section = 2 ^ 32 ≤ stated_count section

abbrev pub IsLongSection : Section → Type 0
IsLongSection section = 2 ^ 32 ≤ length (content section)

-- A count, a run or a length is past 32 bits: the number of items of some kind, bodies aside, or of bodies, or runs of the locals of one of them, or the
-- content of a section.
abbrev pub PassesLength : Bool → Made → Type 0
PassesLength counted m = SomeByRecursion HasManyItems (sections_with counted [] m)
    ⊎ (2 ^ 32 ≤ length m.bodies)
    ⊎ SomeHaveLongFront m.bodies
    ⊎ ((bodies : List (List ℕ)) × AreBodyEncodings m.bodies bodies × SomeByRecursion IsLongSection (sections_with counted bodies m))

-- why a made module isn't written
abbrev pub IsUnwritten : Bool → Made → Error → Type 0
IsUnwritten counted m IncorrectFormat = ⊥
IsUnwritten counted m EmptyChoose = ⊥
IsUnwritten counted m NotEnoughData = ⊥
IsUnwritten counted m (BadConfig field) = ⊥
IsUnwritten counted m (BadShape part) = ⊥
IsUnwritten counted m TypeSize = ⊥
IsUnwritten counted m Memory = ⊤
IsUnwritten counted m TooLong = PassesLength counted m
