-- What is read as an operator is one, and each operator is read: once for each shape, and by the table.
use Rattle.std.proofs.Common.{◌≡◌, ℕ, zero, suc, Bool, true, false, not, List, [], ◌∷◌, ◌++◌, Option, Some, None, is_some, refl, sym, ap, subst, ◌∙◌, append_assoc, arith}
use Rattle.std.specs.List.{AllByRecursion, Contains}
use Rattle.std.specs.Option.{option_map}
use Rattle.wasm_bodies.specs.OperatorGrammar.{code_of, is_prefix, IsCode, IsBlockType, IsIndexWith, IsMemoryArgument, AreImmediates, IsOperator}
use Rattle.wasm_bodies.specs.OperatorRows.{OperatorCode, Byte, Prefixed, ScalarRow, AccessRow, scalar_rows, load_rows, store_rows}
use Rattle.wasm_bodies.specs.Operators.{BlockType, Operator, AnyConvertExtern, ArrayNew, ArrayNewDefault, ArrayNewFixed, Block, Br, BrIf, BrOnNonNull, BrOnNull, BrTable, Call, CallIndirect, CallRef, DataDrop, Drop, ElemDrop, Else, End, ExternConvertAny, F32Const, F64Const, GlobalGet, GlobalSet, I32Const, I64Const, If, Load, LocalGet, LocalSet, LocalTee, Loop, MemoryCopy, MemoryFill, MemoryGrow, MemoryInit, MemorySize, Nop, RefAsNonNull, RefEq, RefFunc, RefI31, RefIsNull, RefNull, Return, ReturnCall, ReturnCallIndirect, ReturnCallRef, Scalar, Select, SelectTyped, Store, StructNew, StructNewDefault, TableCopy, TableFill, TableGet, TableGrow, TableInit, TableSet, TableSize, Unreachable, V128Const}
use Rattle.wasm_core_read.specs.Laws.{ReadsExactly}
use Rattle.wasm_core_read.specs.Reading.{ReadingOf, unsigned_at, signed_at, bytes_at, float_at, seen_at, pair_at}
use Rattle.wasm_core_read.specs.TypeReading.{heap_type_at}
use Rattle.wasm_core_read.proofs.Forms.{bind_some, some_is, joined, rest_bytes, Found, reads_unsigned, reads_bytes, unsigned_found, unsigned_again}
use Rattle.wasm_core_read.proofs.NumberForms.{reads_signed, reads_float}
use Rattle.wasm_core_read.proofs.TypeForms.{reads_heap_type}
use Rattle.wasm_core_read.proofs.WayForms.{Finds, seen, reads_pair}
use Rattle.wasm_spec.specs.Bytes.{IsBytesOf, IsFloatBits, IsU32, IsSigned, IsPair, IsList}
use Rattle.wasm_spec.specs.Features.{Features, has, ReferenceTypes, MultiMemory}
use Rattle.wasm_spec.specs.TypeGrammar.{IsHeapType, IsValType}
use Rattle.wasm_spec.specs.Types.{ValType}
use Rattle.wasmparser_operators.specs.CodeTables.{first_of, scalar_code, access_code, row_of, load_of, store_of}
use Rattle.wasmparser_operators.specs.OperatorReading.{All, Shape, Bare, Number, Numbers, OfTable, OfMemory, Access, OfBlock, OfHeap, OfTypes, Labels, Signed, Float, Sixteen, Entry, entry_code, form_entries, form_of, shape_at, shape_of, scalar_shape, load_shape, store_shape, or_shape, shaped_at, coded_at, code_from, code_at, kept_operator_at, operator_at, block_type_at, index_with_at, memory_argument_at, types_at, labels_at, types_in, lone_type, packed_types}
use Rattle.wasmparser_operators.proofs.CodeTables.{first_found, first_is, listed, not_some}
use Rattle.wasmparser_operators.proofs.ImmediateForms.{reads_block_type, reads_index_with, reads_memory_argument, reads_types, reads_labels}

-- ---- what it is for a shape to be that of a code

-- what is made of each immediate has the code, and its immediates are those
abbrev Makes : {A : Type 0} → Features → OperatorCode → (List ℕ → A → Type 0) → (A → Operator ℕ) → Type 0
Makes {A} features code IsA f = (a : A) → (code_of (f a) ≡ code) × ((encoding : List ℕ) → IsA encoding a → AreImmediates features encoding (f a))

abbrev pub Fits : Features → OperatorCode → Shape → Type 0
Fits features code (Bare operator) = (code_of operator ≡ code) × AreImmediates features [] operator
Fits features code (Number f) = Makes features code IsU32 f
Fits features code (Numbers f) = Makes features code (IsPair IsU32 IsU32) (λ x. f x.0 x.1)
Fits features code (OfTable f) = Makes features code (IsPair IsU32 (IsIndexWith (has features ReferenceTypes))) (λ x. f x.0 x.1)
Fits features code (OfMemory f) = Makes features code (IsIndexWith (has features MultiMemory)) f
Fits features code (Access f) = Makes features code (IsMemoryArgument features) f
Fits features code (OfBlock f) = Makes features code (IsBlockType features) f × ((type : BlockType ℕ) → packed_types (f type) ≡ types_in type)
Fits features code (OfHeap f) = Makes features code IsHeapType f
Fits features code (OfTypes f) = Makes features code (IsList IsValType) f × ((types : List (ValType ℕ)) → packed_types (f types) ≡ lone_type types)
Fits features code (Labels f) = Makes features code (IsPair (IsList IsU32) IsU32) (λ x. f x.0 x.1)
Fits features code (Signed bits f) = Makes features code (IsSigned bits) f
Fits features code (Float len f) = Makes features code (IsFloatBits len) f
Fits features code (Sixteen f) = Makes features code (IsBytesOf 16) f

-- ---- the table

abbrev FitsCode : Features → Entry → Type 0
FitsCode features entry = Fits features entry.0 entry.1

form_entries_fit : (features : Features) → AllByRecursion (FitsCode features) form_entries
form_entries_fit features = (
  (refl, refl),
  (
    (refl, refl),
    (
      (λ a. (refl, λ encoding h. h), λ a. refl),
      (
        (λ a. (refl, λ encoding h. h), λ a. refl),
        (
          (λ a. (refl, λ encoding h. h), λ a. refl),
          (
            (refl, refl),
            (
              (refl, refl),
              (
                λ a. (refl, λ encoding h. h),
                (
                  λ a. (refl, λ encoding h. h),
                  (
                    λ a. (refl, λ encoding h. h),
                    (
                      (refl, refl),
                      (
                        λ a. (refl, λ encoding h. h),
                        (
                          λ a. (refl, λ encoding h. h),
                          (
                            λ a. (refl, λ encoding h. h),
                            (
                              λ a. (refl, λ encoding h. h),
                              (
                                λ a. (refl, λ encoding h. h),
                                (
                                  λ a. (refl, λ encoding h. h),
                                  (
                                    λ a. (refl, λ encoding h. h),
                                    (
                                      λ a. (refl, λ encoding h. h),
                                      (
                                        (refl, refl),
                                        (
                                          (refl, refl),
                                          (
                                            (λ a. (refl, λ encoding h. h), λ a. refl),
                                            (
                                              λ a. (refl, λ encoding h. h),
                                              (
                                                λ a. (refl, λ encoding h. h),
                                                (
                                                  λ a. (refl, λ encoding h. h),
                                                  (
                                                    λ a. (refl, λ encoding h. h),
                                                    (
                                                      λ a. (refl, λ encoding h. h),
                                                      (
                                                        λ a. (refl, λ encoding h. h),
                                                        (
                                                          λ a. (refl, λ encoding h. h),
                                                          (
                                                            λ a. (refl, λ encoding h. h),
                                                            (
                                                              λ a. (refl, λ encoding h. h),
                                                              (
                                                                λ a. (refl, λ encoding h. h),
                                                                (
                                                                  λ a. (refl, λ encoding h. h),
                                                                  (
                                                                    λ a. (refl, λ encoding h. h),
                                                                    (
                                                                      λ a. (refl, λ encoding h. h),
                                                                      (
                                                                        λ a. (refl, λ encoding h. h),
                                                                        (
                                                                          λ a. (refl, λ encoding h. h),
                                                                          (
                                                                            λ a. (refl, λ encoding h. h),
                                                                            (
                                                                              λ a. (refl, λ encoding h. h),
                                                                              (
                                                                                λ a. (refl, λ encoding h. h),
                                                                                (
                                                                                  λ a. (refl, λ encoding h. h),
                                                                                  (
                                                                                    λ a. (refl, λ encoding h. h),
                                                                                    (
                                                                                      λ a. (refl, λ encoding h. h),
                                                                                      (
                                                                                        λ a. (refl, λ encoding h. h),
                                                                                        (
                                                                                          λ a. (refl, λ encoding h. h),
                                                                                          (
                                                                                            λ a. (refl, λ encoding h. h),
                                                                                            (
                                                                                              λ a. (refl, λ encoding h. h),
                                                                                              (
                                                                                                (refl, refl),
                                                                                                (
                                                                                                  λ a. (refl, λ encoding h. h),
                                                                                                  (
                                                                                                    (refl, refl),
                                                                                                    (
                                                                                                      (refl, refl),
                                                                                                      (
                                                                                                        λ a. (refl, λ encoding h. h),
                                                                                                        (
                                                                                                          λ a. (refl, λ encoding h. h),
                                                                                                          (
                                                                                                            λ a. (refl, λ encoding h. h),
                                                                                                            (
                                                                                                              λ a. (refl, λ encoding h. h),
                                                                                                              (
                                                                                                                λ a. (refl, λ encoding h. h),
                                                                                                                (
                                                                                                                  (refl, refl),
                                                                                                                  (
                                                                                                                    (refl, refl),
                                                                                                                    ((refl, refl), tt),
                                                                                                                  ),
                                                                                                                ),
                                                                                                              ),
                                                                                                            ),
                                                                                                          ),
                                                                                                        ),
                                                                                                      ),
                                                                                                    ),
                                                                                                  ),
                                                                                                ),
                                                                                              ),
                                                                                            ),
                                                                                          ),
                                                                                        ),
                                                                                      ),
                                                                                    ),
                                                                                  ),
                                                                                ),
                                                                              ),
                                                                            ),
                                                                          ),
                                                                        ),
                                                                      ),
                                                                    ),
                                                                  ),
                                                                ),
                                                              ),
                                                            ),
                                                          ),
                                                        ),
                                                      ),
                                                    ),
                                                  ),
                                                ),
                                              ),
                                            ),
                                          ),
                                        ),
                                      ),
                                    ),
                                  ),
                                ),
                              ),
                            ),
                          ),
                        ),
                      ),
                    ),
                  ),
                ),
              ),
            ),
          ),
        ),
      ),
    ),
  ),
)

all_contained : {X : Type 0} (P : X → Type 0) (xs : List X) (x : X) → AllByRecursion P xs → Contains xs x → P x
all_contained P [] x all (k, lt, is) = absurd (omega (arith, lt))
all_contained P (y ∷ ys) x all (zero, lt, is) = subst P is all.0
all_contained P (y ∷ ys) x all (suc k, lt, is) = all_contained P ys x all.1 (k, omega (arith, lt), is)

-- the shape that the table has for a code fits it
pub shape_fits : (features : Features) (code : OperatorCode) (shape : Shape) → shape_of code ≡ Some shape → Fits features code shape
unfolding shape_of row_of
shape_fits features code shape e =
    by_form (form_of code) refl (first_of scalar_code scalar_rows code) refl (load_of code) refl (store_of code) refl e
  where
    by_form : (form : Option Entry) → form_of code ≡ form → (row : Option ScalarRow) → first_of scalar_code scalar_rows code ≡ row → (load : Option AccessRow) → load_of code ≡ load → (store : Option AccessRow) → store_of code ≡ store
        → or_shape (option_map (λ entry. entry.1) form) (or_shape (option_map scalar_shape row) (or_shape (option_map load_shape load) (option_map store_shape store))) ≡ Some shape → Fits features code shape
    by_form (Some entry) f row r load l store s g =
        let x = first_found entry_code form_entries code entry f in
        subst (λ y. Fits features code y) (some_is entry.1 shape g) (subst (λ c. Fits features c entry.1) x.1 (all_contained (FitsCode features) form_entries entry (form_entries_fit features) x.0))
    by_form None f (Some row) r load l store s g =
        let x = first_found scalar_code scalar_rows code row r in
        subst (λ y. Fits features code y) (some_is (scalar_shape row) shape g) (x.1, (refl, x.0))
    by_form None f None r (Some row) l store s g =
        let x = first_found access_code load_rows code row l in
        subst (λ y. Fits features code y) (some_is (load_shape row) shape g) (λ a. (x.1, λ encoding h. (h, x.0)))
    by_form None f None r None l (Some row) s g =
        let x = first_found access_code store_rows code row s in
        subst (λ y. Fits features code y) (some_is (store_shape row) shape g) (λ a. (x.1, λ encoding h. (h, x.0)))
    by_form None f None r None l None s g = absurd cc

-- ---- what is read of a shape

-- an operator of the code, with its immediates
abbrev IsOf : Features → OperatorCode → List ℕ → Operator ℕ → Type 0
IsOf features code encoding operator = (code_of operator ≡ code) × AreImmediates features encoding operator

made : {A : Type 0} (features : Features) (code : OperatorCode) (IsA : List ℕ → A → Type 0) (a_at : ReadingOf A) (f : A → Operator ℕ) → Finds IsA a_at → Makes features code IsA f → Finds (IsOf features code) (seen_at f a_at)
made features code IsA a_at f law fit = seen (IsOf features code) IsA a_at f law (λ encoding a h. ((fit a).0, (fit a).1 encoding h))

reads_two : ReadsExactly (IsPair IsU32 IsU32) (pair_at (unsigned_at 32) (unsigned_at 32))
reads_two = reads_pair IsU32 (unsigned_at 32) IsU32 (unsigned_at 32) (reads_unsigned 32) (reads_unsigned 32)

reads_table : (several : Bool) → ReadsExactly (IsPair IsU32 (IsIndexWith several)) (pair_at (unsigned_at 32) (index_with_at several))
reads_table several = reads_pair IsU32 (unsigned_at 32) (IsIndexWith several) (index_with_at several) (reads_unsigned 32) (reads_index_with several)

shape_found : (features : Features) (code : OperatorCode) (shape : Shape) → Fits features code shape → Finds (IsOf features code) (shape_at All features shape)
shape_found features code (Bare operator) fit = λ bytes v rest are e. subst (λ (x : Operator ℕ × List ℕ). Found (IsOf features code) bytes x.0 x.1) (some_is (operator, bytes) (v, rest) e) ([], refl, fit)
shape_found features code (Number f) fit = made features code IsU32 (unsigned_at 32) f (reads_unsigned 32).found fit
shape_found features code (Numbers f) fit = made features code (IsPair IsU32 IsU32) (pair_at (unsigned_at 32) (unsigned_at 32)) (λ x. f x.0 x.1) reads_two.found fit
shape_found features code (OfTable f) fit =
    made features code (IsPair IsU32 (IsIndexWith (has features ReferenceTypes))) (pair_at (unsigned_at 32) (index_with_at (has features ReferenceTypes))) (λ x. f x.0 x.1) (reads_table (has features ReferenceTypes)).found fit
shape_found features code (OfMemory f) fit = made features code (IsIndexWith (has features MultiMemory)) (index_with_at (has features MultiMemory)) f (reads_index_with (has features MultiMemory)).found fit
shape_found features code (Access f) fit = made features code (IsMemoryArgument features) (memory_argument_at features) f (reads_memory_argument features).found fit
shape_found features code (OfBlock f) fit = made features code (IsBlockType features) (block_type_at All features) f (reads_block_type features).found fit.0
shape_found features code (OfHeap f) fit = made features code IsHeapType heap_type_at f reads_heap_type.found fit
shape_found features code (OfTypes f) fit = made features code (IsList IsValType) (types_at All) f reads_types.found fit.0
shape_found features code (Labels f) fit = made features code (IsPair (IsList IsU32) IsU32) labels_at (λ x. f x.0 x.1) reads_labels.found fit
shape_found features code (Signed bits f) fit = made features code (IsSigned bits) (signed_at bits) f (reads_signed bits).found fit
shape_found features code (Float len f) fit = made features code (IsFloatBits len) (float_at len) f (reads_float len).found fit
shape_found features code (Sixteen f) fit = made features code (IsBytesOf 16) (bytes_at 16) f (reads_bytes 16).found fit

coded_found : (features : Features) (code : OperatorCode) → Finds (IsOf features code) (coded_at All features code)
coded_found features code bytes v rest are e = by_shape (shape_of code) refl e
  where
    by_shape : (shape : Option Shape) → shape_of code ≡ shape → shaped_at All features shape bytes ≡ Some (v, rest) → Found (IsOf features code) bytes v rest
    by_shape None f g = absurd cc
    by_shape (Some shape) f g = shape_found features code shape (shape_fits features code shape f) bytes v rest are g

-- ---- codes

code_found : Finds IsCode code_at
unfolding code_at
code_found [] v rest are e = absurd cc
code_found (b ∷ bs) v rest are e = by_test (is_prefix b) refl e
  where
    number_from : OperatorCode × List ℕ → Type 0
    number_from x = Found IsCode (b ∷ bs) x.0 x.1

    by_test : (t : Bool) → is_prefix b ≡ t → code_from b bs ≡ Some (v, rest) → Found IsCode (b ∷ bs) v rest
    by_test true t g =
        let n = bind_some (unsigned_at 32 bs) (λ n. Some (Prefixed b n.0, n.1)) (v, rest) (rw t at g) in
        let f = unsigned_found 32 bs n.0.0 n.0.1 are.1 n.1 in
        subst number_from (some_is (Prefixed b n.0.0, n.0.1) (v, rest) n.2) (b ∷ f.0, ap (λ (l : List ℕ). b ∷ l) f.1, ((f.0, refl, f.2), t))
    by_test false t g = subst number_from (some_is (Byte b, bs) (v, rest) (rw t at g)) (b ∷ [], refl, (refl, are.0, t))

code_again : (encoding : List ℕ) (v : OperatorCode) (rest : List ℕ) → IsCode encoding v → code_at (encoding ++ rest) ≡ Some (v, rest)
unfolding code_at
code_again encoding (Byte b) rest h = rw (h.0, h.2) refl
code_again encoding (Prefixed b n) rest h = rw (h.0.1, h.1, unsigned_again 32 h.0.0 n rest h.0.2) refl

pub reads_code : ReadsExactly IsCode code_at
reads_code = record { found = code_found; again = code_again }

-- ---- each operator is read

off : (b : Bool) → not b ≡ true → b ≡ false
off true e = absurd cc
off false e = refl

row_again : (features : Features) (row : ScalarRow) (bytes : List ℕ) → Contains scalar_rows row → coded_at All features row.code bytes ≡ Some (Scalar row, bytes)
unfolding shape_of row_of
row_again features row bytes c =
    let no_form : form_of row.code ≡ None = not_some (form_of row.code) (off (is_some (form_of row.code)) (listed (λ r. not (is_some (form_of (scalar_code r)))) scalar_rows row refl c)) in
    let found : first_of scalar_code scalar_rows row.code ≡ Some row = first_is scalar_code scalar_rows row refl c in
    rw (no_form, found) refl

load_again : (row : AccessRow) → Contains load_rows row → shape_of (Byte row.code) ≡ Some (load_shape row)
unfolding shape_of row_of
load_again row c =
    let no_form : form_of (Byte row.code) ≡ None = not_some (form_of (Byte row.code)) (off (is_some (form_of (Byte row.code))) (listed (λ r. not (is_some (form_of (access_code r)))) load_rows row refl c)) in
    let no_row : first_of scalar_code scalar_rows (Byte row.code) ≡ None =
    not_some (first_of scalar_code scalar_rows (Byte row.code)) (off (is_some (first_of scalar_code scalar_rows (Byte row.code))) (listed (λ r. not (is_some (first_of scalar_code scalar_rows (access_code r)))) load_rows row refl c)) in
    let found : load_of (Byte row.code) ≡ Some row = first_is access_code load_rows row refl c in
    rw (no_form, no_row, found) refl

store_again : (row : AccessRow) → Contains store_rows row → shape_of (Byte row.code) ≡ Some (store_shape row)
unfolding shape_of row_of
store_again row c =
    let no_form : form_of (Byte row.code) ≡ None = not_some (form_of (Byte row.code)) (off (is_some (form_of (Byte row.code))) (listed (λ r. not (is_some (form_of (access_code r)))) store_rows row refl c)) in
    let no_row : first_of scalar_code scalar_rows (Byte row.code) ≡ None =
    not_some (first_of scalar_code scalar_rows (Byte row.code)) (off (is_some (first_of scalar_code scalar_rows (Byte row.code))) (listed (λ r. not (is_some (first_of scalar_code scalar_rows (access_code r)))) store_rows row refl c)) in
    let no_load : load_of (Byte row.code) ≡ None = not_some (load_of (Byte row.code)) (off (is_some (load_of (Byte row.code))) (listed (λ r. not (is_some (load_of (access_code r)))) store_rows row refl c)) in
    let found : store_of (Byte row.code) ≡ Some row = first_is access_code store_rows row refl c in
    rw (no_form, no_row, no_load, found) refl

again_by : {A : Type 0} (IsA : List ℕ → A → Type 0) (a_at : ReadingOf A) (f : A → Operator ℕ) → ReadsExactly IsA a_at → (others : List ℕ) (a : A) (rest : List ℕ) → IsA others a → seen_at f a_at (others ++ rest) ≡ Some (f a, rest)
again_by IsA a_at f law others a rest h = rw (law.again others a rest h) refl

immediates_again : (features : Features) (operator : Operator ℕ) (others rest : List ℕ) → AreImmediates features others operator → coded_at All features (code_of operator) (others ++ rest) ≡ Some (operator, rest)
unfolding shape_of row_of
immediates_again features Unreachable others rest h = rw h refl
immediates_again features Nop others rest h = rw h refl
immediates_again features (Block a) others rest h = again_by (IsBlockType features) (block_type_at All features) (λ a. Block a) (reads_block_type features) others a rest h
immediates_again features (Loop a) others rest h = again_by (IsBlockType features) (block_type_at All features) (λ a. Loop a) (reads_block_type features) others a rest h
immediates_again features (If a) others rest h = again_by (IsBlockType features) (block_type_at All features) (λ a. If a) (reads_block_type features) others a rest h
immediates_again features Else others rest h = rw h refl
immediates_again features End others rest h = rw h refl
immediates_again features (Br a) others rest h = again_by IsU32 (unsigned_at 32) (λ a. Br a) (reads_unsigned 32) others a rest h
immediates_again features (BrIf a) others rest h = again_by IsU32 (unsigned_at 32) (λ a. BrIf a) (reads_unsigned 32) others a rest h
immediates_again features (BrTable a b) others rest h = again_by (IsPair (IsList IsU32) IsU32) labels_at (λ x. BrTable x.0 x.1) reads_labels others (a, b) rest h
immediates_again features Return others rest h = rw h refl
immediates_again features (Call a) others rest h = again_by IsU32 (unsigned_at 32) (λ a. Call a) (reads_unsigned 32) others a rest h
immediates_again features (CallIndirect a b) others rest h = again_by (IsPair IsU32 (IsIndexWith (has features ReferenceTypes))) (pair_at (unsigned_at 32) (index_with_at (has features ReferenceTypes))) (λ x. CallIndirect x.0 x.1) (reads_table (has features ReferenceTypes)) others (a, b) rest h
immediates_again features (ReturnCall a) others rest h = again_by IsU32 (unsigned_at 32) (λ a. ReturnCall a) (reads_unsigned 32) others a rest h
immediates_again features (ReturnCallIndirect a b) others rest h = again_by (IsPair IsU32 IsU32) (pair_at (unsigned_at 32) (unsigned_at 32)) (λ x. ReturnCallIndirect x.0 x.1) reads_two others (a, b) rest h
immediates_again features (CallRef a) others rest h = again_by IsU32 (unsigned_at 32) (λ a. CallRef a) (reads_unsigned 32) others a rest h
immediates_again features (ReturnCallRef a) others rest h = again_by IsU32 (unsigned_at 32) (λ a. ReturnCallRef a) (reads_unsigned 32) others a rest h
immediates_again features (BrOnNull a) others rest h = again_by IsU32 (unsigned_at 32) (λ a. BrOnNull a) (reads_unsigned 32) others a rest h
immediates_again features (BrOnNonNull a) others rest h = again_by IsU32 (unsigned_at 32) (λ a. BrOnNonNull a) (reads_unsigned 32) others a rest h
immediates_again features Drop others rest h = rw h refl
immediates_again features Select others rest h = rw h refl
immediates_again features (SelectTyped a) others rest h = again_by (IsList IsValType) (types_at All) (λ a. SelectTyped a) reads_types others a rest h
immediates_again features (LocalGet a) others rest h = again_by IsU32 (unsigned_at 32) (λ a. LocalGet a) (reads_unsigned 32) others a rest h
immediates_again features (LocalSet a) others rest h = again_by IsU32 (unsigned_at 32) (λ a. LocalSet a) (reads_unsigned 32) others a rest h
immediates_again features (LocalTee a) others rest h = again_by IsU32 (unsigned_at 32) (λ a. LocalTee a) (reads_unsigned 32) others a rest h
immediates_again features (GlobalGet a) others rest h = again_by IsU32 (unsigned_at 32) (λ a. GlobalGet a) (reads_unsigned 32) others a rest h
immediates_again features (GlobalSet a) others rest h = again_by IsU32 (unsigned_at 32) (λ a. GlobalSet a) (reads_unsigned 32) others a rest h
immediates_again features (I32Const a) others rest h = again_by (IsSigned 32) (signed_at 32) (λ a. I32Const a) (reads_signed 32) others a rest h
immediates_again features (I64Const a) others rest h = again_by (IsSigned 64) (signed_at 64) (λ a. I64Const a) (reads_signed 64) others a rest h
immediates_again features (F32Const a) others rest h = again_by (IsFloatBits 4) (float_at 4) (λ a. F32Const a) (reads_float 4) others a rest h
immediates_again features (F64Const a) others rest h = again_by (IsFloatBits 8) (float_at 8) (λ a. F64Const a) (reads_float 8) others a rest h
immediates_again features (V128Const a) others rest h = again_by (IsBytesOf 16) (bytes_at 16) (λ a. V128Const a) (reads_bytes 16) others a rest h
immediates_again features (MemorySize a) others rest h = again_by (IsIndexWith (has features MultiMemory)) (index_with_at (has features MultiMemory)) (λ a. MemorySize a) (reads_index_with (has features MultiMemory)) others a rest h
immediates_again features (MemoryGrow a) others rest h = again_by (IsIndexWith (has features MultiMemory)) (index_with_at (has features MultiMemory)) (λ a. MemoryGrow a) (reads_index_with (has features MultiMemory)) others a rest h
immediates_again features (MemoryFill a) others rest h = again_by IsU32 (unsigned_at 32) (λ a. MemoryFill a) (reads_unsigned 32) others a rest h
immediates_again features (MemoryCopy a b) others rest h = again_by (IsPair IsU32 IsU32) (pair_at (unsigned_at 32) (unsigned_at 32)) (λ x. MemoryCopy x.0 x.1) reads_two others (a, b) rest h
immediates_again features (MemoryInit a b) others rest h = again_by (IsPair IsU32 IsU32) (pair_at (unsigned_at 32) (unsigned_at 32)) (λ x. MemoryInit x.0 x.1) reads_two others (a, b) rest h
immediates_again features (DataDrop a) others rest h = again_by IsU32 (unsigned_at 32) (λ a. DataDrop a) (reads_unsigned 32) others a rest h
immediates_again features (TableGet a) others rest h = again_by IsU32 (unsigned_at 32) (λ a. TableGet a) (reads_unsigned 32) others a rest h
immediates_again features (TableSet a) others rest h = again_by IsU32 (unsigned_at 32) (λ a. TableSet a) (reads_unsigned 32) others a rest h
immediates_again features (TableSize a) others rest h = again_by IsU32 (unsigned_at 32) (λ a. TableSize a) (reads_unsigned 32) others a rest h
immediates_again features (TableGrow a) others rest h = again_by IsU32 (unsigned_at 32) (λ a. TableGrow a) (reads_unsigned 32) others a rest h
immediates_again features (TableFill a) others rest h = again_by IsU32 (unsigned_at 32) (λ a. TableFill a) (reads_unsigned 32) others a rest h
immediates_again features (TableCopy a b) others rest h = again_by (IsPair IsU32 IsU32) (pair_at (unsigned_at 32) (unsigned_at 32)) (λ x. TableCopy x.0 x.1) reads_two others (a, b) rest h
immediates_again features (TableInit a b) others rest h = again_by (IsPair IsU32 IsU32) (pair_at (unsigned_at 32) (unsigned_at 32)) (λ x. TableInit x.0 x.1) reads_two others (a, b) rest h
immediates_again features (ElemDrop a) others rest h = again_by IsU32 (unsigned_at 32) (λ a. ElemDrop a) (reads_unsigned 32) others a rest h
immediates_again features (RefNull a) others rest h = again_by IsHeapType heap_type_at (λ a. RefNull a) reads_heap_type others a rest h
immediates_again features RefIsNull others rest h = rw h refl
immediates_again features (RefFunc a) others rest h = again_by IsU32 (unsigned_at 32) (λ a. RefFunc a) (reads_unsigned 32) others a rest h
immediates_again features RefEq others rest h = rw h refl
immediates_again features RefAsNonNull others rest h = rw h refl
immediates_again features (StructNew a) others rest h = again_by IsU32 (unsigned_at 32) (λ a. StructNew a) (reads_unsigned 32) others a rest h
immediates_again features (StructNewDefault a) others rest h = again_by IsU32 (unsigned_at 32) (λ a. StructNewDefault a) (reads_unsigned 32) others a rest h
immediates_again features (ArrayNew a) others rest h = again_by IsU32 (unsigned_at 32) (λ a. ArrayNew a) (reads_unsigned 32) others a rest h
immediates_again features (ArrayNewDefault a) others rest h = again_by IsU32 (unsigned_at 32) (λ a. ArrayNewDefault a) (reads_unsigned 32) others a rest h
immediates_again features (ArrayNewFixed a b) others rest h = again_by (IsPair IsU32 IsU32) (pair_at (unsigned_at 32) (unsigned_at 32)) (λ x. ArrayNewFixed x.0 x.1) reads_two others (a, b) rest h
immediates_again features RefI31 others rest h = rw h refl
immediates_again features AnyConvertExtern others rest h = rw h refl
immediates_again features ExternConvertAny others rest h = rw h refl
immediates_again features (Scalar row) others rest h = ap (λ (l : List ℕ). coded_at All features row.code (l ++ rest)) h.0 ∙ row_again features row rest h.1
immediates_again features (Load row argument) others rest h =
    ap (λ shape. shaped_at All features shape (others ++ rest)) (load_again row h.1) ∙ again_by (IsMemoryArgument features) (memory_argument_at features) (λ a. Load row a) (reads_memory_argument features) others argument rest h.0
immediates_again features (Store row argument) others rest h =
    ap (λ shape. shaped_at All features shape (others ++ rest)) (store_again row h.1) ∙ again_by (IsMemoryArgument features) (memory_argument_at features) (λ a. Store row a) (reads_memory_argument features) others argument rest h.0

-- ---- operators

operator_found : (features : Features) → Finds (IsOperator features) (operator_at features)
unfolding kept_operator_at
operator_found features bytes v rest are e =
    let c = bind_some (code_at bytes) (λ code. coded_at All features code.0 code.1) (v, rest) e in
    let f = code_found bytes c.0.0 c.0.1 are c.1 in
    let x = coded_found features c.0.0 c.0.1 v rest (rest_bytes bytes f.0 c.0.1 are f.1) c.2 in
    (f.0 ++ x.0, joined bytes f.0 c.0.1 x.0 rest f.1 x.1, (f.0, x.0, refl, subst (λ code. IsCode f.0 code) (sym x.2.0) f.2, x.2.1))

operator_again : (features : Features) (encoding : List ℕ) (v : Operator ℕ) (rest : List ℕ) → IsOperator features encoding v → operator_at features (encoding ++ rest) ≡ Some (v, rest)
unfolding kept_operator_at
operator_again features encoding v rest h =
    let split : encoding ++ rest ≡ h.0 ++ (h.1 ++ rest) = rw h.2 (append_assoc h.0 h.1 rest) in
    ap (operator_at features) split ∙ rw (code_again h.0 (code_of v) (h.1 ++ rest) h.3) (immediates_again features v h.1 rest h.4)

pub reads_operator : (features : Features) → ReadsExactly (IsOperator features) (operator_at features)
reads_operator features = record { found = operator_found features; again = operator_again features }
