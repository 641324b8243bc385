-- Entries of sections are read as their forms say.
use Rattle.std.proofs.Common.{◌≡◌, ℕ, Bool, true, false, List, [], ◌∷◌, ◌++◌, Option, Some, None, refl, sym, ap, ◌∙◌, append_assoc, arith, inl, inr}
use Rattle.std.specs.Str.{is_utf8, chars}
use Rattle.std.proofs.lemmas.Bool.Decides.{eqb_tells}
use Rattle.wasm_spec.specs.Bytes.{AreBytes, IsU32, IsPair, IsMarked, IsNumbered, IsList, IsName}
use Rattle.wasm_spec.specs.ConstantGrammar.{IsConstantExpression}
use Rattle.wasm_spec.specs.Constants.{ConstantExpression}
use Rattle.wasm_spec.specs.ModuleParts.{IsImportItem, IsImport, IsExport, IsTableWith, IsTable, IsGlobal, IsFunctionItems, IsKindAndItems, IsExpressionItems, IsElementOf, IsElementSegment, IsContents, IsDataOf, IsDataSegment}
use Rattle.wasm_spec.specs.Syntax.{ImportEntry, Import, CompactItems, CompactNames, Table, ElementMode, ActiveElement, PassiveElement, DeclaredElement, ElementItems, FunctionItems, ExpressionItems, ElementSegment, DataMode, ActiveData, PassiveData, DataSegment}
use Rattle.wasm_spec.specs.TypeGrammar.{IsRefType, IsTableType, IsGlobalType, IsExternalKind, IsExternalType}
use Rattle.wasm_spec.specs.Types.{ExternalType, TableType, RefType, funcref}
use Rattle.wasm_core_read.specs.ConstantReading.{expression_at}
use Rattle.wasm_core_read.specs.Laws.{ReadsExactly}
use Rattle.wasm_core_read.specs.PartReading.{body_at, import_item_at, single_at, group_from, imported_at, import_at, export_at, bare_table_from, with_initialiser, table_at, global_at, functions_at, kind_and_items_at, element_from, element_at, data_from, data_at}
use Rattle.wasm_core_read.specs.Reading.{ReadingOf, unsigned_at, name_at, seen_at, pair_at, announced_at, numbered_at, after_code, no_code}
use Rattle.wasm_core_read.specs.TypeReading.{list_at, ref_type_at, table_type_from, table_type_at, global_type_at, external_kind_at, external_type_at}
use Rattle.wasm_core_read.proofs.ConstantForms.{reads_expression}
use Rattle.wasm_core_read.proofs.ExternalForms.{reads_table_type, table_from_found, reads_global_type, reads_external_kind, reads_external_type}
use Rattle.wasm_core_read.proofs.Forms.{bind_some, joined, rest_bytes, Found, reads_unsigned, unsigned_again, reads_name, reads_body}
use Rattle.wasm_core_read.proofs.ListForms.{reads_list}
use Rattle.wasm_core_read.proofs.Names.{utf8_from}
use Rattle.wasm_core_read.proofs.TypeForms.{reads_ref_type}
use Rattle.wasm_core_read.proofs.WayForms.{Finds, FindsAfter, Announced, Numbered, seen, reads_seen, reads_pair, none, coded, announced, numbered, past_code, announced_seen, reads_marked}

-- ---- imports

reads_import_item : ReadsExactly IsImportItem import_item_at
unfolding import_item_at
reads_import_item =
    reads_seen (IsPair IsName IsExternalType) (pair_at name_at external_type_at) (λ x. record { name = x.0; type = x.1 }) (λ item. (item.name, item.type)) (λ x. refl) (λ item. refl)
    (reads_pair IsName name_at IsExternalType external_type_at reads_name reads_external_type)

reads_items : ReadsExactly (IsList IsImportItem) (list_at import_item_at)
reads_items = reads_list IsImportItem import_item_at reads_import_item

abbrev IsNamed : List ℕ → List ℕ × ExternalType ℕ → Type 0
IsNamed bytes x = IsPair IsName IsExternalType bytes x

reads_named : ReadsExactly IsNamed (pair_at name_at external_type_at)
reads_named = reads_pair IsName name_at IsExternalType external_type_at reads_name reads_external_type

abbrev IsTyped : List ℕ → ExternalType ℕ × List (List ℕ) → Type 0
IsTyped bytes x = IsPair IsExternalType (IsList IsName) bytes x

reads_typed : ReadsExactly IsTyped (pair_at external_type_at (list_at name_at))
reads_typed = reads_pair IsExternalType external_type_at (IsList IsName) (list_at name_at) reads_external_type (reads_list IsName name_at reads_name)

-- what stands after the module's name
abbrev IsImported : Bool → List ℕ → List ℕ → ImportEntry → Type 0
IsImported compact origin bytes v = (named : List ℕ) → IsName named origin → IsImport compact (named ++ bytes) v

single_found : (compact : Bool) (origin : List ℕ) → Finds (IsImported compact origin) (single_at origin)
single_found compact origin =
    seen (IsImported compact origin) IsNamed (pair_at name_at external_type_at) (λ x. Import origin x.0 x.1) reads_named.found (λ bytes x h named n. (named, bytes, refl, n, h))

items_found : (origin : List ℕ) → Finds (λ bytes v. IsImported true origin (0x00 ∷ 0x7f ∷ bytes) v) (seen_at (λ items. CompactItems origin items) (list_at import_item_at))
items_found origin =
    seen (λ bytes v. IsImported true origin (0x00 ∷ 0x7f ∷ bytes) v) (IsList IsImportItem) (list_at import_item_at) (λ items. CompactItems origin items) reads_items.found
    (λ bytes items h named n. (refl, (named, 0x00 ∷ 0x7f ∷ bytes, refl, n, (0x7f ∷ bytes, refl, (bytes, refl, h)))))

names_found : (origin : List ℕ) → Finds (λ bytes v. IsImported true origin (0x00 ∷ 0x7e ∷ bytes) v) (seen_at (λ x. CompactNames origin x.0 x.1) (pair_at external_type_at (list_at name_at)))
names_found origin =
    seen (λ bytes v. IsImported true origin (0x00 ∷ 0x7e ∷ bytes) v) IsTyped (pair_at external_type_at (list_at name_at)) (λ x. CompactNames origin x.0 x.1) reads_typed.found
    (λ bytes x h named n. (refl, (named, 0x00 ∷ 0x7e ∷ bytes, refl, n, (0x7e ∷ bytes, refl, (bytes, refl, h)))))

-- an encoding after two bytes that are these
two_bytes : (IsA : List ℕ → ImportEntry → Type 0) (a b : ℕ) (z c : ℕ) (bs : List ℕ) (v : ImportEntry) (rest : List ℕ) → z ≡ a → c ≡ b → Found (λ bytes w. IsA (a ∷ b ∷ bytes) w) bs v rest → Found IsA (z ∷ c ∷ bs) v rest
two_bytes IsA a b z c bs v rest first second f =
    rw (first, second) (a ∷ b ∷ f.0, ap (λ (l : List ℕ). a ∷ b ∷ l) f.1, f.2)

group_found : (origin : List ℕ) (z c : ℕ) (bs : List ℕ) (v : ImportEntry) (rest : List ℕ) → AreBytes (z ∷ c ∷ bs) → group_from origin z c bs ≡ Some (v, rest) → Found (IsImported true origin) (z ∷ c ∷ bs) v rest
group_found origin z c bs v rest are e =
    elim (eqb_tells z 0x00) [
      | inl (t, zeroth) ↦ elim (eqb_tells c 0x7f) [
        | inl (u, same) ↦ two_bytes (IsImported true origin) 0x00 0x7f z c bs v rest zeroth same (items_found origin bs v rest are.1.1 (rw (t, u) at e))
        | inr (u, other) ↦ elim (eqb_tells c 0x7e) [
          | inl (w, same) ↦ two_bytes (IsImported true origin) 0x00 0x7e z c bs v rest zeroth same (names_found origin bs v rest are.1.1 (rw (t, u, w) at e))
          | inr (w, another) ↦ single_found true origin (z ∷ c ∷ bs) v rest are (rw (t, u, w) at e)
        ]
      ]
      | inr (t, other) ↦ single_found true origin (z ∷ c ∷ bs) v rest are (rw t at e)
    ]

imported_found : (compact : Bool) (origin : List ℕ) → Finds (IsImported compact origin) (imported_at compact origin)
imported_found false origin bytes v rest are e = single_found false origin bytes v rest are e
imported_found true origin [] v rest are e = single_found true origin [] v rest are e
imported_found true origin (z ∷ []) v rest are e = single_found true origin (z ∷ []) v rest are e
imported_found true origin (z ∷ c ∷ bs) v rest are e = group_found origin z c bs v rest are e

import_found : (compact : Bool) → Finds (IsImport compact) (import_at compact)
unfolding import_at
import_found compact bytes v rest are e =
    let n = bind_some (name_at bytes) (λ origin. imported_at compact origin.0 origin.1) (v, rest) e in
    let named = reads_name.found bytes n.0.0 n.0.1 are n.1 in
    let f = imported_found compact n.0.0 n.0.1 v rest (rest_bytes bytes named.0 n.0.1 are named.1) n.2 in
    (named.0 ++ f.0, joined bytes named.0 n.0.1 f.0 rest named.1 f.1, f.2 named.0 named.2)

empty_name : (rest : List ℕ) → name_at (0x00 ∷ rest) ≡ Some ([], rest)
unfolding is_utf8 chars lib.Utf8.encode
empty_name rest = reads_name.again (0x00 ∷ []) [] rest ((0x00 ∷ [], [], refl, (omega arith, omega arith, refl), (tt, refl)), utf8_from [] refl)

-- after an empty name no kind is one of the codes of compact groups
no_items : (bs : List ℕ) → pair_at name_at external_type_at (0x00 ∷ 0x7f ∷ bs) ≡ None
unfolding external_type_at
no_items bs = rw (empty_name (0x7f ∷ bs)) refl

no_names : (bs : List ℕ) → pair_at name_at external_type_at (0x00 ∷ 0x7e ∷ bs) ≡ None
unfolding external_type_at
no_names bs = rw (empty_name (0x7e ∷ bs)) refl

single_again : (compact : Bool) (origin bytes : List ℕ) (x : List ℕ × ExternalType ℕ) (rest : List ℕ) → pair_at name_at external_type_at bytes ≡ Some (x, rest) → imported_at compact origin bytes ≡ Some (Import origin x.0 x.1, rest)
single_again false origin bytes x rest e = rw e refl
single_again true origin [] x rest e = rw e refl
single_again true origin (z ∷ []) x rest e = rw e refl
single_again true origin (z ∷ c ∷ bs) x rest e =
    elim (eqb_tells z 0x00) [
      | inl (t, zeroth) ↦ elim (eqb_tells c 0x7f) [
        | inl (u, same) ↦ let unread : pair_at name_at external_type_at (z ∷ c ∷ bs) ≡ None = rw (zeroth, same) (no_items bs) in let no = sym unread ∙ e in absurd cc
        | inr (u, other) ↦ elim (eqb_tells c 0x7e) [
          | inl (w, same) ↦ let unread : pair_at name_at external_type_at (z ∷ c ∷ bs) ≡ None = rw (zeroth, same) (no_names bs) in let no = sym unread ∙ e in absurd cc
          | inr (w, another) ↦ rw (t, u, w, e) refl
        ]
      ]
      | inr (t, other) ↦ rw (t, e) refl
    ]

-- after the module's name
origin_again : (compact : Bool) (bytes named others origin : List ℕ) (v : ImportEntry) (rest : List ℕ) → bytes ≡ named ++ others → IsName named origin → imported_at compact origin (others ++ rest) ≡ Some (v, rest) → import_at compact (bytes ++ rest) ≡ Some (v, rest)
unfolding import_at
origin_again compact bytes named others origin v rest e n read =
    let split : bytes ++ rest ≡ named ++ (others ++ rest) = rw e (append_assoc named others rest) in
    ap (import_at compact) split ∙ rw (reads_name.again named origin (others ++ rest) n) read

import_again : (compact : Bool) (bytes : List ℕ) (v : ImportEntry) (rest : List ℕ) → IsImport compact bytes v → import_at compact (bytes ++ rest) ≡ Some (v, rest)
import_again compact bytes (Import origin name type) rest h =
    origin_again compact bytes h.0 h.1 origin (Import origin name type) rest h.2 h.3 (single_again compact origin (h.1 ++ rest) (name, type) rest (reads_named.again h.1 (name, type) rest h.4))
import_again compact bytes (CompactItems origin items) rest h =
    let p = h.1 in
    let two : p.1 ++ rest ≡ 0x00 ∷ 0x7f ∷ (p.4.2.0 ++ rest) = rw (p.4.1, p.4.2.1) refl in
    origin_again compact bytes p.0 p.1 origin (CompactItems origin items) rest p.2 p.3 (rw (h.0, two, reads_items.again p.4.2.0 items rest p.4.2.2) refl)
import_again compact bytes (CompactNames origin type names) rest h =
    let p = h.1 in
    let two : p.1 ++ rest ≡ 0x00 ∷ 0x7e ∷ (p.4.2.0 ++ rest) = rw (p.4.1, p.4.2.1) refl in
    origin_again compact bytes p.0 p.1 origin (CompactNames origin type names) rest p.2 p.3 (rw (h.0, two, reads_typed.again p.4.2.0 (type, names) rest p.4.2.2) refl)

pub reads_import : (compact : Bool) → ReadsExactly (IsImport compact) (import_at compact)
reads_import compact = record { found = import_found compact; again = import_again compact }

-- ---- exports, tables and globals

pub reads_export : ReadsExactly IsExport export_at
unfolding export_at
reads_export =
    reads_seen (IsPair IsName (IsPair IsExternalKind IsU32)) (pair_at name_at (pair_at external_kind_at (unsigned_at 32))) (λ x. record { name = x.0; kind = x.1.0; index = x.1.1 }) (λ export. (export.name, (export.kind, export.index))) (λ x. refl) (λ export. refl)
    (reads_pair IsName name_at (IsPair IsExternalKind IsU32) (pair_at external_kind_at (unsigned_at 32)) reads_name (reads_pair IsExternalKind external_kind_at IsU32 (unsigned_at 32) reads_external_kind (reads_unsigned 32)))

abbrev IsInitialised : List ℕ → TableType ℕ × ConstantExpression → Type 0
IsInitialised bytes x = IsMarked 0x00 (IsPair IsTableType IsConstantExpression) bytes x

abbrev initialised_at : ReadingOf (TableType ℕ × ConstantExpression)
initialised_at = announced_at (after_code 0x00 (pair_at table_type_at expression_at) no_code)

reads_initialised : ReadsExactly IsInitialised initialised_at
reads_initialised = reads_marked 0x00 (IsPair IsTableType IsConstantExpression) (pair_at table_type_at expression_at) (reads_pair IsTableType table_type_at IsConstantExpression expression_at reads_table_type reads_expression)

abbrev with_at : ReadingOf Table
with_at = announced_at (after_code 0x00 (seen_at with_initialiser (pair_at table_type_at expression_at)) no_code)

with_is : (bytes : List ℕ) → with_at bytes ≡ seen_at with_initialiser initialised_at bytes
with_is [] = refl
with_is (b ∷ bs) = elim (eqb_tells b 0x00) [
  | inl (t, same) ↦ rw t refl
  | inr (t, other) ↦ rw t refl
]

table_found : FindsAfter (Announced IsTable) (after_code 0x40 with_at bare_table_from)
table_found =
    coded (Announced IsTable) 0x40 with_at bare_table_from
    (λ bytes v rest are e. seen (Announced IsTable 0x40) IsInitialised initialised_at with_initialiser reads_initialised.found (λ encoding x h. (encoding, refl, h)) bytes v rest are (sym (with_is bytes) ∙ e))
    (λ code. seen (Announced IsTable code) (Announced IsTableType code) (table_type_from code) (λ type. record { type = type; initialiser = None }) (table_from_found code) (λ encoding type h. h))

table_again : (encoding : List ℕ) (type : TableType ℕ) (initialiser : Option ConstantExpression) (rest : List ℕ) → IsTableWith initialiser encoding type → table_at (encoding ++ rest) ≡ Some (record { type = type; initialiser = initialiser }, rest)
unfolding table_at table_type_at
table_again encoding type None rest h =
    past_code 0x40 with_at bare_table_from (λ bytes. refl) (encoding ++ rest) (record { type = type; initialiser = None }, rest)
    (announced_seen (λ t. record { type = t; initialiser = None }) table_type_from (encoding ++ rest) type rest (reads_table_type.again encoding type rest h))
table_again encoding type (Some initialiser) rest h = rw (h.1, with_is (h.0 ++ rest), reads_initialised.again h.0 (type, initialiser) rest h.2) refl

pub reads_table : ReadsExactly IsTable table_at
unfolding table_at
reads_table = record { found = announced IsTable _ table_found; again = λ bytes v rest h. table_again bytes v.type v.initialiser rest h }

pub reads_global : ReadsExactly IsGlobal global_at
unfolding global_at
reads_global =
    reads_seen (IsPair IsGlobalType IsConstantExpression) (pair_at global_type_at expression_at) (λ x. record { type = x.0; initialiser = x.1 }) (λ global. (global.type, global.initialiser)) (λ x. refl) (λ global. refl)
    (reads_pair IsGlobalType global_type_at IsConstantExpression expression_at reads_global_type reads_expression)

-- ---- segments

reads_functions : ReadsExactly IsFunctionItems functions_at
reads_functions = reads_list IsU32 (unsigned_at 32) (reads_unsigned 32)

reads_kind_and_items : ReadsExactly IsKindAndItems kind_and_items_at
reads_kind_and_items = reads_marked 0x00 IsFunctionItems functions_at reads_functions

reads_expressions : ReadsExactly IsExpressionItems (list_at expression_at)
reads_expressions = reads_list IsConstantExpression expression_at reads_expression

abbrev IsActive : {A : Type 0} → (List ℕ → A → Type 0) → List ℕ → ConstantExpression × A → Type 0
IsActive IsA bytes x = IsPair IsConstantExpression IsA bytes x

reads_active : {A : Type 0} (IsA : List ℕ → A → Type 0) (a_at : ReadingOf A) → ReadsExactly IsA a_at → ReadsExactly (IsActive IsA) (pair_at expression_at a_at)
reads_active IsA a_at law = reads_pair IsConstantExpression expression_at IsA a_at reads_expression law

abbrev IsIn : {A : Type 0} → (List ℕ → A → Type 0) → List ℕ → ℕ × (ConstantExpression × A) → Type 0
IsIn IsA bytes x = IsPair IsU32 (IsPair IsConstantExpression IsA) bytes x

reads_in : {A : Type 0} (IsA : List ℕ → A → Type 0) (a_at : ReadingOf A) → ReadsExactly IsA a_at → ReadsExactly (IsIn IsA) (pair_at (unsigned_at 32) (pair_at expression_at a_at))
reads_in IsA a_at law = reads_pair IsU32 (unsigned_at 32) (IsPair IsConstantExpression IsA) (pair_at expression_at a_at) (reads_unsigned 32) (reads_active IsA a_at law)

abbrev IsTypedItems : List ℕ → RefType ℕ × List ConstantExpression → Type 0
IsTypedItems bytes x = IsPair IsRefType IsExpressionItems bytes x

reads_typed_items : ReadsExactly IsTypedItems (pair_at ref_type_at (list_at expression_at))
reads_typed_items = reads_pair IsRefType ref_type_at IsExpressionItems (list_at expression_at) reads_ref_type reads_expressions

abbrev IsElement : ℕ → List ℕ → ElementSegment → Type 0
IsElement code bytes v = Numbered IsElementSegment code bytes v

element_found : FindsAfter IsElement element_from
element_found =
    coded IsElement 0 _ _
    (seen (IsElement 0) (IsActive IsFunctionItems) (pair_at expression_at functions_at) (λ x. record { mode = ActiveElement None x.0; items = FunctionItems x.1 }) (reads_active IsFunctionItems functions_at reads_functions).found
    (λ bytes x h number n. (number, bytes, refl, n, h)))
    (coded IsElement 1 _ _
    (seen (IsElement 1) IsKindAndItems kind_and_items_at (λ functions. record { mode = PassiveElement; items = FunctionItems functions }) reads_kind_and_items.found (λ bytes x h number n. (number, bytes, refl, n, h)))
    (coded IsElement 2 _ _
    (seen (IsElement 2) (IsIn IsKindAndItems) (pair_at (unsigned_at 32) (pair_at expression_at kind_and_items_at)) (λ x. record { mode = ActiveElement (Some x.0) x.1.0; items = FunctionItems x.1.1 })
    (reads_in IsKindAndItems kind_and_items_at reads_kind_and_items).found (λ bytes x h number n. (number, bytes, refl, n, h)))
    (coded IsElement 3 _ _
    (seen (IsElement 3) IsKindAndItems kind_and_items_at (λ functions. record { mode = DeclaredElement; items = FunctionItems functions }) reads_kind_and_items.found (λ bytes x h number n. (number, bytes, refl, n, h)))
    (coded IsElement 4 _ _
    (seen (IsElement 4) (IsActive IsExpressionItems) (pair_at expression_at (list_at expression_at)) (λ x. record { mode = ActiveElement None x.0; items = ExpressionItems funcref x.1 })
    (reads_active IsExpressionItems (list_at expression_at) reads_expressions).found (λ bytes x h number n. (refl, (number, bytes, refl, n, h))))
    (coded IsElement 5 _ _
    (seen (IsElement 5) IsTypedItems (pair_at ref_type_at (list_at expression_at)) (λ x. record { mode = PassiveElement; items = ExpressionItems x.0 x.1 }) reads_typed_items.found (λ bytes x h number n. (number, bytes, refl, n, h)))
    (coded IsElement 6 _ _
    (seen (IsElement 6) (IsIn IsTypedItems) (pair_at (unsigned_at 32) (pair_at expression_at (pair_at ref_type_at (list_at expression_at)))) (λ x. record { mode = ActiveElement (Some x.0) x.1.0; items = ExpressionItems x.1.1.0 x.1.1.1 })
    (reads_in IsTypedItems (pair_at ref_type_at (list_at expression_at)) reads_typed_items).found (λ bytes x h number n. (number, bytes, refl, n, h)))
    (coded IsElement 7 _ no_code
    (seen (IsElement 7) IsTypedItems (pair_at ref_type_at (list_at expression_at)) (λ x. record { mode = DeclaredElement; items = ExpressionItems x.0 x.1 }) reads_typed_items.found (λ bytes x h number n. (number, bytes, refl, n, h)))
    (none IsElement))))))))

-- after the number of a form
numbered_again : {A B : Type 0} (IsB : List ℕ → B → Type 0) (b_at : ReadingOf B) (form : ℕ → ReadingOf A) (view : B → A) (code : ℕ) (encoding : List ℕ) (x : B) (rest : List ℕ) → ReadsExactly IsB b_at
    → ((bytes : List ℕ) → form code bytes ≡ seen_at view b_at bytes) → IsNumbered code IsB encoding x → numbered_at form (encoding ++ rest) ≡ Some (view x, rest)
numbered_again IsB b_at form view code encoding x rest law is h =
    let split : encoding ++ rest ≡ h.0 ++ (h.1 ++ rest) = rw h.2 (append_assoc h.0 h.1 rest) in
    ap (numbered_at form) split ∙ rw (unsigned_again 32 h.0 code (h.1 ++ rest) h.3, is (h.1 ++ rest), law.again h.1 x rest h.4) refl

element_again : (encoding : List ℕ) (mode : ElementMode) (items : ElementItems) (rest : List ℕ) → IsElementOf mode encoding items → element_at (encoding ++ rest) ≡ Some (record { mode = mode; items = items }, rest)
unfolding element_at
element_again encoding (ActiveElement None offset) (FunctionItems functions) rest h =
    numbered_again (IsActive IsFunctionItems) (pair_at expression_at functions_at) element_from (λ x. record { mode = ActiveElement None x.0; items = FunctionItems x.1 }) 0 encoding (offset, functions) rest (reads_active IsFunctionItems functions_at reads_functions) (λ bytes. refl) h
element_again encoding PassiveElement (FunctionItems functions) rest h =
    numbered_again IsKindAndItems kind_and_items_at element_from (λ x. record { mode = PassiveElement; items = FunctionItems x }) 1 encoding functions rest reads_kind_and_items (λ bytes. refl) h
element_again encoding (ActiveElement (Some table) offset) (FunctionItems functions) rest h =
    numbered_again (IsIn IsKindAndItems) (pair_at (unsigned_at 32) (pair_at expression_at kind_and_items_at)) element_from (λ x. record { mode = ActiveElement (Some x.0) x.1.0; items = FunctionItems x.1.1 }) 2 encoding (table, (offset, functions)) rest
    (reads_in IsKindAndItems kind_and_items_at reads_kind_and_items) (λ bytes. refl) h
element_again encoding DeclaredElement (FunctionItems functions) rest h =
    numbered_again IsKindAndItems kind_and_items_at element_from (λ x. record { mode = DeclaredElement; items = FunctionItems x }) 3 encoding functions rest reads_kind_and_items (λ bytes. refl) h
element_again encoding (ActiveElement None offset) (ExpressionItems type expressions) rest h =
    rw h.0 (numbered_again (IsActive IsExpressionItems) (pair_at expression_at (list_at expression_at)) element_from (λ x. record { mode = ActiveElement None x.0; items = ExpressionItems funcref x.1 }) 4 encoding (offset, expressions) rest
    (reads_active IsExpressionItems (list_at expression_at) reads_expressions) (λ bytes. refl) h.1)
element_again encoding PassiveElement (ExpressionItems type expressions) rest h =
    numbered_again IsTypedItems (pair_at ref_type_at (list_at expression_at)) element_from (λ x. record { mode = PassiveElement; items = ExpressionItems x.0 x.1 }) 5 encoding (type, expressions) rest reads_typed_items (λ bytes. refl) h
element_again encoding (ActiveElement (Some table) offset) (ExpressionItems type expressions) rest h =
    numbered_again (IsIn IsTypedItems) (pair_at (unsigned_at 32) (pair_at expression_at (pair_at ref_type_at (list_at expression_at)))) element_from (λ x. record { mode = ActiveElement (Some x.0) x.1.0; items = ExpressionItems x.1.1.0 x.1.1.1 }) 6 encoding
    (table, (offset, (type, expressions))) rest (reads_in IsTypedItems (pair_at ref_type_at (list_at expression_at)) reads_typed_items) (λ bytes. refl) h
element_again encoding DeclaredElement (ExpressionItems type expressions) rest h =
    numbered_again IsTypedItems (pair_at ref_type_at (list_at expression_at)) element_from (λ x. record { mode = DeclaredElement; items = ExpressionItems x.0 x.1 }) 7 encoding (type, expressions) rest reads_typed_items (λ bytes. refl) h

pub reads_element : ReadsExactly IsElementSegment element_at
unfolding element_at
reads_element = record { found = numbered IsElementSegment element_from element_found; again = λ bytes v rest h. element_again bytes v.mode v.items rest h }

abbrev IsData : ℕ → List ℕ → DataSegment → Type 0
IsData code bytes v = Numbered IsDataSegment code bytes v

data_found : FindsAfter IsData data_from
data_found =
    coded IsData 0 _ _
    (seen (IsData 0) (IsActive IsContents) (pair_at expression_at body_at) (λ x. record { mode = ActiveData None x.0; contents = x.1 }) (reads_active IsContents body_at reads_body).found (λ bytes x h number n. (number, bytes, refl, n, h)))
    (coded IsData 1 _ _
    (seen (IsData 1) IsContents body_at (λ contents. record { mode = PassiveData; contents = contents }) reads_body.found (λ bytes x h number n. (number, bytes, refl, n, h)))
    (coded IsData 2 _ no_code
    (seen (IsData 2) (IsIn IsContents) (pair_at (unsigned_at 32) (pair_at expression_at body_at)) (λ x. record { mode = ActiveData (Some x.0) x.1.0; contents = x.1.1 }) (reads_in IsContents body_at reads_body).found (λ bytes x h number n. (number, bytes, refl, n, h)))
    (none IsData)))

data_again : (encoding : List ℕ) (mode : DataMode) (contents : List ℕ) (rest : List ℕ) → IsDataOf mode encoding contents → data_at (encoding ++ rest) ≡ Some (record { mode = mode; contents = contents }, rest)
unfolding data_at
data_again encoding (ActiveData None offset) contents rest h =
    numbered_again (IsActive IsContents) (pair_at expression_at body_at) data_from (λ x. record { mode = ActiveData None x.0; contents = x.1 }) 0 encoding (offset, contents) rest (reads_active IsContents body_at reads_body) (λ bytes. refl) h
data_again encoding PassiveData contents rest h =
    numbered_again IsContents body_at data_from (λ x. record { mode = PassiveData; contents = x }) 1 encoding contents rest reads_body (λ bytes. refl) h
data_again encoding (ActiveData (Some memory) offset) contents rest h =
    numbered_again (IsIn IsContents) (pair_at (unsigned_at 32) (pair_at expression_at body_at)) data_from (λ x. record { mode = ActiveData (Some x.0) x.1.0; contents = x.1.1 }) 2 encoding (memory, (offset, contents)) rest (reads_in IsContents body_at reads_body) (λ bytes. refl) h

pub reads_data : ReadsExactly IsDataSegment data_at
unfolding data_at
reads_data = record { found = numbered IsDataSegment data_from data_found; again = λ bytes v rest h. data_again bytes v.mode v.contents rest h }
