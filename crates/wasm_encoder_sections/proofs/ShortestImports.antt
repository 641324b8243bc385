-- What is written of names, exports and imports is their shortest encoding.
use Rattle.std.proofs.Common.{◌≡◌, ℕ, ◌^◌, ◌<◌, Bool, List, [], ◌∷◌, ◌++◌, length, refl, ap, arith, length-append}
use Rattle.std.specs.List.{AllByRecursion}
use Rattle.wasm_spec.specs.Bytes.{IsU32, IsPair, IsMarked, IsList, IsName, IsShortest}
use Rattle.wasm_spec.specs.ModuleParts.{IsImportItem, IsImport, IsExport}
use Rattle.wasm_spec.specs.Shortest.{unsigned_encoding, list_encoding, framed_encoding}
use Rattle.wasm_spec.specs.Syntax.{ImportItem, Import, CompactItems, CompactNames}
use Rattle.wasm_spec.specs.TypeGrammar.{kind_code, IsExternalKind, IsExternalType}
use Rattle.wasm_spec.specs.Types.{ExternalType, ExternalKind}
use Rattle.wasm_spec.proofs.NumberLaws.{unsigned_spelled, unsigned_shortest, shortest_unsigned}
use Rattle.wasm_spec.proofs.ShortestForms.{marked, pair, list, HasSome, WritesShortest}
use Rattle.wasm_spec.proofs.UnsignedEncodings.{some_bytes}
use Rattle.wasm_encoder_sections.specs.ItemEncodings.{name_encoding, export_encoding, external_type_encoding, import_item_encoding, import_encoding}
use Rattle.wasm_encoder_sections.specs.SmallItems.{IsNameText, IsSmallExternal, IsSmallExport, IsSmallItem, IsSmallImport}
use Rattle.wasm_encoder_sections.proofs.ShortestEntities.{external}

pub name : WritesShortest IsName name_encoding IsNameText
unfolding framed_encoding
name text small short =
    let both = length-append (unsigned_encoding (length text)) text in
    record {
      encodes = ((unsigned_encoding (length text), text, refl, unsigned_spelled 32 (length text) (omega (arith, short, both)), (small.0, refl)), small.1);
      shortest = λ other h.
          let framed = h.0 in let same = framed.4 in
          let size = unsigned_shortest 32 (length framed.1) framed.0 framed.3 in
          let long : length text ≡ length framed.1 = ap length same.1 in
          let first : length (unsigned_encoding (length text)) ≡ length (unsigned_encoding (length framed.1)) = ap (λ n. length (unsigned_encoding n)) long in
          omega (arith, both, ap length framed.2, length-append framed.0 framed.1, size, long, first);
    }

some_name : HasSome name_encoding
unfolding framed_encoding
some_name text = omega (arith, some_bytes (length text), length-append (unsigned_encoding (length text)) text)

kind : (type : ExternalKind) → IsShortest IsExternalKind (kind_code type ∷ []) type
kind type = record { encodes = refl; shortest = λ other h. omega (arith, ap length h) }

pub export : WritesShortest IsExport export_encoding IsSmallExport
unfolding export_encoding
export item small short =
    let both = length-append (name_encoding item.name) (kind_code item.kind ∷ unsigned_encoding item.index) in
    let others = pair IsExternalKind IsU32 (kind_code item.kind ∷ []) (unsigned_encoding item.index) item.kind item.index (kind item.kind) (shortest_unsigned 32 item.index small.1) in
    let s = pair IsName (IsPair IsExternalKind IsU32) (name_encoding item.name) (kind_code item.kind ∷ unsigned_encoding item.index) item.name (item.kind, item.index)
    (name item.name small.0 (omega (arith, short, both))) others in
    record { encodes = s.encodes; shortest = λ other h. s.shortest other h }

pub some_export : HasSome export_encoding
unfolding export_encoding
some_export item = omega (arith, some_name item.name, length-append (name_encoding item.name) (kind_code item.kind ∷ unsigned_encoding item.index))

item : WritesShortest IsImportItem import_item_encoding IsSmallItem
unfolding import_item_encoding
item it small short =
    let both = length-append (name_encoding it.name) (external_type_encoding it.type) in
    let s = pair IsName IsExternalType (name_encoding it.name) (external_type_encoding it.type) it.name it.type (name it.name small.0 (omega (arith, short, both))) (external it.type small.1) in
    record { encodes = s.encodes; shortest = λ other h. s.shortest other h }

some_item : HasSome import_item_encoding
unfolding import_item_encoding
some_item it = omega (arith, some_name it.name, length-append (name_encoding it.name) (external_type_encoding it.type))

-- what stands after the module's name
module _ (origin : List ℕ) (small : IsNameText origin) where
  one : (own : List ℕ) (type : ExternalType ℕ) → IsNameText own → IsSmallExternal type → length (name_encoding origin ++ (name_encoding own ++ external_type_encoding type)) < 2 ^ 32
      → IsShortest (IsPair IsName (IsPair IsName IsExternalType)) (name_encoding origin ++ (name_encoding own ++ external_type_encoding type)) (origin, (own, type))
  one own type named known short =
      let both = length-append (name_encoding origin) (name_encoding own ++ external_type_encoding type) in
      let two = length-append (name_encoding own) (external_type_encoding type) in
      pair IsName (IsPair IsName IsExternalType) (name_encoding origin) (name_encoding own ++ external_type_encoding type) origin (own, type) (name origin small (omega (arith, short, both)))
      (pair IsName IsExternalType (name_encoding own) (external_type_encoding type) own type (name own named (omega (arith, short, both, two))) (external type known))

  several : (items : List ImportItem) → AllByRecursion IsSmallItem items → length (name_encoding origin ++ 0x00 ∷ 0x7f ∷ list_encoding import_item_encoding items) < 2 ^ 32
      → IsShortest (IsPair IsName (IsMarked 0x00 (IsMarked 0x7f (IsList IsImportItem)))) (name_encoding origin ++ 0x00 ∷ 0x7f ∷ list_encoding import_item_encoding items) (origin, items)
  several items all short =
      let rest = list_encoding import_item_encoding items in
      let both = length-append (name_encoding origin) (0x00 ∷ 0x7f ∷ rest) in
      pair IsName (IsMarked 0x00 (IsMarked 0x7f (IsList IsImportItem))) (name_encoding origin) (0x00 ∷ 0x7f ∷ rest) origin items (name origin small (omega (arith, short, both)))
      (marked 0x00 (IsMarked 0x7f (IsList IsImportItem)) (0x7f ∷ rest) items (marked 0x7f (IsList IsImportItem) rest items
      (list IsImportItem import_item_encoding IsSmallItem some_item item items all (omega (arith, short, both)))))

  alike : (type : ExternalType ℕ) (names : List (List ℕ)) → IsSmallExternal type → AllByRecursion IsNameText names
      → length (name_encoding origin ++ 0x00 ∷ 0x7e ∷ (external_type_encoding type ++ list_encoding name_encoding names)) < 2 ^ 32
      → IsShortest (IsPair IsName (IsMarked 0x00 (IsMarked 0x7e (IsPair IsExternalType (IsList IsName)))))
      (name_encoding origin ++ 0x00 ∷ 0x7e ∷ (external_type_encoding type ++ list_encoding name_encoding names)) (origin, (type, names))
  alike type names known all short =
      let last = list_encoding name_encoding names in let rest = external_type_encoding type ++ last in
      let both = length-append (name_encoding origin) (0x00 ∷ 0x7e ∷ rest) in let two = length-append (external_type_encoding type) last in
      let IsRest = IsPair IsExternalType (IsList IsName) in
      pair IsName (IsMarked 0x00 (IsMarked 0x7e IsRest)) (name_encoding origin) (0x00 ∷ 0x7e ∷ rest) origin (type, names) (name origin small (omega (arith, short, both)))
      (marked 0x00 (IsMarked 0x7e IsRest) (0x7e ∷ rest) (type, names) (marked 0x7e IsRest rest (type, names)
      (pair IsExternalType (IsList IsName) (external_type_encoding type) last type names (external type known)
      (list IsName name_encoding IsNameText some_name name names all (omega (arith, short, both, two))))))

pub entry : (compact : Bool) → WritesShortest (IsImport compact) import_encoding (IsSmallImport compact)
unfolding import_encoding
entry compact (Import origin own type) small short = let s = one origin small.0 own type small.1 small.2 short in record { encodes = s.encodes; shortest = λ other h. s.shortest other h }
entry compact (CompactItems origin items) small short =
    let s = several origin small.1 items small.2 short in
    record { encodes = (small.0, s.encodes); shortest = λ other h. s.shortest other h.1 }
entry compact (CompactNames origin type names) small short =
    let s = alike origin small.1 type names small.2 small.3 short in
    record { encodes = (small.0, s.encodes); shortest = λ other h. s.shortest other h.1 }

pub some_entry : HasSome import_encoding
unfolding import_encoding
some_entry (Import origin own type) = omega (arith, some_name origin, length-append (name_encoding origin) (name_encoding own ++ external_type_encoding type))
some_entry (CompactItems origin items) = omega (arith, some_name origin, length-append (name_encoding origin) (0x00 ∷ 0x7f ∷ list_encoding import_item_encoding items))
some_entry (CompactNames origin type names) =
    omega (arith, some_name origin, length-append (name_encoding origin) (0x00 ∷ 0x7e ∷ (external_type_encoding type ++ list_encoding name_encoding names)))
