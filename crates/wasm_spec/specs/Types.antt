-- Types, over any kind R of references to defined types: type indexes, as bytes have them, or the defined types that these stand for.
-- Core Specification 3.0, Structure, "Types". Continuations, shared memories and pages of other sizes are proposals outside of the standard.
use Rattle.std.specs.Prelude.{ℕ, Bool, true, false, List, Option}

-- (Types, "Heap Types")
pub data AbstractHeapType : Type 0 where
  Func : AbstractHeapType
  Extern : AbstractHeapType
  Any : AbstractHeapType
  None : AbstractHeapType
  NoExtern : AbstractHeapType
  NoFunc : AbstractHeapType
  Eq : AbstractHeapType
  Struct : AbstractHeapType
  Array : AbstractHeapType
  I31 : AbstractHeapType
  Exn : AbstractHeapType
  NoExn : AbstractHeapType
  Cont : AbstractHeapType
  NoCont : AbstractHeapType

pub data HeapType (R : Type 0) : Type 0 where
  Abstract : AbstractHeapType → HeapType R
  Concrete : R → HeapType R

-- a reference: whether it may be null, and to what it is (Types, "Reference Types")
pub record RefType (R : Type 0) : Type 0 where
  pub nullable : Bool
  pub heap_type : HeapType R

-- the standard's word for references to any function, which may be null
abbrev pub funcref : {R : Type 0} → RefType R
funcref = record { nullable = true; heap_type = Abstract Func }

-- number, vector and reference types (Types, "Value Types"); a reference has the two parts of its reference type
pub data ValType (R : Type 0) : Type 0 where
  I32 : ValType R
  I64 : ValType R
  F32 : ValType R
  F64 : ValType R
  V128 : ValType R
  Ref : Bool → HeapType R → ValType R

abbrev pub is_ref : {R : Type 0} → ValType R → Bool
is_ref (Ref nullable heap) = true
is_ref type = false

-- what a field holds: a value or a packed number (Types, "Composite Types")
pub data StorageType (R : Type 0) : Type 0 where
  I8 : StorageType R
  I16 : StorageType R
  Val : ValType R → StorageType R

pub record FieldType (R : Type 0) : Type 0 where
  pub element_type : StorageType R
  pub mutable : Bool

-- (Types, "Composite Types")
pub record FuncType (R : Type 0) : Type 0 where
  pub params : List (ValType R)
  pub results : List (ValType R)

-- a continuation type has the function type that it goes on with
pub data CompositeType (R : Type 0) : Type 0 where
  FuncComposite : FuncType R → CompositeType R
  StructComposite : List (FieldType R) → CompositeType R
  ArrayComposite : FieldType R → CompositeType R
  ContComposite : R → CompositeType R

-- (Types, "Recursive Types"); a recursive group is made of these
pub record SubType (R : Type 0) : Type 0 where
  pub is_final : Bool
  pub supertypes : List R
  pub composite_type : CompositeType R

-- An entry of a type section: a recursive group. A sub type by itself and a group of that type alone, written out, are two entries.
pub data RecGroup (R : Type 0) : Type 0 where
  -- one sub type by itself
  Single : SubType R → RecGroup R
  -- a group that is written out, of any number of sub types
  Group : List (SubType R) → RecGroup R

-- The bounds of a memory or a table (Types, "Limits"): in which unit, the kind of its owner says. Which bounds are in range is a matter of
-- validity.
pub record Limits : Type 0 where
  pub minimum : ℕ
  pub maximum : Option ℕ
  -- of threads
  pub shared : Bool
  -- whether it has addresses of 64 bits, not of 32
  pub is_64 : Bool
  -- which power of two a page's size is, where it is written
  pub page_size_log2 : Option ℕ

-- (Types, "Memory Types")
abbrev pub MemoryType : Type 0
MemoryType = Limits

-- (Types, "Table Types")
pub record TableType (R : Type 0) : Type 0 where
  pub element_type : RefType R
  pub limits : Limits

-- (Types, "Global Types")
pub record GlobalType (R : Type 0) : Type 0 where
  pub value_type : ValType R
  pub mutable : Bool

-- What is imported (Types, "External Types"): a function or a tag has a function type (Types, "Tag Types").
pub data ExternalType (R : Type 0) : Type 0 where
  FuncExternal : R → ExternalType R
  TableExternal : TableType R → ExternalType R
  MemoryExternal : MemoryType → ExternalType R
  GlobalExternal : GlobalType R → ExternalType R
  TagExternal : R → ExternalType R

-- the kinds of what is imported or exported
pub data ExternalKind : Type 0 where
  FuncKind : ExternalKind
  TableKind : ExternalKind
  MemoryKind : ExternalKind
  GlobalKind : ExternalKind
  TagKind : ExternalKind

abbrev pub kind_of : {R : Type 0} → ExternalType R → ExternalKind
kind_of (FuncExternal function) = FuncKind
kind_of (TableExternal type) = TableKind
kind_of (MemoryExternal type) = MemoryKind
kind_of (GlobalExternal type) = GlobalKind
kind_of (TagExternal function) = TagKind
