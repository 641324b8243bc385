-- One of more texts than there are names is new. Numbers that were tried needn't be tried again once a name is added.
use Rattle.std.specs.Prelude.{bytes_eq, cond}
use Rattle.std.proofs.Common.{◌≡◌, ℕ, zero, suc, ◌+◌, ◌^◌, ◌<◌, ◌≤◌, Bool, true, false, ◌||◌, List, [], ◌∷◌, ◌++◌, length, length-append, map, Option, Some, is_some, unwrap_or, refl, ap, sym, ◌∙◌, inl, inr, subst, arith}
use Rattle.std.specs.BTreeMap.{BTreeMap, btree_map_len, get_by_text}
use Rattle.std.specs.Cmp.Lexicographic.{slice_cmp}
use Rattle.std.specs.Ordering.{is_eq, nat_cmp}
use Rattle.std.specs.List.{AllByRecursion, IsDistinct, list_any}
use Rattle.std.specs.Fmt.{decimal}
use Rattle.std.specs.Map.{lookup, update}
use Rattle.std.specs.String.{string_bytes}
use Rattle.std.specs.declared.string.String.{String}
use Rattle.std.proofs.lemmas.Bool.{or_cases, or_left, or_right, cases_lt, false_from_ne_true}
use Rattle.std.proofs.lemmas.Cmp.{nat_list_eq_equiv}
use Rattle.std.proofs.lemmas.Fmt.{decimal_injective, length-decimal-le}
use Rattle.std.proofs.lemmas.List.{length-map}
use Rattle.std.proofs.lemmas.Map.Made.{length-le_from_is_member}
use Rattle.std.proofs.lemmas.Map.Text.{is_eq-slice_cmp}
use Rattle.std.proofs.lemmas.Slice.Eq.{bytes_eq-Decides}
use Rattle.wasm_smith_unstructured.specs.Names.{AreTried, IsAdded, is_name, names_in}
use Rattle.wasm_smith_unstructured.specs.Texts.{AreTaken, IsNewName}

numbered : List ℕ → ℕ → ℕ → List (List ℕ)
numbered base from zero = []
numbered base from (suc n) = (base ++ decimal from) ∷ numbered base (suc from) n

length-numbered : (base : List ℕ) (from n : ℕ) → length (numbered base from n) ≡ n
unfolding numbered
length-numbered base from zero = refl
length-numbered base from (suc n) = ap (λ l. suc l) (length-numbered base (suc from) n)

tail_is : (base xs ys : List ℕ) → base ++ xs ≡ base ++ ys → xs ≡ ys
tail_is [] xs ys e = e
tail_is (b ∷ base) xs ys e = tail_is base xs ys cc

apart : (base : List ℕ) (i j : ℕ) → i < j → j < 2 ^ 64 → bytes_eq (base ++ decimal i) (base ++ decimal j) ≡ false
apart base i j lt small =
    false_from_ne_true (bytes_eq (base ++ decimal i) (base ++ decimal j)) (λ e.
    let same : i ≡ j = decimal_injective i j (omega (arith, lt, small)) small (tail_is base (decimal i) (decimal j) ((bytes_eq-Decides (base ++ decimal i) (base ++ decimal j)).0 e)) in
    absurd (omega (arith, lt, same)))

all_apart : (base : List ℕ) (i from n : ℕ) → i < from → from + n ≤ 2 ^ 64 → AllByRecursion (λ y. bytes_eq (base ++ decimal i) y ≡ false) (numbered base from n)
unfolding numbered
all_apart base i from zero lt small = tt
all_apart base i from (suc n) lt small = (apart base i from lt (omega (arith, small)), all_apart base i (suc from) n (omega (arith, lt)) (omega (arith, small)))

all_distinct : (base : List ℕ) (from n : ℕ) → from + n ≤ 2 ^ 64 → IsDistinct bytes_eq (numbered base from n)
unfolding numbered IsDistinct
all_distinct base from zero small = tt
all_distinct base from (suc n) small = (all_apart base from (suc from) n (omega arith) (omega (arith, small)), all_distinct base (suc from) n (omega (arith, small)))

all_among : (names : List (List ℕ)) (base : List ℕ) (from n : ℕ) → ((i : ℕ) → from ≤ i → i < from + n → is_name names (base ++ decimal i) ≡ true) → (q : List ℕ) → list_any (bytes_eq q) (numbered base from n) ≡ true → is_name names q ≡ true
unfolding numbered
all_among names base from zero h q e = absurd cc
all_among names base from (suc n) h q e = elim (or_cases (bytes_eq q (base ++ decimal from)) _ e) [
  | inl here ↦ let is : q ≡ base ++ decimal from = (bytes_eq-Decides q (base ++ decimal from)).0 here in subst (λ name. is_name names name ≡ true) (sym is) (h from (omega arith) (omega arith))
  | inr later ↦ all_among names base (suc from) n (λ i low high. h i (omega (arith, low)) (omega (arith, high))) q later
]

-- where each number from their count on and below this one makes one of the names, it is at most twice their count
pub few_tried : (names : List (List ℕ)) (base : List ℕ) (number : ℕ) → length names < 2 ^ 63 → AreTaken (is_name names) (length names) base number → number ≤ length names + length names
few_tried names base number small h = elim (cases_lt (length names + length names) number) [
  | inl gt ↦
      let count : ℕ = length names in
      let few : length (numbered base count (suc count)) ≤ count =
      length-le_from_is_member nat_list_eq_equiv (numbered base count (suc count)) names (all_distinct base count (suc count) (omega (arith, small)))
      (λ q member. all_among names base count (suc count) (λ i low high. h i low (omega (arith, high, gt))) q member) in
      absurd (omega (arith, few, length-numbered base count (suc count)))
  | inr le ↦ le
]

-- ---- the names in a map

pub count_is : {Y X : Type 0} (numbers : BTreeMap (String Y) X) → length (names_in numbers) ≡ btree_map_len numbers
count_is numbers = length-map numbers.entries _

pub is_name_by : {Y X : Type 0} (numbers : BTreeMap (String Y) X) (text : List ℕ) → is_name (names_in numbers) text ≡ is_some (get_by_text numbers text)
is_name_by {Y = Y} {X = X} numbers text = go numbers.entries
  where
    go : (entries : List (String Y × X)) → is_name (map (λ entry. string_bytes entry.0) entries) text ≡ is_some (lookup (λ k. is_eq (slice_cmp nat_cmp text (string_bytes k))) entries)
    go [] = refl
    go (entry ∷ entries) = rw (sym (is_eq-slice_cmp text (string_bytes entry.0))) (by_test (is_eq (slice_cmp nat_cmp text (string_bytes entry.0))) (go entries))
      where
        by_test : (b : Bool) → is_name (map (λ entry. string_bytes entry.0) entries) text ≡ is_some (lookup (λ k. is_eq (slice_cmp nat_cmp text (string_bytes k))) entries)
            → (b || is_name (map (λ entry. string_bytes entry.0) entries) text) ≡ is_some (cond b (Some entry.1) (lookup (λ k. is_eq (slice_cmp nat_cmp text (string_bytes k))) entries))
        by_test true e = refl
        by_test false e = e

pub few_tried_in : {Y X : Type 0} (numbers : BTreeMap (String Y) X) (base : List ℕ) (number : ℕ) → btree_map_len numbers < 2 ^ 63 → AreTaken (is_name (names_in numbers)) (length (names_in numbers)) base number
    → number ≤ length (names_in numbers) + length (names_in numbers)
few_tried_in numbers base number small = few_tried (names_in numbers) base number (rw (count_is numbers) small)

-- a number at the end of a text takes at most 20 bytes
pub few_digits : (text : List ℕ) (number : ℕ) → number < 2 ^ 64 → length (text ++ decimal number) ≤ length text + 20
few_digits text number small = omega (arith, length-append text (decimal number), length-decimal-le 20 number (omega arith) (omega (arith, small)) small)

-- ---- one name more

-- a map is as another was, but for the number of one text
abbrev pub IsUpdated : {Y : Type 0} → BTreeMap (String Y) ℕ → BTreeMap (String Y) ℕ → List ℕ → ℕ → Type 0
IsUpdated old new key number = (text : List ℕ) → get_by_text new text ≡ update bytes_eq (get_by_text old) key (Some number) text

is_there : {X : Type 0} (b : Bool) (x : X) (o : Option X) → is_some (cond b (Some x) o) ≡ (b || is_some o)
is_there true x o = refl
is_there false x o = refl

pub one_more : {Y : Type 0} (old new : BTreeMap (String Y) ℕ) (key : List ℕ) (number : ℕ) → IsUpdated old new key number
    → (text : List ℕ) → is_name (names_in new) text ≡ (bytes_eq key text || is_name (names_in old) text)
one_more old new key number updated text =
    is_name_by new text ∙ ap is_some (updated text) ∙ is_there (bytes_eq key text) number (get_by_text old text) ∙ ap (λ b. bytes_eq key text || b) (sym (is_name_by old text))

pub as_before : {Y : Type 0} (old new : BTreeMap (String Y) ℕ) (key : List ℕ) (number : ℕ) → IsUpdated old new key number → is_name (names_in old) key ≡ true
    → (text : List ℕ) → is_name (names_in new) text ≡ is_name (names_in old) text
as_before old new key number updated there text = one_more old new key number updated text ∙ go (bytes_eq key text) refl
  where
    go : (b : Bool) → bytes_eq key text ≡ b → (b || is_name (names_in old) text) ≡ is_name (names_in old) text
    go true e = let same : key ≡ text = (bytes_eq-Decides key text).0 e in sym (subst (λ t. is_name (names_in old) t ≡ true) same there)
    go false e = refl

pub stays : {Y : Type 0} (old new : BTreeMap (String Y) ℕ) (key : List ℕ) (number : ℕ) → IsUpdated old new key number → (text : List ℕ) → is_name (names_in old) text ≡ true → is_name (names_in new) text ≡ true
stays old new key number updated text there = one_more old new key number updated text ∙ or_right (bytes_eq key text) (is_name (names_in old) text) there

-- what is tried stays so where names and a number are added
pub still_tried : {Y : Type 0} (old new : BTreeMap (String Y) ℕ) (key : List ℕ) (number : ℕ) → IsUpdated old new key number → length (names_in old) ≤ length (names_in new)
    → ((text : List ℕ) → is_name (names_in old) text ≡ true → is_name (names_in new) text ≡ true)
    → AreTaken (is_name (names_in new)) (length (names_in new)) key number → AreTried old → AreTried new
still_tried old new key number updated more stay taken tried text n low high = go (bytes_eq key text) refl (subst (λ o. n < unwrap_or o 0) (updated text) high)
  where
    go : (b : Bool) → bytes_eq key text ≡ b → n < unwrap_or (cond b (Some number) (get_by_text old text)) 0 → is_name (names_in new) (text ++ decimal n) ≡ true
    go true e lt = let same : key ≡ text = (bytes_eq-Decides key text).0 e in subst (λ t. is_name (names_in new) (t ++ decimal n) ≡ true) same (taken n low lt)
    go false e lt = stay (text ++ decimal n) (tried text n (omega (arith, low, more)) lt)

pub none_tried : (taken : List ℕ → Bool) (count : ℕ) (text : List ℕ) → AreTaken taken count text 0
none_tried taken count text n low high = absurd (omega (arith, high))

-- one number more is tried
pub one_tried : (taken : List ℕ → Bool) (count : ℕ) (text : List ℕ) (number : ℕ) → AreTaken taken count text number → taken (text ++ decimal number) ≡ true → AreTaken taken count text (number + 1)
one_tried taken count text number tried last n low high = elim (cases_lt n number) [
  | inl lt ↦ tried n low lt
  | inr ge ↦ let is : number ≡ n = omega (arith, high, ge) in subst (λ m. taken (text ++ decimal m) ≡ true) is last
]

pub unchanged_tried : {Y : Type 0} (old new : BTreeMap (String Y) ℕ) → new.entries ≡ old.entries → AreTried old → AreTried new
unchanged_tried old new same tried = rw same tried

-- ---- a name that is new

pub text_is_new : (taken : List ℕ → Bool) (count : ℕ) (text name : List ℕ) → taken text ≡ false → name ≡ text → IsNewName taken count text name
text_is_new taken count text name free same = record {
  new = rw same free;
  same = λ _. same;
  numbered = λ there. absurd cc;
}

pub number_is_new : (taken : List ℕ → Bool) (count : ℕ) (text name : List ℕ) (number : ℕ) → taken text ≡ true → taken name ≡ false → count ≤ number → name ≡ text ++ decimal number → AreTaken taken count text number
    → IsNewName taken count text name
number_is_new taken count text name number there free from written least = record {
  new = free;
  same = λ not_there. absurd cc;
  numbered = λ _. record { number = number; from = from; written = written; least = least };
}

-- where a name is added, and then another number is kept for the text that it was made of
pub numbered_added : {Y : Type 0} (old between new : BTreeMap (String Y) ℕ) (text name : List ℕ) (number : ℕ) → IsUpdated old between name 0 → IsUpdated between new text (number + 1)
    → length (names_in between) ≡ length (names_in old) + 1 → length (names_in new) ≡ length (names_in between) → is_name (names_in old) text ≡ true
    → IsNewName (is_name (names_in old)) (length (names_in old)) text name → IsAdded (names_in old) (names_in new) text name
numbered_added old between new text name number put kept more as_many there named = record {
  named = named;
  added = λ other. as_before between new text (number + 1) kept (stays old between name 0 put text there) other ∙ one_more old between name 0 put other;
  one_more = as_many ∙ more;
}

pub numbered_tried : {Y : Type 0} (old between new : BTreeMap (String Y) ℕ) (text name : List ℕ) (number : ℕ) → IsUpdated old between name 0 → IsUpdated between new text (number + 1)
    → length (names_in between) ≡ length (names_in old) + 1 → length (names_in new) ≡ length (names_in between) → is_name (names_in old) text ≡ true
    → name ≡ text ++ decimal number → AreTaken (is_name (names_in old)) (length (names_in old)) text number → AreTried old → AreTried new
numbered_tried old between new text name number put kept more as_many there written taken tried =
    let stay : (other : List ℕ) → is_name (names_in between) other ≡ true → is_name (names_in new) other ≡ true = stays between new text (number + 1) kept in
    let first : AreTried between = still_tried old between name 0 put (omega (arith, more)) (stays old between name 0 put) (none_tried (is_name (names_in between)) (length (names_in between)) name) tried in
    let here : is_name (names_in between) name ≡ true = one_more old between name 0 put name ∙ or_left (bytes_eq name name) _ ((bytes_eq-Decides name name).1 refl) in
    let last : is_name (names_in new) (text ++ decimal number) ≡ true = subst (λ other. is_name (names_in new) other ≡ true) written (stay name here) in
    let until : AreTaken (is_name (names_in new)) (length (names_in new)) text number = λ n low high. stay (text ++ decimal n) (stays old between name 0 put (text ++ decimal n) (taken n (omega (arith, low, more, as_many)) high)) in
    still_tried between new text (number + 1) kept (omega (arith, as_many)) stay (one_tried (is_name (names_in new)) (length (names_in new)) text number until last) first
