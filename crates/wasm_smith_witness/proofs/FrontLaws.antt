-- Groups as the loop writes them.
use Rattle.std.proofs.Common.{◌≡◌, ℕ, suc, ◌-◌, ◌+◌, ◌≤◌, ◌<◌, ◌^◌, true, false, leb, List, [], ◌∷◌, ◌++◌, length, map, drop, get_or, Global, refl, sym, ap, ◌∙◌, append_assoc, inl, inr, arith}
use Rattle.std.specs.Prelude.{◌&&◌, ◌||◌, min, nat_le, nat_lt}
use Rattle.std.specs.List.{list_any}
use Rattle.std.proofs.lemmas.List.{length-append, length-map, drop_more, drop_all}
use Rattle.std.proofs.lemmas.List.Folds.{list_any-append}
use Rattle.std.proofs.lemmas.Bool.{and_parts, cases_lt, le-leb, lt-leb}
use Rattle.std.proofs.Math.Nat.{min-le_left, min-le_right, le-min}
use Rattle.wasm_spec.specs.Types.{SubType}
use Rattle.wasm_core_types.specs.SubTypes.{sub_type}
use Rattle.wasm_core_types.specs.declared.types.SubType as code
use Rattle.std.specs.declared.vec.Vec.{Vec}
use Rattle.wasm_smith_types.proofs.GroupedLaws.{sum_more}
use Rattle.wasm_smith_witness.specs.Groups.{group_of}
use Rattle.wasm_smith_config.specs.declared.config.Config.{Config}
use Rattle.wasm_smith_types.specs.Drawing as spec
use Rattle.wasm_smith_types.specs.Drawing.{asked_after, fits, front_then, no_groups, total}
use Rattle.wasm_smith_witness.specs.Family.{is_member_group, are_member_groups, types_of}
use Rattle.wasm_smith_witness.specs.Words.{no_word, group_word, groups_word}
use Rattle.wasm_smith_witness.specs.declared.words.Front.{Front}

-- what decides on the draws of the next group, as the code has it
pub record Stands (front : spec.Front) (now : Front) : Type 0 where
  pub counts : total front.sizes ≡ now.count
  pub asks : front.asked ≡ now.asked
  pub clones : (left : ℕ) → left < 2 ^ 32 → list_any (fits left) front.sizes ≡ nat_le now.smallest left

-- these groups are left to write
pub record AreWritten (c : Config) (out whole : List ℕ) (rest : List (List (SubType ℕ))) (now : Front) : Type 0 where
  pub front : spec.Front
  pub stands : Stands front now
  pub member : are_member_groups c now.count rest ≡ true
  pub room : now.count + length (types_of rest) ≤ c.max_types
  pub so_far : out ++ groups_word c c.max_types front rest ≡ whole

smaller : (a n left : ℕ) → nat_le a left || (nat_le n left || false) ≡ nat_le (min a n) left
smaller a n left =
    let one : min a n ≤ a = min-le_left a n in
    let two : min a n ≤ n = min-le_right a n in
    elim (cases_lt left a) [
      | inl out ↦
          let e : leb a left ≡ false = lt-leb a left out in
          elim (cases_lt left n) [
            | inl far ↦
                let f : leb n left ≡ false = lt-leb n left far in
                let low : suc left ≤ a = omega arith in
                let lower : suc left ≤ n = omega arith in
                let both : suc left ≤ min a n = le-min low lower in
                let m : leb (min a n) left ≡ false = lt-leb (min a n) left (omega arith) in
                rw (e, f, m) refl
            | inr near ↦
                let f : leb n left ≡ true = le-leb n left near in
                let m : leb (min a n) left ≡ true = le-leb (min a n) left (omega arith) in
                rw (e, f, m) refl
          ]
      | inr within ↦
          let e : leb a left ≡ true = le-leb a left within in
          let m : leb (min a n) left ≡ true = le-leb (min a n) left (omega arith) in
          rw (e, m) refl
    ]

stands_next : (front : spec.Front) (group : List (SubType ℕ)) (now next : Front) → next.count ≡ now.count + length group → next.smallest ≡ min now.smallest (length group) → next.asked ≡ asked_after now.asked group
    → Stands front now → Stands (front_then front group) next
stands_next front group now next count smallest asked stands =
    let more : total (front.sizes ++ length group ∷ []) ≡ total front.sizes + length group = sum_more front.sizes (length group) in
    record {
      counts = omega (arith, more, count, stands.counts);
      asks = rw stands.asks (sym asked);
      clones = λ left low. list_any-append (fits left) front.sizes (length group ∷ []) ∙ (rw (stands.clones left low, smallest) (smaller now.smallest (length group) left));
    }

written_one : (c : Config) (out one two whole : List ℕ) (group : List (SubType ℕ)) (rest : List (List (SubType ℕ))) (now next : Front) → c.max_types < 2 ^ 32 → one ≡ out ++ 1 ∷ []
    → two ≡ one ++ group_word c (c.max_types - now.count) (now.count + length group) (nat_le now.smallest (c.max_types - now.count)) now.asked group
    → next.count ≡ now.count + length group → next.smallest ≡ min now.smallest (length group) → next.asked ≡ asked_after now.asked group
    → AreWritten c out whole (group ∷ rest) now → AreWritten c two whole rest next
unfolding groups_word
written_one c out one two whole group rest now next low first second count smallest asked left =
    let front = left.front in
    let room = c.max_types - now.count in
    let few : room < 2 ^ 32 = omega arith in
    let same : group_word c (c.max_types - total front.sizes) (total front.sizes + length group) (list_any (fits (c.max_types - total front.sizes)) front.sizes) front.asked group
    ≡ group_word c room (now.count + length group) (nat_le now.smallest room) now.asked group = rw (left.stands.counts, left.stands.asks, left.stands.clones room few) refl in
    let so_far : out ++ (1 ∷ (group_word c (c.max_types - total front.sizes) (total front.sizes + length group) (list_any (fits (c.max_types - total front.sizes)) front.sizes) front.asked group ++ groups_word c c.max_types (front_then front group) rest)) ≡ whole = left.so_far in
    let fit : is_member_group c (now.count + length group) group && are_member_groups c (now.count + length group) rest ≡ true = left.member in
    let both = and_parts (is_member_group c (now.count + length group) group) (are_member_groups c (now.count + length group) rest) fit in
    let sum : length (group ++ types_of rest) ≡ length group + length (types_of rest) = length-append group (types_of rest) in
    record {
      front = front_then front group;
      stands = stands_next front group now next count smallest asked left.stands;
      member = rw count both.1;
      room = omega (arith, sum, left.room, count);
      so_far = rw (second, first) (simp append_assoc (rw same at so_far));
    }

pub written_next : (c : Config) (out one two whole : List ℕ) (groups : List (Vec code.SubType Global)) (i n : ℕ) (group : Vec code.SubType Global) (now next : Front) → c.max_types < 2 ^ 32 → i < length groups → group ≡ get_or groups i group → n ≡ length group.items
    → one ≡ out ++ 1 ∷ [] → two ≡ one ++ group_word c (c.max_types - now.count) (now.count + n) (nat_le now.smallest (c.max_types - now.count)) now.asked (map sub_type group.items)
    → next.count ≡ now.count + n → next.smallest ≡ min now.smallest (length group.items) → next.asked ≡ asked_after now.asked (map sub_type group.items)
    → AreWritten c out whole (map group_of (drop i groups)) now → AreWritten c two whole (map group_of (drop (i + 1) groups)) next
written_next c out one two whole groups i n group now next low lt is many first second count smallest asked left =
    let e : drop i groups ≡ group ∷ drop (i + 1) groups = drop_more groups i group lt ∙ ap (λ g. g ∷ drop (i + 1) groups) (sym is) in
    let k : length (map sub_type group.items) ≡ length group.items = length-map group.items sub_type in
    let as_many : n ≡ length (map sub_type group.items) = many ∙ sym k in
    written_one c out one two whole (map sub_type group.items) (map group_of (drop (i + 1) groups)) now next low first (rw as_many at second) (rw as_many at count) (rw (sym k) at smallest) asked (rw e at left)

pub written_all : (c : Config) (out new whole : List ℕ) (groups : List (Vec code.SubType Global)) (i : ℕ) (now : Front) → length groups ≤ i → new ≡ out ++ no_word (nat_lt now.count c.max_types)
    → AreWritten c out whole (map group_of (drop i groups)) now → new ≡ whole
unfolding groups_word
written_all c out new whole groups i now le last left =
    let none : drop i groups ≡ [] = drop_all i groups le in
    let done : AreWritten c out whole [] now = rw none at left in
    let so_far : out ++ no_word (nat_lt (total done.front.sizes) c.max_types) ≡ whole = done.so_far in
    last ∙ (rw done.stands.counts at so_far)
