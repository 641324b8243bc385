-- Tables of fields, some of them bad.
use Rattle.std.proofs.Common.{◌≡◌, ℕ, Bool, true, false, List, [], ◌∷◌, ◌++◌, map, Some, None, IsFalse, cond, Result, Ok, Err, OnOk, IfErr, refl, ap, arith}
use Rattle.std.specs.List.{find}
use Rattle.std.proofs.lemmas.List.Elements.{All-nil, All-cons, All-append, Contains-append_left, Contains-append_right}
use Rattle.wasm_smith_config.specs.Config.{AreGood, HasBad, NamesBad}
use Rattle.wasm_smith_config.specs.Fields.{field_of}
use Rattle.wasm_smith_config.specs.Config as table
use Rattle.wasm_smith_config.specs.declared.check.Field as code
use Rattle.wasm_smith_unstructured.specs.declared.error.Error.{Error}
use Rattle.wasm_smith_unstructured.specs.declared.error.Error.TheVariants.{IncorrectFormat, EmptyChoose, NotEnoughData, BadConfig, BadShape, TypeSize, Memory, TooLong}

-- what is bad in a table is bad in a longer one
pub bad_left : (xs ys : List table.Field) (name : List ℕ) → HasBad xs name → HasBad (xs ++ ys) name
bad_left xs ys name bad =
    let place = Contains-append_left xs ys bad.1 (bad.0, bad.2, bad.3) in (place.0, bad.1, place.1, place.2, bad.4)

pub bad_right : (xs ys : List table.Field) (name : List ℕ) → HasBad ys name → HasBad (xs ++ ys) name
bad_right xs ys name bad =
    let place = Contains-append_right xs ys bad.1 (bad.0, bad.2, bad.3) in (place.0, bad.1, place.1, place.2, bad.4)

-- an error that names what is bad in a table names what is bad in a longer one
pub names_left : (xs ys : List table.Field) (e : Error) → NamesBad xs e → NamesBad (xs ++ ys) e
names_left xs ys (BadConfig name) bad = bad_left xs ys name.now bad
names_left xs ys IncorrectFormat bad = bad
names_left xs ys EmptyChoose bad = bad
names_left xs ys NotEnoughData bad = bad
names_left xs ys (BadShape name) bad = bad
names_left xs ys TypeSize bad = bad
names_left xs ys Memory bad = bad
names_left xs ys TooLong bad = bad

pub names_right : (xs ys : List table.Field) (e : Error) → NamesBad ys e → NamesBad (xs ++ ys) e
names_right xs ys (BadConfig name) bad = bad_right xs ys name.now bad
names_right xs ys IncorrectFormat bad = bad
names_right xs ys EmptyChoose bad = bad
names_right xs ys NotEnoughData bad = bad
names_right xs ys (BadShape name) bad = bad
names_right xs ys TypeSize bad = bad
names_right xs ys Memory bad = bad
names_right xs ys TooLong bad = bad

-- where no bad field is found, none is bad
none_step : (x : code.Field) (xs : List code.Field) (b : Bool) → x.is_bad ≡ b → cond b (Some x) (find (λ f. f.is_bad) xs) ≡ None → (find (λ f. f.is_bad) xs ≡ None → AreGood (map field_of xs)) → AreGood (map field_of (x ∷ xs))
none_step x xs true is e rest = absurd cc
none_step x xs false is e rest = All-cons (λ field. IsFalse field.is_bad) (field_of x) (map field_of xs) is (rest e)

pub none_bad : (xs : List code.Field) → find (λ f. f.is_bad) xs ≡ None → AreGood (map field_of xs)
none_bad [] e = All-nil (λ field. IsFalse field.is_bad)
none_bad (x ∷ xs) e = none_step x xs x.is_bad refl e (none_bad xs)

-- a bad field that is found is bad
some_step : (x f : code.Field) (xs : List code.Field) (b : Bool) → x.is_bad ≡ b → cond b (Some x) (find (λ f. f.is_bad) xs) ≡ Some f → (find (λ f. f.is_bad) xs ≡ Some f → HasBad (map field_of xs) f.name.now) → HasBad (map field_of (x ∷ xs)) f.name.now
some_step x f xs true is e rest = let same : x ≡ f = cc in (0, field_of x, omega arith, refl, (ap (λ f. f.name.now) same, is))
some_step x f xs false is e rest = bad_right (field_of x ∷ []) (map field_of xs) f.name.now (rest e)

pub some_bad : (xs : List code.Field) (f : code.Field) → find (λ f. f.is_bad) xs ≡ Some f → HasBad (map field_of xs) f.name.now
some_bad [] f e = absurd cc
some_bad (x ∷ xs) f e = some_step x f xs x.is_bad refl e (some_bad xs f)

-- a result of two tables in turn
pub good_in_turn : (xs ys : List table.Field) (r : Result (Unit {0}) Error) → AreGood xs → OnOk r (AreGood ys) → OnOk r (AreGood (xs ++ ys))
good_in_turn xs ys (Ok _) a b = All-append (λ field. IsFalse field.is_bad) xs ys a b
good_in_turn xs ys (Err e) a b = b

pub names_last : (xs ys : List table.Field) (r : Result (Unit {0}) Error) → IfErr r (NamesBad ys) → IfErr r (NamesBad (xs ++ ys))
names_last xs ys (Ok _) bad = bad
names_last xs ys (Err e) bad = names_right xs ys e bad
