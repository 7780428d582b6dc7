-- A list of what each record describes.
use Rattle.std.proofs.Common.{◌≡◌, ℕ, suc, ◌+◌, ◌<◌, List, [], ◌∷◌, ◌++◌, length, get_or, map, Some, Ok, Option, Result, refl, ap, subst, ◌∙◌, arith}
use Rattle.std.specs.Result.{OnOk}
use Rattle.std.specs.List.{range_with_len, filter_map}

module _ {X : Type 0} (describe : List ℕ → Option X) (f : ℕ → X) where
  from : (a : ℕ) (records : List (List ℕ)) → ((i : ℕ) → i < length records → describe (get_or records i []) ≡ Some (f (a + i))) → filter_map describe records ≡ map f (range_with_len a (length records))
  from a [] each = refl
  from a (x ∷ xs) each =
      let here : describe x ≡ Some (f a) = each 0 (omega arith) ∙ ap (λ k. Some (f k)) (omega arith) in
      let there = from (a + 1) xs (λ i l. each (suc i) (omega arith) ∙ ap (λ k. Some (f k)) (omega arith)) in
      rw (here, there) refl

  -- each record describes something
  pub all_described : (records : List (List ℕ)) (n : ℕ) → length records ≡ n → ((i : ℕ) → i < n → describe (get_or records i []) ≡ Some (f i)) → filter_map describe records ≡ map f (range_with_len 0 n)
  all_described records n long each = rw (← long) (from 0 records (λ i l. each i (omega arith) ∙ ap (λ k. Some (f k)) (omega arith)))

-- what holds of a call that was obeyed
pub ok_holds : {P E : Type 0} (r : Result (Unit {0}) E) (done : Unit {0}) → r ≡ Ok done → OnOk r P → P
ok_holds {P} r done is holds = subst (λ r. OnOk r P) is holds

-- what is put behind nothing
pub from_none : {X : Type 0} (now old xs ys : List X) → old ≡ [] → now ≡ old ++ xs → xs ≡ ys → now ≡ ys
from_none now old xs ys none is all = rw none at is ∙ all
