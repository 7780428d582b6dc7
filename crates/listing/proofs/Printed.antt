-- The texts of a device's superiors, one number more at a time.
use Rattle.std.proofs.Common.{◌≡◌, ℕ, ◌+◌, Bool, true, false, cond, List, [], ◌∷◌, ◌++◌, Decides, filter, refl, subst, append-nil, arith}
use Rattle.std.specs.List.{range_with_len, flat_map}
use Rattle.std.proofs.lemmas.List.FromFn.{filter_of_map_range_with_len_more}
use Rattle.std.proofs.lemmas.List.{map-id}
use Rattle.std.proofs.lemmas.Grind.{flat_map-append}
use Rattle.std.proofs.lemmas.Bool.Decides.{same_from_decides}
use Rattle.order.specs.declared.superiors.Superiors.{Superiors}
use Rattle.order.specs.Answers.{Superior, is_superior}
use Rattle.order.proofs.Tables.{is_superior_tests}

-- one number more, if it passes
pub passed : (test : ℕ → Bool) (i : ℕ) → filter test (range_with_len 0 (i + 1)) ≡ filter test (range_with_len 0 i) ++ cond (test i) (i ∷ []) []
passed test i = simp map-id at (filter_of_map_range_with_len_more test (λ (x : ℕ). x) 0 i i (omega arith))

text_of_one : (f : ℕ → List ℕ) (x : ℕ) (b : Bool) → flat_map f (cond b (x ∷ []) []) ≡ cond b (f x) []
text_of_one f x true = append-nil (f x)
text_of_one f x false = refl

-- the superiors of a device below n
abbrev pub superiors_below : Superiors → ℕ → ℕ → List ℕ
superiors_below table d n = filter (λ s. is_superior table s d) (range_with_len 0 n)

-- their texts, with one number more; `r` is what `has` answered of it
pub texts_more : (f : ℕ → List ℕ) (table seen : Superiors) (s d : ℕ) (r : Bool) → seen ≡ table → Decides r (Superior seen s d)
    → flat_map f (superiors_below table d (s + 1)) ≡ flat_map f (superiors_below table d s) ++ cond r (f s) []
texts_more f table seen s d r same says =
    let told : r ≡ is_superior table s d = same_from_decides r _ (subst (λ (t : Superiors). Decides r (Superior t s d)) same says) (is_superior_tests table s d) in
    rw (passed (λ x. is_superior table x d) s, flat_map-append, ← told, text_of_one)
