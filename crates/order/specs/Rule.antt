-- The rule for the order as a definition that executes: `above s d` tests whether s is a superior of d.
use Rattle.std.specs.Prelude.{ℕ, zero, suc, Bool, true, false, cond, not, ◌&&◌, ◌||◌, List, [], ◌∷◌, ◌++◌, Some, None, Ok, Err, Decides, Option, Result, ◌==◌}

-- the test answers for the relation
abbrev pub Tests : (ℕ → ℕ → Bool) → (ℕ → ℕ → Type 0) → Type 0
Tests above R = (s d : ℕ) → Decides (above s d) (R s d)

abbrev pub has : List ℕ → ℕ → Bool
has [] d = false
has (x ∷ xs) d = x == d || has xs d

-- each number below n passes
abbrev pub all_below : ℕ → (ℕ → Bool) → Bool
all_below zero test = true
all_below (suc n) test = test n && all_below n test

-- the least number below n that passes
abbrev pub least_below : ℕ → (ℕ → Bool) → Option ℕ
least_below zero test = None
least_below (suc n) test = elim (least_below n test) [ None ↦ cond (test n) (Some n) None | Some x ↦ Some x ]

-- d is not placed, and all its superiors are
abbrev pub ready : ℕ → (ℕ → ℕ → Bool) → List ℕ → ℕ → Bool
ready n above placed d = not (has placed d) && all_below n (λ s. not (above s d) || has placed s)

-- at most k places more, each taken by the least device that is ready
abbrev pub placing : ℕ → (ℕ → ℕ → Bool) → ℕ → List ℕ → List ℕ
placing n above zero placed = placed
placing n above (suc k) placed = elim (least_below n (ready n above placed)) [ None ↦ placed | Some d ↦ placing n above k (placed ++ d ∷ []) ]

-- the order; or the least device that finds no place in it
abbrev pub ordering : ℕ → (ℕ → ℕ → Bool) → Result (List ℕ) ℕ
ordering n above = elim (least_below n (λ d. not (has (placing n above n []) d))) [ None ↦ Ok (placing n above n []) | Some d ↦ Err d ]
