-- Which place each lowering takes, and how deep the device in a place then stands, in numbers alone.
use Rattle.std.proofs.Common.{◌≡◌, ◌≢◌, ℕ, suc, ◌+◌, ◌-◌, ◌*◌, ◌<◌, ◌≤◌, ◌⊎◌, inl, inr, ap, ◌∙◌, arith}
use Rattle.std.specs.Prelude.{if◌then◌else◌, ◌==◌}
use Rattle.std.proofs.lemmas.Nat.{div-mul-add, mod-mul-add}
use Rattle.std.proofs.lemmas.Bool.{cases_lt}
use Rattle.std.proofs.lemmas.Bool.Decides.{nat_tests}
use Rattle.history.specs.Schedule.{place}
use Rattle.history.specs.Keeping.{level_at}

-- ---- the place that a lowering takes

place_split : (n a b : ℕ) → b < n → place n (a * n + b) ≡ (if a == 0 then b else (n - 1) - b)
place_split n a b h = rw (div-mul-add a n b h, mod-mul-add a n b h)

-- which place p lowering j of n devices takes, in each of the four phases
abbrev pub Turn : ℕ → ℕ → ℕ → Type 0
Turn n j p =
    ((j < n) × (p ≡ j))
    ⊎ (((n ≤ j) × (j < 2 * n) × (p + suc j ≡ 2 * n))
    ⊎ (((2 * n ≤ j) × (j < 3 * n) × (p + suc j ≡ 3 * n)) ⊎ ((3 * n ≤ j) × (j < 4 * n) × (p + suc j ≡ 4 * n))))

pub turn : (n j : ℕ) → j < 4 * n → Turn n j (place n j)
turn n j h = first (cases_lt j n)
  where
    at : (a b : ℕ) → j ≡ a * n + b → b < n → place n j ≡ (if a == 0 then b else (n - 1) - b)
    at a b e l = ap (place n) e ∙ place_split n a b l

    third : 2 * n ≤ j → (j < 3 * n) ⊎ (3 * n ≤ j) → Turn n j (place n j)
    third l (inl m) = let e : place n j ≡ (n - 1) - (j - 2 * n) = at 2 (j - 2 * n) (omega arith) (omega arith) in inr (inr (inl (l, m, omega arith)))
    third l (inr m) = let e : place n j ≡ (n - 1) - (j - 3 * n) = at 3 (j - 3 * n) (omega arith) (omega arith) in inr (inr (inr (m, h, omega arith)))

    second : n ≤ j → (j < 2 * n) ⊎ (2 * n ≤ j) → Turn n j (place n j)
    second l (inl m) = let e : place n j ≡ (n - 1) - (j - n) = at 1 (j - n) (omega arith) (omega arith) in inr (inl (l, m, omega arith))
    second l (inr m) = third m (cases_lt j (3 * n))

    first : (j < n) ⊎ (n ≤ j) → Turn n j (place n j)
    first (inl l) = inl (l, at 0 j (omega arith) l)
    first (inr l) = second l (cases_lt j (2 * n))

pub turn_inside : (n j p : ℕ) → Turn n j p → p < n
turn_inside n j p t = omega arith

-- ---- the level of a place

-- v is the level of place i after k lowerings
pub record Depth (n i k v : ℕ) : Type 0 where
  pub most : v ≤ 4
  pub one : i < k → 1 ≤ v
  pub none : k ≤ i → v ≡ 0
  pub two : 2 * n ≤ k + i → 2 ≤ v
  pub below_two : k + i < 2 * n → v ≤ 1
  pub three : 3 * n ≤ k + i → 3 ≤ v
  pub below_three : k + i < 3 * n → v ≤ 2
  pub four : 4 * n ≤ k + i → 4 ≤ v
  pub below_four : k + i < 4 * n → v ≤ 3

pub depth : (n i k : ℕ) → i < n → Depth n i k (level_at n i k)
depth n i k h =
    record {
      most = grind (arith, nat_tests);
      one = λ l. grind (arith, nat_tests);
      none = λ l. grind (arith, nat_tests);
      two = λ l. grind (arith, nat_tests);
      below_two = λ l. grind (arith, nat_tests);
      three = λ l. grind (arith, nat_tests);
      below_three = λ l. grind (arith, nat_tests);
      four = λ l. grind (arith, nat_tests);
      below_four = λ l. grind (arith, nat_tests);
    }

pub depth_up : (n j p v w : ℕ) → Turn n j p → Depth n p j v → Depth n p (suc j) w → w ≡ suc v
depth_up n j p v w t d d' = grind arith

pub depth_same : (n j p i v w : ℕ) → Turn n j p → i < n → i ≢ p → Depth n i j v → Depth n i (suc j) w → w ≡ v
depth_same n j p i v w t h ne d d' = grind arith

-- ---- two places i < j after k lowerings

pub earlier_deeper : (n i j k v w : ℕ) → i < j → j < n → Depth n i k v → Depth n j k w → 2 ≤ v → v ≤ w
earlier_deeper n i j k v w l h d e two = grind arith

pub earlier_left : (n i j k v w : ℕ) → i < j → j < n → Depth n i k v → Depth n j k w → v ≡ 0 → w ≡ 0
earlier_left n i j k v w l h d e z = grind arith

pub places_near : (n i j k v w : ℕ) → i < n → j < n → Depth n i k v → Depth n j k w → v ≤ w + 1
places_near n i j k v w h l d e = grind arith
