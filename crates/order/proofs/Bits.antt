-- Sets of numbers as bits.
use Rattle.std.proofs.Common.{◌≡◌, ℕ, ◌*◌, ◌/◌, ◌%◌, ◌^◌, ◌<◌, Bool, true, false, eqb, ◌⊎◌, Decides, MatchBool, w64, sym, refl, ap, ◌∙◌, inl, inr, arith}
use lib.Bits.{bit_and, bit_or, and_le_l}
use Rattle.std.specs.Int.{bit_at}
use Rattle.std.proofs.lemmas.Nat.Bits.{bit_at-zero, shr_and_one, bit_at_and, bit_at_set_same, bit_at_set_other, bit_at-lt, same_from_bits_below}
use Rattle.std.proofs.lemmas.Bool.{cases_eq, eqb-true, eqb-false}
use Rattle.std.proofs.lemmas.Bool.Decides.{Decides-eqb}
use Rattle.order.specs.Sets.{Bit, With}
use Rattle.order.specs.declared.set.DeviceSet.{DeviceSet}
use Rattle.order.proofs.Finding.{Decided, search_below}

pub in_or_not : (m d : ℕ) → Decided (Bit m d)
unfolding Bit
in_or_not m d = cases_eq (bit_at m d) 1

pub none_in : (d : ℕ) → Bit 0 d → ⊥
unfolding Bit
none_in d h = omega (arith, bit_at-zero d)

-- ---- what `a & b == a` asks

and_within : (a b : ℕ) → bit_and a b ≡ a → (d : ℕ) → Bit a d → Bit b d
unfolding Bit
and_within a b e d h = let s : bit_at (bit_and a b) d ≡ bit_at a d = ap (λ x. bit_at x d) e in omega (arith, bit_at_and a b d, bit_at-lt b d)

within_and : (k a b : ℕ) → a < 2 ^ k → ((d : ℕ) → d < k → Bit a d → Bit b d) → bit_and a b ≡ a
unfolding Bit
within_and k a b small all = same_from_bits_below k (bit_and a b) a (omega (arith, and_le_l a b)) small same
  where
    same : (d : ℕ) → d < k → bit_at (bit_and a b) d ≡ bit_at a d
    same d l = elim (cases_eq (bit_at a d) 1) [ inl h ↦ omega (arith, bit_at_and a b d, all d l h) | inr ne ↦ omega (arith, bit_at_and a b d, bit_at-lt a d) ]

-- some number that a has and b has not
outside : (k a b : ℕ) → a < 2 ^ k → (bit_and a b ≡ a → ⊥) → (d : ℕ) × (d < k) × Bit a d × (Bit b d → ⊥)
outside k a b small ne = go (search_below (λ d. Bit a d × (Bit b d → ⊥)) (λ d. both d (in_or_not a d) (in_or_not b d)) k)
  where
    both : (d : ℕ) → Decided (Bit a d) → Decided (Bit b d) → Decided (Bit a d × (Bit b d → ⊥))
    both d (inl p) (inl q) = inr (λ t. t.1 q)
    both d (inl p) (inr q) = inl (p, q)
    both d (inr p) q = inr (λ t. p t.0)

    Out : ℕ → Type 0
    Out d = Bit a d × (Bit b d → ⊥)

    go : ((d : ℕ) × (d < k) × Out d × ((j : ℕ) → j < d → Out j → ⊥)) ⊎ ((d : ℕ) → d < k → Out d → ⊥) → (d : ℕ) × (d < k) × Bit a d × (Bit b d → ⊥)
    go (inl (d, l, (p, q), _)) = (d, l, p, q)
    go (inr none) = absurd (ne (within_and k a b small (λ d l p. elim (in_or_not b d) [ inl q ↦ q | inr q ↦ absurd (none d l (p, q)) ])))

-- ---- the functions of src/set.rt

pub has_decides : (m d : ℕ) → Decides (eqb (bit_and (m / 2 ^ d) 1) 1) (Bit m d)
unfolding Bit
has_decides m d = rw shr_and_one (Decides-eqb (bit_at m d) 1)

-- `1 << d` beside what the set has
pub with_one : (before : DeviceSet) (d : ℕ) → d < 64 → With before (record { bits = bit_or before.bits ((1 * 2 ^ d) % 2 ^ 64) }) d
unfolding Bit
with_one before d small =
    record {
      more = λ e h. elim (cases_eq e d) [ inl same ↦ inr same | inr ne ↦ inl (sym (bit_at_set_other w64 before.bits d small e ne) ∙ h) ];
      keeps = λ e h. elim (cases_eq e d) [ inl same ↦ rw same (bit_at_set_same w64 before.bits d small) | inr ne ↦ bit_at_set_other w64 before.bits d small e ne ∙ h ];
      has = bit_at_set_same w64 before.bits d small;
    }

pub within_when : (a b : ℕ) → a < 2 ^ 64 → MatchBool (eqb (bit_and a b) a) ((e : ℕ) → Bit a e → Bit b e) ((e : ℕ) × (e < 64) × Bit a e × (Bit b e → ⊥))
within_when a b small = go (eqb (bit_and a b) a) refl
  where
    go : (r : Bool) → eqb (bit_and a b) a ≡ r → MatchBool r ((e : ℕ) → Bit a e → Bit b e) ((e : ℕ) × (e < 64) × Bit a e × (Bit b e → ⊥))
    go true q = and_within a b (eqb-true _ _ q)
    go false q = outside 64 a b small (eqb-false _ _ q)
