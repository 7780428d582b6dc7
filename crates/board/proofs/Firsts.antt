-- The first record that is wrong, as it is found.
use Rattle.std.proofs.Common.{◌≡◌, ℕ, ◌<◌, ◌≤◌, Some, None, Option, MatchOption, arith}
use Rattle.boardfile.specs.Rules.{FirstWrong}

-- the test also asks that there is such a record, and goes over all m = n of them
pub first_wrong : (Right : ℕ → Type 0) (n m : ℕ) → m ≡ n → (r : Option ℕ)
    → MatchOption r ((k : ℕ) → 0 ≤ k → k < m → (k < n) × Right k) (λ i. (0 ≤ i) × (i < m) × ((i < n) × Right i → ⊥) × ((k : ℕ) → 0 ≤ k → k < i → (k < n) × Right k))
    → MatchOption r ((k : ℕ) → k < n → Right k) (λ i. FirstWrong Right n i)
first_wrong Right n m many None found = grind arith
first_wrong Right n m many (Some i) found = grind arith
