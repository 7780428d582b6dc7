use Rattle.std.proofs.Common.{◌≡◌, ◌<◌, ◌≤◌, ℕ, All, length, get_or}
use Rattle.bank.specs.Meaning.{greatest_errno}
use Rattle.freebank.proofs.choice.errnos.Given as goal

abbrev pub invariant-loop-place : goal.invariant-loop-place
invariant-loop-place l = record {
  long : length l.errnos ≡ 64;
  fit : All (λ e. e ≤ greatest_errno) l.errnos;
  filled : (k : ℕ) → k < l.place → get_or l.errnos k 0 ≡ get_or l.bytes k 0;
}
