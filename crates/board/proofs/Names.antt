-- Names and device records as tests that execute.
use Rattle.std.proofs.Common.{◌≡◌, ℕ, ◌<◌, ◌≤◌, Bool, false, leb, ◌⊎◌, List, length, get_or, Decides, refl, arith}
use Rattle.std.proofs.lemmas.Bool.Decides.{nat_tests, Decides-below_and, Decides-and, Decides-like}
use Rattle.std.proofs.lemmas.List.Sums.{prefix_len-le-length}
use Rattle.order.specs.Rule.{all_below}
use Rattle.boardfile.specs.Rules.{Named, Letter, Digit, name_size, not_zero}
use Rattle.board.specs.Records.{within, right_byte, named}

pub leb_decides : (a b : ℕ) → Decides (leb a b) (a ≤ b)
leb_decides a b = grind (arith, nat_tests)

within_decides : (low high b : ℕ) → Decides (within low high b) ((low ≤ b) × (b ≤ high))
within_decides low high b = grind (arith, nat_tests)

pub no_from_decides : {P : Type 0} (r : Bool) → Decides r P → (P → ⊥) → r ≡ false
no_from_decides r decides none = grind arith

module _ (field : List ℕ) where
  -- what is asked of each byte
  abbrev RightByte : ℕ → Type 0
  RightByte k = (k < name_size field → Letter (get_or field k 0) ⊎ Digit (get_or field k 0)) × (name_size field ≤ k → get_or field k 0 ≡ 0)

  byte_decides : (k : ℕ) → Decides (right_byte field k) (RightByte k)
  byte_decides k = grind (arith, nat_tests)

  pub named_decides : Decides (named field) (Named field)
  named_decides =
      let size = prefix_len-le-length not_zero field in
      let each = Decides-below_and (right_byte field) RightByte (λ n. all_below n (right_byte field)) byte_decides refl (λ _. refl) (length field) in
      Decides-like _
      (λ p. record { letter = p.0; plain = grind arith; padded = grind arith })
      (λ named. (named.letter, (size, (λ k inside. (named.plain k, (λ l. named.padded k l inside))))))
      (Decides-and _ _ (within_decides 97 122 (get_or field 0 0)) (Decides-and _ _ (leb_decides (name_size field) (length field)) each))
