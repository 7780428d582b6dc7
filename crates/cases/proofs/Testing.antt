-- The rules of a board file as tests that execute, each with the rule that it decides.
use Rattle.std.proofs.Common.{◌≡◌, ℕ, ◌+◌, ◌*◌, ◌<◌, Bool, true, false, not, ◌&&◌, ◌||◌, eqb, ltb, leb, ◌⊎◌, List, length, get_or, codes, Decides, ◌∙◌, subst, inl, inr, zero-add, arith}
use Rattle.std.specs.List.{between, prefix_len, range_with_len}
use Rattle.std.specs.Str.{bytes_eq}
use Rattle.std.proofs.lemmas.Slice.Eq.{bytes_eq-Decides}
use Rattle.std.proofs.lemmas.Bool.Decides.{nat_tests, Decides-eqb, Decides-and, Decides-not, Decides-like, not_from_Decides}
use Rattle.std.proofs.lemmas.Bool.{cases_lt}
use Rattle.std.proofs.lemmas.List.FromFn.{length-range_with_len, get_or-range_with_len}
use Rattle.std.proofs.lemmas.List.Sums.{prefix_len-le-length, prefix_len_passes, prefix_len_stops}
use Rattle.order.specs.Rule.{all_below}
use Rattle.order.proofs.Executes.{all_decides}
use Rattle.board.specs.Records.{named}
use Rattle.board.proofs.Names.{named_decides}
use Rattle.boardfile.specs.Limits.{least_bytes, most_bytes, most_devices, most_links}
use Rattle.boardfile.specs.Layout.{byte, trailer, edition, device_count, link_count, device_distance, link_distance, device_table, link_table, device_place, name_field, parent_byte, link_record, consumer, supplier}
use Rattle.boardfile.specs.Rules.{Sized, Marked, Counted, Tabled, RightDevice, RightLink, FirstWrong}

-- ---- length and trailer

module _ (bs : List ℕ) where
  abbrev pub sized : Bool
  sized = leb least_bytes (length bs) && leb (length bs) most_bytes

  pub sized_decides : Decides sized (Sized bs)
  sized_decides = grind (arith, nat_tests)

  abbrev pub marked : Bool
  marked = bytes_eq (between (trailer bs) (trailer bs + 4) bs) (codes "SLPB") && eqb (edition bs) 1

  pub marked_decides : Decides marked (Marked bs)
  marked_decides =
      let mark = bytes_eq-Decides (between (trailer bs) (trailer bs + 4) bs) (codes "SLPB") in
      grind (arith, nat_tests, mark)

  abbrev pub counted : Bool
  counted =
      leb 1 (device_count bs) && (leb (device_count bs) most_devices && (leb (link_count bs) most_links && (eqb (byte bs (trailer bs + 10)) 0 && eqb (byte bs (trailer bs + 11)) 0)))

  pub counted_decides : Decides counted (Counted bs)
  counted_decides = grind (arith, nat_tests)

  abbrev pub tabled : Bool
  tabled =
      leb (16 * device_count bs) (device_distance bs) && (leb (device_distance bs) (trailer bs) && (leb (4 * link_count bs) (link_distance bs) && (leb (link_distance bs) (trailer bs)
      && (not (ltb 0 (link_count bs)) || (leb (device_table bs + 16 * device_count bs) (link_table bs) || leb (link_table bs + 4 * link_count bs) (device_table bs))))))

  pub tabled_decides : Decides tabled (Tabled bs)
  tabled_decides = grind (arith, nat_tests)

-- ---- records

-- the first of the numbers below n that fails, or n
abbrev pub first_failing : ℕ → (ℕ → Bool) → ℕ
first_failing n test = prefix_len test (range_with_len 0 n)

module _ (test : ℕ → Bool) (Right : ℕ → Type 0) (each : (i : ℕ) → Decides (test i) (Right i)) (n : ℕ) where
  failing_wrong : (((i : ℕ) → i < n → Right i) → ⊥) → FirstWrong Right n (first_failing n test)
  failing_wrong some =
      let k = first_failing n test in
      let all = range_with_len 0 n in
      let most = prefix_len-le-length test all in
      let long = length-range_with_len 0 n in
      let at : (i : ℕ) → i < n → get_or all i 0 ≡ i = λ i l. get_or-range_with_len 0 n i 0 l ∙ zero-add i in
      let before : (i : ℕ) → i < k → Right i = λ i l. (each i).0 (subst (λ x. test x ≡ true) (at i (omega arith)) (prefix_len_passes test all i 0 l)) in
      let inside : k < n = elim (cases_lt k n) [ inl l ↦ l | inr l ↦ absurd (some (λ i h. before i (omega arith))) ] in
      let stops : test k ≡ false = subst (λ x. test x ≡ false) (at k inside) (prefix_len_stops test all 0 (omega arith)) in
      record { inside = inside; wrong = not_from_Decides _ (each k) stops; before = before }

  pub judged : Decides (all_below n test) ((i : ℕ) → i < n → Right i) × ((((i : ℕ) → i < n → Right i) → ⊥) → FirstWrong Right n (first_failing n test))
  judged = (all_decides test Right each n, failing_wrong)

module _ (bs : List ℕ) where
  abbrev parented : ℕ → Bool
  parented i = eqb (parent_byte bs i) 255 || (ltb (parent_byte bs i) (device_count bs) && not (eqb (parent_byte bs i) i))

  parented_decides : (i : ℕ) → Decides (parented i) ((parent_byte bs i ≡ 255) ⊎ ((parent_byte bs i < device_count bs) × (parent_byte bs i ≡ i → ⊥)))
  parented_decides i = grind (arith, nat_tests)

  abbrev new : ℕ → Bool
  new i = all_below i (λ j. not (bytes_eq (name_field bs j) (name_field bs i)))

  new_decides : (i : ℕ) → Decides (new i) ((j : ℕ) → j < i → name_field bs j ≡ name_field bs i → ⊥)
  new_decides i = all_decides _ _ (λ j. Decides-not _ (bytes_eq-Decides (name_field bs j) (name_field bs i))) i

  abbrev pub device : ℕ → Bool
  device i =
      named (name_field bs i) && (new i && (parented i && (eqb (byte bs (device_place bs i + 9)) 0 && (eqb (byte bs (device_place bs i + 10)) 0 && eqb (byte bs (device_place bs i + 11)) 0))))

  pub device_decides : (i : ℕ) → Decides (device i) (RightDevice bs i)
  device_decides i =
      Decides-like _
      (λ t. record { named = t.0; new = t.1.0; parent = t.1.1.0; zero_9 = t.1.1.1.0; zero_10 = t.1.1.1.1.0; zero_11 = t.1.1.1.1.1 })
      (λ r. (r.named, (r.new, (r.parent, (r.zero_9, (r.zero_10, r.zero_11))))))
      (Decides-and _ _ (named_decides (name_field bs i)) (Decides-and _ _ (new_decides i) (Decides-and _ _ (parented_decides i)
      (Decides-and _ _ (Decides-eqb _ 0) (Decides-and _ _ (Decides-eqb _ 0) (Decides-eqb _ 0))))))

  abbrev pub link : ℕ → Bool
  link j =
      ltb (consumer bs j) (device_count bs) && (ltb (supplier bs j) (device_count bs) && (not (eqb (consumer bs j) (supplier bs j)) && (eqb (byte (link_record bs j) 2) 0 && eqb (byte (link_record bs j) 3) 0)))

  pub link_decides : (j : ℕ) → Decides (link j) (RightLink bs j)
  link_decides j = grind (arith, nat_tests)
