-- The superiors of a device by rising number, and just they.
use Rattle.std.proofs.Common.{◌≡◌, ℕ, zero, suc, ◌<◌, Bool, true, length, get_or, filter, subst, inl, inr, add-one, arith}
use Rattle.std.specs.List.{range_with_len, Contains}
use Rattle.std.proofs.lemmas.List.Elements.{All-contains, filter_passes, Contains-push, Contains-append_left}
use Rattle.std.proofs.lemmas.List.FromFn.{length-range_with_len, get_or-range_with_len}
use Rattle.std.proofs.lemmas.List.Kept.{AllPairs-filter}
use Rattle.std.proofs.lemmas.Bool.{cases_eq}
use Rattle.order.specs.Answers.{is_superior}
use Rattle.order.proofs.Tables.{is_superior_tests}
use Rattle.board.specs.declared.board.Board.{Board}
use Rattle.listing.specs.Lines.{ByNumber}
use Rattle.listing.proofs.Printed.{passed}

-- what passes is kept
kept : (test : ℕ → Bool) (n s : ℕ) → s < n → test s ≡ true → Contains (filter test (range_with_len 0 n)) s
kept test zero s l passes = absurd (omega arith)
kept test (suc n) s l passes =
    subst (λ m. Contains (filter test (range_with_len 0 m)) s) (add-one n) (rw (passed test n) (elim (cases_eq s n) [
      | inl same ↦ rw (← same, passes) (Contains-push (filter test (range_with_len 0 s)) s)
      | inr other ↦ Contains-append_left _ _ s (kept test n s (omega arith) passes)
    ]))

-- numbers that are counted up rise
counted : (n i j d : ℕ) → i < j → j < length (range_with_len 0 n) → get_or (range_with_len 0 n) i d < get_or (range_with_len 0 n) j d
counted n i j d h l = rw (get_or-range_with_len 0 n i d (omega (arith, length-range_with_len 0 n)), get_or-range_with_len 0 n j d (omega (arith, length-range_with_len 0 n))) (omega arith)

pub by_number : (board : Board) (d : ℕ) → ByNumber board d
by_number board d =
    let table = board.order.superiors in
    let test : ℕ → Bool = λ s. is_superior table s d in
    let all = range_with_len 0 table.count in
    record {
      just_they = λ s. (
        (λ h. (is_superior_tests table s d).0 (All-contains (λ x. test x ≡ true) (filter test all) s (filter_passes test all) h)),
        (λ r. kept test table.count s (table.known s d r).0 ((is_superior_tests table s d).1 r)),
      );
      rising = λ i j. AllPairs-filter (λ x y. x < y) test all (counted table.count) i j 0;
    }
