-- The words of an attempt: going down, each lowering pushes a word on the pile of its device; coming up, each raising takes it off.
use Rattle.std.proofs.Common.{◌≡◌, ℕ, true, false, suc, ◌<◌, List, ◌∷◌, length, get_or, set, drop, []}
use Rattle.std.proofs.Common.{Bool, refl, sym, ap, ◌∙◌, subst, ⊎_elim, arith}
use Rattle.std.specs.Prelude.{Some, None, Option, if◌then◌else◌, not, ◌&&◌, ◌||◌, ◌==◌}
use Rattle.std.proofs.lemmas.Bool.{cases_Bool, both_ways, cond-true, cond-false, eq-eqb, ne_eqb}
use Rattle.bank.specs.Meaning.{Device, pile, piles}
use Rattle.history.specs.declared.call.Call.{Call}
use Rattle.history.specs.declared.outcome.Outcome.{Outcome}
use Rattle.history.specs.Schedule.{device_of, level_sum}
use Rattle.history.specs.Attempts.{History, at, under_way, opening, Descent, descent, continued, has_ended, or_else, is_step, all_down, turning}
use Rattle.history.specs.Law.{first_with, if_deep, HoldsFirstWords}
use Rattle.history.proofs.Schedules.{pile_at, count_from_piles}
use Rattle.history.proofs.Stacks.{Stacked, stacked_same, stacked_top, stacked_pop}

-- the piles as they first were when the levels, going down, added up to k
abbrev pub Held : List ℕ → History → List Device → ℕ → List (List ℕ) → Type 0
Held order h now k ps = (first : List Device) × (first_with order k h now ≡ Some first) × (ps ≡ piles first)

-- the words of the attempt under way: a stack, and while the descent lasts no greater sum of levels was reached
pub record Unwinds (order : List ℕ) (h : History) (now : List Device) : Type 0 where
  pub stack : Stacked (device_of order) (Held order h now) (level_sum now) (piles now)
  pub first : first_with order 0 h now ≡ Some (opening h)
  pub none_above : has_ended order (descent order h) now ≡ false → (k : ℕ) → level_sum now < k → first_with order k h now ≡ None

if_deep_at : (k : ℕ) (now : List Device) → level_sum now ≡ k → if_deep k now ≡ Some now
if_deep_at k now e = cond-true (level_sum now == k) (Some now) None (eq-eqb (level_sum now) k e)

if_deep_off : (k : ℕ) (now : List Device) → (level_sum now ≡ k → ⊥) → if_deep k now ≡ None
if_deep_off k now n = cond-false (level_sum now == k) (Some now) None (ne_eqb (level_sum now) k n)

module _ (order : List ℕ) where
  -- every device holds the words that it held first
  pub unwinds_words : (h : History) (now : List Device) → Unwinds order h now → HoldsFirstWords order h now
  unwinds_words h now u = stacked_top (device_of order) (Held order h now) (level_sum now) (piles now) u.stack

  -- just opened
  pub unwinds_open : (h : History) (call : Call) (now : List Device) → under_way h ≡ false → level_sum now ≡ 0 → Unwinds order (at call now ∷ h) now
  unwinds_open h call now u z =
      let opened : (k : ℕ) → first_with order k (at call now ∷ h) now ≡ if_deep k now = λ k. cond-false (under_way h) _ _ u in
      let ground : first_with order 0 (at call now ∷ h) now ≡ Some now = opened 0 ∙ if_deep_at 0 now z in
      record {
        stack = subst (λ (k : ℕ). Stacked (device_of order) (Held order (at call now ∷ h) now) k (piles now)) (sym z) (now, ground, refl);
        first = ground ∙ ap (λ (x : List Device). Some x) (sym (cond-false (under_way h) (opening h) now u));
        none_above = λ d k i. opened k ∙ if_deep_off k now (λ s. omega arith);
      }

  -- ---- one call more

  module _ (h : History) (call : Call) (now later : List Device) (w : under_way h ≡ true) where
    pub descent_more : descent order (at call now ∷ h) ≡ continued order (descent order h) (at call now)
    descent_more = cond-true (under_way h) _ _ w

    -- a descent that has ended, by a step or at sleep, stays so
    ended_stays : has_ended order (descent order h) now ≡ true → has_ended order (descent order (at call now ∷ h)) later ≡ true
    ended_stays d =
        let t = descent order h in
        ap (λ (x : Descent). has_ended order x later) descent_more
        ∙ stays t.turned (if is_step call && not (t.slept || all_down order now) then turning order t.kept now else None)
        (t.slept || all_down order now) (all_down order later) d
      where
        stays : (turned more : Option Outcome) (slept down : Bool) → elim turned [ None ↦ slept | Some outcome ↦ true ] ≡ true
            → elim (or_else turned more) [ None ↦ slept || down | Some outcome ↦ true ] ≡ true
        stays (Some outcome) more slept down h = refl
        stays None (Some outcome) slept down h = refl
        stays None None true down h = refl
        stays None None false down h = absurd (both_ways false refl h)

    pub lasted : has_ended order (descent order (at call now ∷ h)) later ≡ false → has_ended order (descent order h) now ≡ false
    lasted d = ⊎_elim (λ e. absurd (both_ways _ d (ended_stays e))) (λ e. e) (cases_Bool (has_ended order (descent order h) now))

    -- the devices of a sum of levels: the older ones first
    first_more : (k : ℕ) → first_with order k (at call now ∷ h) later
        ≡ or_else (first_with order k h now) (if has_ended order (descent order h) now then None else if_deep k later)
    first_more k = cond-true (under_way h) _ _ w

    first_kept : (k : ℕ) (first : List Device) → first_with order k h now ≡ Some first → first_with order k (at call now ∷ h) later ≡ Some first
    first_kept k first e =
        first_more k ∙ ap (λ (o : Option (List Device)). or_else o (if has_ended order (descent order h) now then None else if_deep k later)) e

    first_new : (k : ℕ) → first_with order k h now ≡ None → has_ended order (descent order h) now ≡ false
        → first_with order k (at call now ∷ h) later ≡ if_deep k later
    first_new k e d =
        first_more k ∙ ap (λ (o : Option (List Device)). or_else o (if has_ended order (descent order h) now then None else if_deep k later)) e
        ∙ cond-false (has_ended order (descent order h) now) None (if_deep k later) d

    module _ (u : Unwinds order h now) where
      first_stays : first_with order 0 (at call now ∷ h) later ≡ Some (opening (at call now ∷ h))
      first_stays = first_kept 0 (opening h) u.first ∙ ap (λ (x : List Device). Some x) (sym (cond-true (under_way h) (opening h) now w))

      none_stays : has_ended order (descent order (at call now ∷ h)) later ≡ false → (k : ℕ) → level_sum now < k → level_sum later < k
          → first_with order k (at call now ∷ h) later ≡ None
      none_stays d k i j = first_new k (u.none_above (lasted d) k i) (lasted d) ∙ if_deep_off k later (λ e. omega arith)

      stack_stays : Stacked (device_of order) (Held order (at call now ∷ h) later) (level_sum now) (piles now)
      stack_stays = stacked_same (device_of order) (Held order h now) (Held order (at call now ∷ h) later)
          (λ j qs (first, is, same). (first, first_kept j first is, same)) (level_sum now) (piles now) u.stack

      -- a lowering, while the descent lasts
      pub unwinds_lower : (word : ℕ) → has_ended order (descent order h) now ≡ false → level_sum later ≡ suc (level_sum now)
          → device_of order (level_sum now) < length now
          → piles later ≡ set (piles now) (device_of order (level_sum now)) (word ∷ pile now (device_of order (level_sum now)))
          → Unwinds order (at call now ∷ h) later
      unwinds_lower word d s i p =
          let turn = device_of order (level_sum now) in
          let on_top : first_with order (suc (level_sum now)) (at call now ∷ h) later ≡ Some later =
          first_new (suc (level_sum now)) (u.none_above d (suc (level_sum now)) (omega arith)) d ∙ if_deep_at (suc (level_sum now)) later s in
          let piled : piles later ≡ set (piles now) turn (word ∷ get_or (piles now) turn []) =
          p ∙ ap (λ (q : List ℕ). set (piles now) turn (word ∷ q)) (pile_at now turn) in
          record {
            stack = subst (λ (k : ℕ). Stacked (device_of order) (Held order (at call now ∷ h) later) k (piles later)) (sym s)
                ((later, on_top, refl), (piles now, word, omega (arith, i, count_from_piles now), piled, stack_stays));
            first = first_stays;
            none_above = λ d' k j. none_stays d' k (omega arith) j;
          }

      -- a raising, once it has ended
      pub unwinds_raise : (j : ℕ) → has_ended order (descent order h) now ≡ true → level_sum now ≡ suc j → level_sum later ≡ j
          → piles later ≡ set (piles now) (device_of order j) (drop 1 (pile now (device_of order j))) → Unwinds order (at call now ∷ h) later
      unwinds_raise j d k l p =
          let taken : piles later ≡ set (piles now) (device_of order j) (drop 1 (get_or (piles now) (device_of order j) [])) =
          p ∙ ap (λ (q : List ℕ). set (piles now) (device_of order j) (drop 1 q)) (pile_at now (device_of order j)) in
          let AtSum = λ (i : ℕ) (ps : List (List ℕ)). Stacked (device_of order) (Held order (at call now ∷ h) later) i ps in
          record {
            stack = subst (λ (i : ℕ). AtSum i (piles later)) (sym l)
                (stacked_pop (device_of order) (Held order (at call now ∷ h) later) j (piles now) (piles later)
                (subst (λ (i : ℕ). AtSum i (piles now)) k stack_stays) taken);
            first = first_stays;
            none_above = λ d'. absurd (both_ways _ d' (ended_stays d));
          }

  -- a call that leaves the words as they are
  pub unwinds_same : (h : History) (call : Call) (now : List Device) → under_way h ≡ true → Unwinds order h now → Unwinds order (at call now ∷ h) now
  unwinds_same h call now w u =
      record { stack = stack_stays h call now now w u; first = first_stays h call now now w u; none_above = λ d k i. none_stays h call now now w u d k i i }
