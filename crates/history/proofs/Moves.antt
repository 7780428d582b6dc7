-- One lowering, one raising and one put of the schedule, over any kind of bank that keeps the laws.
use Rattle.std.proofs.Common.{◌≡◌, ◌≢◌, ℕ, true, false, zero, suc, ◌-◌, ◌<◌, ◌≤◌, ◌^◌, List, [], length, set, drop, ap, subst, ◌∙◌, arith}
use Rattle.std.specs.Prelude.{pos, neg_ℤ, Ok}
use Rattle.order.specs.Orders.{Permutes}
use Rattle.bank.specs.Meaning.{Device, AreDevices, level, pile, piles, hindrance, deepest}
use Rattle.bank.specs.Meaning.{lower_answer, raise_answer, put_answer, is_lowered, is_raised, is_put}
use Rattle.bank.specs.Laws.{Kind, Laws, LosesWord, HoldsWord}
use Rattle.history.specs.Schedule.{device_of, full, level_sum}
use Rattle.history.specs.Attempts.{next_device}
use Rattle.history.specs.Rules.{all_raised}
use Rattle.history.specs.Law.{OneLower, OneHigher}
use Rattle.history.specs.Keeping.{Scheduled}
use Rattle.history.proofs.Schedules.{pile_at, count_from_piles, next_inside, next_above, last_below}
use Rattle.history.proofs.Schedules.{scheduled_lower, scheduled_raise, scheduled_put, all_running}
use Rattle.history.proofs.Stacks.{Stacked, stacked_pop}

-- ---- when a bank obeys

module _ (devices : List Device) (d : ℕ) (inside : d < length devices) where
  lower_obeyed : level devices d < deepest → lower_answer devices d ≡ Ok (neg_ℤ (pos (hindrance devices d)))
  lower_obeyed h = grind arith

  lower_taken : level devices d < deepest → hindrance devices d ≡ 0 → is_lowered devices d ≡ true
  lower_taken h e = grind arith

  lower_hindered : hindrance devices d ≢ 0 → is_lowered devices d ≡ false
  lower_hindered e = grind arith

  raise_obeyed : 0 < level devices d → raise_answer devices d ≡ Ok (pos 0)
  raise_obeyed h = grind arith

  raise_taken : 0 < level devices d → is_raised devices d ≡ true
  raise_taken h = grind arith

  put_obeyed : level devices d ≡ 0 → put_answer devices d ≡ Ok (tt {0})
  put_obeyed h = grind arith

  put_taken : level devices d ≡ 0 → is_put devices d ≡ true
  put_taken h = grind arith

-- a device has a word
some_word : (limit : ℕ) (devices : List Device) (d : ℕ) → AreDevices limit devices → d < length devices → 1 ≤ length (pile devices d)
some_word limit devices d are h =
    let is = are.words d [] (omega (arith, count_from_piles devices)) in
    rw (pile_at devices d) is.some

module _ {M : Type 0} {limit : ℕ} (kind : Kind M) (laws : Laws limit kind) (order : List ℕ)
    (permutes : Permutes (length order) order) (some : 1 ≤ length order) where
  -- what is known of the next lowering
  pub record Lowering (m : M) : Type 0 where
    pub answer : lower_answer (kind.devices m) (next_device order (kind.devices m))
        ≡ Ok (neg_ℤ (pos (hindrance (kind.devices m) (next_device order (kind.devices m)))))
    pub taken : hindrance (kind.devices m) (next_device order (kind.devices m)) ≡ 0
        → is_lowered (kind.devices m) (next_device order (kind.devices m)) ≡ true
    pub hindered : hindrance (kind.devices m) (next_device order (kind.devices m)) ≢ 0
        → is_lowered (kind.devices m) (next_device order (kind.devices m)) ≡ false
    pub sound : hindrance (kind.devices m) (next_device order (kind.devices m)) ≡ 0 → kind.sound (kind.lowered m (next_device order (kind.devices m)))
    pub scheduled : hindrance (kind.devices m) (next_device order (kind.devices m)) ≡ 0
        → Scheduled order (kind.devices (kind.lowered m (next_device order (kind.devices m))))
    pub more : hindrance (kind.devices m) (next_device order (kind.devices m)) ≡ 0
        → level_sum (kind.devices (kind.lowered m (next_device order (kind.devices m)))) ≡ suc (level_sum (kind.devices m))
    pub one : hindrance (kind.devices m) (next_device order (kind.devices m)) ≡ 0
        → OneLower (next_device order (kind.devices m)) (kind.devices m) (kind.devices (kind.lowered m (next_device order (kind.devices m))))

  pub lowering : (m : M) → kind.sound m → Scheduled order (kind.devices m) → level_sum (kind.devices m) < full order → Lowering m
  lowering m sound s h =
      let x : ℕ = next_device order (kind.devices m) in
      let inside : x < length (kind.devices m) = omega (arith, s.count, next_inside order permutes some (level_sum (kind.devices m)) h) in
      let low : level (kind.devices m) x < deepest = next_above order permutes some (kind.devices m) s h in
      let taken : hindrance (kind.devices m) x ≡ 0 → is_lowered (kind.devices m) x ≡ true = lower_taken (kind.devices m) x inside low in
      let word : 1 ≤ length (pile (kind.devices m) x) = some_word limit (kind.devices m) x (laws.means m sound) inside in
      let goes = λ (e : hindrance (kind.devices m) x ≡ 0).
      scheduled_lower order permutes some (kind.devices m) (kind.devices (kind.lowered m x)) s h word (laws.lowering m x sound (taken e)).1 in
      record {
        answer = lower_obeyed (kind.devices m) x inside low;
        taken = taken;
        hindered = lower_hindered (kind.devices m) x inside;
        sound = λ e. (laws.lowering m x sound (taken e)).0;
        scheduled = λ e. (goes e).0;
        more = λ e. (goes e).1;
        one = λ e. (goes e).2;
      }

  -- what is known of the raising that undoes lowering j
  pub record Raising (m : M) (j : ℕ) : Type 0 where
    pub answer : raise_answer (kind.devices m) (device_of order j) ≡ Ok (pos 0)
    pub taken : is_raised (kind.devices m) (device_of order j) ≡ true
    pub sound : kind.sound (kind.raised m (device_of order j))
    pub scheduled : Scheduled order (kind.devices (kind.raised m (device_of order j)))
    pub less : level_sum (kind.devices (kind.raised m (device_of order j))) ≡ j
    pub one : OneHigher (device_of order j) (kind.devices m) (kind.devices (kind.raised m (device_of order j)))

  pub raising : (m : M) (j : ℕ) → kind.sound m → Scheduled order (kind.devices m) → level_sum (kind.devices m) ≡ suc j → Raising m j
  raising m j sound s h =
      let x : ℕ = device_of order j in
      let e : level_sum (kind.devices m) - 1 ≡ j = omega arith in
      let inside : x < length (kind.devices m) = omega (arith, s.count, next_inside order permutes some j (omega (arith, s.most))) in
      let deep : 0 < level (kind.devices m) x =
      subst (λ i. 0 < level (kind.devices m) (device_of order i)) e (last_below order permutes some (kind.devices m) s (omega arith)) in
      let taken : is_raised (kind.devices m) x ≡ true = raise_taken (kind.devices m) x inside deep in
      let law = laws.raising m x sound taken in
      let goes : Scheduled order (kind.devices (kind.raised m x)) × (suc (level_sum (kind.devices (kind.raised m x))) ≡ level_sum (kind.devices m))
      × OneHigher x (kind.devices m) (kind.devices (kind.raised m x)) =
      subst (λ i. LosesWord (kind.devices m) (device_of order i) (kind.devices (kind.raised m x))
      → Scheduled order (kind.devices (kind.raised m x)) × (suc (level_sum (kind.devices (kind.raised m x))) ≡ level_sum (kind.devices m))
      × OneHigher (device_of order i) (kind.devices m) (kind.devices (kind.raised m x)))
      e (scheduled_raise order permutes some (kind.devices m) (kind.devices (kind.raised m x)) s (omega arith)) law.1 in
      record {
        answer = raise_obeyed (kind.devices m) x inside deep;
        taken = taken;
        sound = law.0;
        scheduled = goes.0;
        less = omega (arith, goes.1);
        one = goes.2;
      }

  -- all raisings, down to level 0, undo all pushes on the piles
  pub all_up : (Held : ℕ → List (List ℕ) → Type 0) (k : ℕ) (m : M) → kind.sound m → Scheduled order (kind.devices m) → level_sum (kind.devices m) ≡ k
      → Stacked (device_of order) Held k (piles (kind.devices m))
      → kind.sound (all_raised kind order k m)
      × Scheduled order (kind.devices (all_raised kind order k m))
      × (level_sum (kind.devices (all_raised kind order k m)) ≡ 0)
      × Held 0 (piles (kind.devices (all_raised kind order k m)))
  all_up Held zero m sound s e t = (sound, s, e, t)
  all_up Held (suc k) m sound s e t =
      let x : ℕ = device_of order k in
      let r : Raising m k = raising m k sound s e in
      all_up Held k (kind.raised m x) r.sound r.scheduled r.less
      (stacked_pop (device_of order) Held k (piles (kind.devices m)) (piles (kind.devices (kind.raised m x))) t
      (r.one.loses ∙ ap (λ (q : List ℕ). set (piles (kind.devices m)) x (drop 1 q)) (pile_at (kind.devices m) x)))

  -- what is known of a put while every device is at level 0
  pub record Putting (m : M) (d w : ℕ) : Type 0 where
    pub answer : put_answer (kind.devices m) d ≡ Ok (tt {0})
    pub taken : is_put (kind.devices m) d ≡ true
    pub sound : kind.sound (kind.written m d w)
    pub holds : HoldsWord (kind.devices m) d w (kind.devices (kind.written m d w))
    pub scheduled : Scheduled order (kind.devices (kind.written m d w))
    pub none : level_sum (kind.devices (kind.written m d w)) ≡ 0

  pub putting : (m : M) (d w : ℕ) → kind.sound m → Scheduled order (kind.devices m) → level_sum (kind.devices m) ≡ 0
      → d < length order → w < 2 ^ 32 → Putting m d w
  putting m d w sound s z h f =
      let inside : d < length (kind.devices m) = omega (arith, s.count) in
      let low : level (kind.devices m) d ≡ 0 = all_running order permutes some (kind.devices m) s z d in
      let taken : is_put (kind.devices m) d ≡ true = put_taken (kind.devices m) d inside low in
      let law = laws.writing m d w sound f taken in
      let goes = scheduled_put order permutes some (kind.devices m) (kind.devices (kind.written m d w)) d w s z h law.1 in
      record {
        answer = put_obeyed (kind.devices m) d inside low;
        taken = taken;
        sound = law.0;
        holds = law.1;
        scheduled = goes.0;
        none = goes.1;
      }
