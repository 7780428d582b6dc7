-- What a bank answers to the lowerings and raisings of the schedule, and stands for afterwards.
use Rattle.std.proofs.Common.{◌≡◌, ◌≢◌, ◌⊎◌, ℕ, true, false, suc, ◌^◌, ◌<◌, length, refl, sym, ap, subst, ◌∙◌, inl, inr, arith}
use Rattle.std.specs.Prelude.{ℤ, Result, if◌then◌else◌}
use Rattle.order.specs.declared.ordering.Order.{Order}
use Rattle.order.specs.Answers.{devices}
use Rattle.bank.specs.declared.fault.BankFault.{BankFault}
use Rattle.bank.specs.Meaning.{hindrance, lower_answer, raise_answer, put_answer, is_lowered, is_raised, is_put}
use Rattle.bank.specs.Laws.{Kind, Laws}
use Rattle.history.specs.Schedule.{device_of, full, level_sum}
use Rattle.history.specs.Attempts.{next_device}
use Rattle.engine.specs.Moving.{Undone, Made, Put}
use Rattle.std.proofs.lemmas.Bool.{cases_eq}
use Rattle.history.specs.Keeping.{Scheduled}
use Rattle.history.proofs.Moves.{raising, Lowering, lowering, putting}
use Rattle.engine.proofs.Orders.{permutes, some_device}

module _ {M : Type 0} {limit : ℕ} (kind : Kind M) (laws : Laws limit kind) (order : Order) where
  pub is_undone : (m after : M) (j x : ℕ) (answer : Result ℤ BankFault) → kind.sound m → Scheduled (devices order) (kind.devices m) → level_sum (kind.devices m) ≡ suc j
      → x ≡ device_of (devices order) j
      → answer ≡ raise_answer (kind.devices m) x → after ≡ (if is_raised (kind.devices m) x then kind.raised m x else m)
      → Undone kind (devices order) m after j answer
  is_undone m after j x answer sound s h e a t =
      let r = raising kind laws (devices order) (permutes order) (some_device order) m j sound s h in
      let taken : is_raised (kind.devices m) x ≡ true = rw e r.taken in
      let raised : after ≡ kind.raised m (device_of (devices order) j) = t ∙ rw taken (ap (kind.raised m) e) in
      record {
        obeyed = a ∙ rw e r.answer;
        raised = raised;
        scheduled = rw raised r.scheduled;
        less = rw raised r.less;
      }

  -- where the levels add up to j, and x is the device of lowering j
  module _ (m after : M) (x : ℕ) (answer : Result ℤ BankFault) (sound : kind.sound m) (s : Scheduled (devices order) (kind.devices m)) (l : level_sum (kind.devices m) < full (devices order)) where
    known : Lowering kind laws (devices order) (permutes order) (some_device order) m
    known = lowering kind laws (devices order) (permutes order) (some_device order) m sound s l

    module _ (e : x ≡ next_device (devices order) (kind.devices m)) (t : after ≡ (if is_lowered (kind.devices m) x then kind.lowered m x else m)) where
      stays : hindrance (kind.devices m) (next_device (devices order) (kind.devices m)) ≢ 0 → after ≡ m
      stays n = let b : is_lowered (kind.devices m) x ≡ false = rw e (known.hindered n) in t ∙ rw b refl

      goes : hindrance (kind.devices m) (next_device (devices order) (kind.devices m)) ≡ 0 → after ≡ kind.lowered m (next_device (devices order) (kind.devices m))
      goes z = let b : is_lowered (kind.devices m) x ≡ true = rw e (known.taken z) in t ∙ rw b (ap (kind.lowered m) e)

      either_way : (hindrance (kind.devices m) (next_device (devices order) (kind.devices m)) ≡ 0) ⊎ (hindrance (kind.devices m) (next_device (devices order) (kind.devices m)) ≢ 0)
          → Scheduled (devices order) (kind.devices after)
      either_way (inl z) = rw (goes z) (known.scheduled z)
      either_way (inr n) = rw (stays n) s

      made_now : answer ≡ lower_answer (kind.devices m) x → Made kind (devices order) m after (level_sum (kind.devices m)) answer
      made_now a =
          record {
            obeyed = a ∙ rw e known.answer;
            scheduled = either_way (cases_eq (hindrance (kind.devices m) (next_device (devices order) (kind.devices m))) 0);
            hindered = stays;
            lowered = goes;
            more = λ z. rw (goes z) (known.more z);
          }

  pub is_made : (m after : M) (j x : ℕ) (answer : Result ℤ BankFault) → kind.sound m → Scheduled (devices order) (kind.devices m) → level_sum (kind.devices m) ≡ j → j < full (devices order)
      → x ≡ device_of (devices order) j
      → answer ≡ lower_answer (kind.devices m) x → after ≡ (if is_lowered (kind.devices m) x then kind.lowered m x else m)
      → Made kind (devices order) m after j answer
  is_made m after j x answer sound s h l e a t =
      subst (λ i. Made kind (devices order) m after i answer) h (made_now m after x answer sound s (omega arith) (e ∙ ap (device_of (devices order)) (sym h)) t a)

  pub is_put_so : (m after : M) (d w : ℕ) (answer : Result (Unit {0}) BankFault) → kind.sound m → Scheduled (devices order) (kind.devices m) → level_sum (kind.devices m) ≡ 0
      → d < length (devices order) → w < 2 ^ 32
      → answer ≡ put_answer (kind.devices m) d → after ≡ (if is_put (kind.devices m) d then kind.written m d w else m)
      → Put kind (devices order) m after d w answer
  is_put_so m after d w answer sound s z h f a t =
      let p = putting kind laws (devices order) (permutes order) (some_device order) m d w sound s z h f in
      let written : after ≡ kind.written m d w = t ∙ rw p.taken refl in
      record {
        obeyed = a ∙ p.answer;
        written = written;
        scheduled = rw written p.scheduled;
        none = rw written p.none;
      }
