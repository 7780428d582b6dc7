-- The way down and the way back up, as the journal has them.
use Rattle.std.proofs.Common.{◌≡◌, ◌≢◌, ℕ, true, false, zero, suc, ◌+◌, ◌-◌, ◌≤◌, List, [], ◌∷◌, ◌++◌, length, refl, ap, sym, subst, ◌∙◌, ⊎_elim, arith}
use Rattle.std.specs.Prelude.{ℤ, pos, neg_ℤ, reverse, Some, None, Ok, Err, Result, ◌==◌}
use Rattle.std.proofs.lemmas.Bool.{both_ways, cases_Bool, cond-false, cond_both, eqb-false}
use Rattle.std.proofs.lemmas.List.{append_cancel_right, append-nil, append_assoc, reverse-append, reverse-reverse}
use Rattle.order.specs.Orders.{Permutes}
use Rattle.bank.specs.Meaning.{Device, level, word, hindrance}
use Rattle.bank.specs.Laws.{Kind, Laws}
use Rattle.history.specs.declared.answer.Answer.{Answer}
use Rattle.history.specs.declared.answer.Answer.TheVariants.{Opened, Stepped, Heard, Closed, Written, Seen}
use Rattle.history.specs.declared.answer.StepAnswer.TheVariants.{Lowered, Raised, Hindered}
use Rattle.history.specs.declared.answer.AlarmAnswer.TheVariants.{Ignored, Kept}
use Rattle.history.specs.declared.call.Call.{Call}
use Rattle.history.specs.declared.call.Call.TheVariants.{Open, Step, Alarm, Close, Put, Look}
use Rattle.history.specs.declared.entry.Entry.{Entry}
use Rattle.history.specs.declared.entry.Direction.{Direction}
use Rattle.history.specs.declared.entry.Direction.TheVariants.{Down, Up}
use Rattle.history.specs.declared.fault.EngineFault.{EngineFault}
use Rattle.history.specs.declared.phase.Phase.{Phase}
use Rattle.history.specs.declared.standing.Standing.{Standing}
use Rattle.history.specs.declared.standing.Standing.TheVariants.{Awake, GoingDown, Asleep, ComingUp, Landed}
use Rattle.history.specs.Schedule.{phase, device_of, level_sum}
use Rattle.history.specs.Attempts.{History, at, goes_on, under_way, next_device, stage_of}
use Rattle.history.specs.Rules.{State, shown, said, next, alarm_answer, answer_to, put_answer, recorded, entry, entries_up}
use Rattle.history.specs.Law.{answer_after, lowerings, is_lowering, LedTo, FitsCall}
use Rattle.history.specs.Journals.{if_taken, way}
use Rattle.history.proofs.Refusals.{by_device}
use Rattle.history.proofs.Transitions.{sum_after}
use Rattle.history.proofs.Effects.{Effect, lowers, raises, closes, puts, rests, alters, effect, idle}
use Rattle.history.proofs.Facts.{Facts, facts, is_awake, none_lowered, tells_at, count_more, sum_later}

-- ---- ways of longer journals

taken_more : (d e : Direction) (code : ℤ) (turn : ℕ × Phase) (xs ys : List (ℕ × Phase)) → if_taken d e code turn (xs ++ ys) ≡ if_taken d e code turn xs ++ ys
taken_more Down Down (pos zero) turn xs ys = refl
taken_more Up Up (pos zero) turn xs ys = refl
taken_more d e code turn xs ys = refl

pub way_more : (d : Direction) (xs ys : List Entry) → way d (xs ++ ys) ≡ way d xs ++ way d ys
way_more d [] ys = refl
way_more d (e ∷ xs) ys =
    ap (if_taken d e.direction e.code (e.device, e.phase)) (way_more d xs ys) ∙ taken_more d e.direction e.code (e.device, e.phase) (way d xs) (way d ys)

module _ (order : List ℕ) where
  -- device and phase of lowering j
  abbrev pub turn_of : ℕ → ℕ × Phase
  turn_of j = (device_of order j, phase (length order) j)

  -- the way back from j lowerings
  abbrev pub back : ℕ → List (ℕ × Phase)
  back zero = []
  back (suc j) = turn_of j ∷ back j

  -- what a close notes
  pub way_up : (k : ℕ) → way Up (entries_up order k) ≡ back k
  way_up zero = refl
  way_up (suc k) = ap (λ (l : List (ℕ × Phase)). turn_of k ∷ l) (way_up k)

  pub way_none : (k : ℕ) → way Down (entries_up order k) ≡ []
  way_none zero = refl
  way_none (suc k) = way_none k

  -- a lowering that is hindered is on neither way
  unused : (d : Direction) (j h : ℕ) → h ≢ 0 → way d (entry order Down j (neg_ℤ (pos h)) ∷ []) ≡ []
  unused d j zero n = absurd (n refl)
  unused Down j (suc h) n = refl
  unused Up j (suc h) n = refl

  module _ (now : List Device) where
    -- what holds of each answer that it may give holds of its answer: a step that goes down with no alarm kept, and a call that names a device
    by_step : (P : Result Answer EngineFault → Type 0) → P (Ok (Stepped Lowered))
        → (hindrance now (next_device order now) ≢ 0 → P (Ok (Stepped Hindered))) → P (answer_to order (GoingDown None) Step now)
    by_step P p q =
        cond_both (hindrance now (next_device order now) == 0) (Stepped Lowered) (Stepped Hindered) (λ (a : Answer). P (Ok a))
        (λ e. p) (λ e. q (eqb-false _ 0 e))

    by_alarm : (P : Result Answer EngineFault → Type 0) (d : ℕ) (st : Standing) → P (Ok (Heard Kept)) → P (Ok (Heard Ignored))
        → ((fault : EngineFault) → P (Err fault)) → P (answer_to order st (Alarm d) now)
    by_alarm P d st kept ignored fails = by_device order now d (alarm_answer order st) P (λ l. heard st) (λ l. fails _)
      where
        heard : (st : Standing) → P (alarm_answer order st)
        heard Awake = fails _
        heard (GoingDown None) = kept
        heard (GoingDown (Some d)) = ignored
        heard Asleep = kept
        heard (ComingUp end) = ignored
        heard (Landed end) = ignored

    by_put : (P : Result Answer EngineFault → Type 0) (d w : ℕ) (st : Standing) → P (Ok Written) → ((fault : EngineFault) → P (Err fault))
        → P (answer_to order st (Put d w) now)
    by_put P d w st written fails = by_device order now d (put_answer order st) P (λ l. wrote st) (λ l. fails _)
      where
        wrote : (st : Standing) → P (put_answer order st)
        wrote Awake = written
        wrote st = fails _

    by_look : (P : Result Answer EngineFault → Type 0) (d : ℕ) (st : Standing) → P (Ok (Seen (level now d) (word now d) (hindrance now d)))
        → ((fault : EngineFault) → P (Err fault)) → P (answer_to order st (Look d) now)
    by_look P d st seen fails = by_device order now d _ P (λ l. seen) (λ l. fails _)

    -- a hindered step is one of an attempt that goes down with no alarm kept
    pub hindering : (call : Call) (st : Standing) → answer_to order st call now ≡ Ok (Stepped Hindered)
        → (st ≡ GoingDown None) × (hindrance now (next_device order now) ≢ 0)
    hindering Step (GoingDown None) e =
        by_step (λ (a : Result Answer EngineFault). a ≡ Ok (Stepped Hindered) → (GoingDown None ≡ GoingDown None) × (hindrance now (next_device order now) ≢ 0))
        (λ q. absurd (cc)) (λ n q. (refl, n)) e
    hindering (Alarm d) st e = absurd (by_alarm (λ (a : Result Answer EngineFault). a ≡ Ok (Stepped Hindered) → ⊥) d st (λ q. cc) (λ q. cc) (λ f q. cc) e)
    hindering (Put d w) st e = absurd (by_put (λ (a : Result Answer EngineFault). a ≡ Ok (Stepped Hindered) → ⊥) d w st (λ q. cc) (λ f q. cc) e)
    hindering (Look d) st e = absurd (by_look (λ (a : Result Answer EngineFault). a ≡ Ok (Stepped Hindered) → ⊥) d st (λ q. cc) (λ f q. cc) e)
    hindering Open Awake e = absurd (cc)
    hindering Close Awake e = absurd (cc)
    hindering call st e = absurd (cc)

    -- nothing is opened but from awake
    opening_awake : (call : Call) (st : Standing) → answer_to order st call now ≡ Ok Opened → st ≡ Awake
    opening_awake Open Awake e = refl
    opening_awake Step (GoingDown None) e =
        absurd (by_step (λ (a : Result Answer EngineFault). a ≡ Ok Opened → ⊥) (λ q. cc) (λ n q. cc) e)
    opening_awake (Alarm d) st e = absurd (by_alarm (λ (a : Result Answer EngineFault). a ≡ Ok Opened → ⊥) d st (λ q. cc) (λ q. cc) (λ f q. cc) e)
    opening_awake (Put d w) st e = absurd (by_put (λ (a : Result Answer EngineFault). a ≡ Ok Opened → ⊥) d w st (λ q. cc) (λ f q. cc) e)
    opening_awake (Look d) st e = absurd (by_look (λ (a : Result Answer EngineFault). a ≡ Ok Opened → ⊥) d st (λ q. cc) (λ f q. cc) e)
    opening_awake Close Awake e = absurd (cc)
    opening_awake call st e = absurd (cc)

    -- an alarm, a put or a look notes nothing
    pub unnoted : (call : Call) (st : Standing) (journal : List Entry) → call ≢ Open → call ≢ Step → call ≢ Close
        → recorded order (answer_to order st call now) now journal ≡ journal
    unnoted Open st journal a b c = absurd (a refl)
    unnoted Step st journal a b c = absurd (b refl)
    unnoted (Alarm d) st journal a b c = by_alarm (λ (x : Result Answer EngineFault). recorded order x now journal ≡ journal) d st refl refl (λ f. refl)
    unnoted Close st journal a b c = absurd (c refl)
    unnoted (Put d w) st journal a b c = by_put (λ (x : Result Answer EngineFault). recorded order x now journal ≡ journal) d w st refl (λ f. refl)
    unnoted (Look d) st journal a b c = by_look (λ (x : Result Answer EngineFault). recorded order x now journal ≡ journal) d st refl (λ f. refl)

    -- a call that leaves the bank as it is
    rests_way : (d : Direction) (journal : List Entry) (a : Result Answer EngineFault) → alters a ≡ false → a ≢ Ok Opened
        → (a ≡ Ok (Stepped Hindered) → hindrance now (next_device order now) ≢ 0) → way d (recorded order a now journal) ≡ way d journal
    rests_way d journal (Ok Opened) i n t = absurd (n refl)
    rests_way d journal (Ok (Stepped Lowered)) i n t = absurd (cc)
    rests_way d journal (Ok (Stepped Raised)) i n t = absurd (cc)
    rests_way d journal (Ok (Stepped Hindered)) i n t =
        way_more d journal _ ∙ ap (λ (l : List (ℕ × Phase)). way d journal ++ l) (unused d (level_sum now) _ (t refl)) ∙ append-nil _
    rests_way d journal (Ok (Closed end)) i n t = absurd (cc)
    rests_way d journal a i n t = refl

-- the journal and the levels, after so many lowerings: those that stand are the ones of the way down that are not yet on the way back
pub record Mirrors (order : List ℕ) (journal : List Entry) (k taken : ℕ) : Type 0 where
  pub down : way Down journal ≡ reverse (back order taken)
  pub up : way Up journal ++ back order k ≡ back order taken

module _ (order : List ℕ) (journal : List Entry) where
  -- a lowering: while the attempt goes down, nothing is on the way back
  mirrors_lower : (k taken : ℕ) → taken ≡ k → Mirrors order journal k taken → Mirrors order (journal ++ entry order Down k (pos 0) ∷ []) (suc k) (suc taken)
  mirrors_lower k taken e m =
      let none : way Up journal ≡ [] = append_cancel_right (way Up journal) [] (back order k) (m.up ∙ ap (back order) e) in
      record {
        down = way_more Down journal (entry order Down k (pos 0) ∷ [])
            ∙ ap (λ (l : List (ℕ × Phase)). l ++ turn_of order k ∷ []) (m.down ∙ ap (λ (j : ℕ). reverse (back order j)) e)
            ∙ sym (reverse-append (turn_of order k ∷ []) (back order k))
            ∙ ap (λ (j : ℕ). reverse (back order (suc j))) (sym e);
        up = ap (λ (l : List (ℕ × Phase)). l ++ back order (suc k)) (way_more Up journal (entry order Down k (pos 0) ∷ []) ∙ append-nil _ ∙ none)
            ∙ ap (λ (j : ℕ). back order (suc j)) (sym e);
      }

  -- a raising takes the last lowering off
  mirrors_raise : (j taken : ℕ) → Mirrors order journal (suc j) taken → Mirrors order (journal ++ entry order Up j (pos 0) ∷ []) j taken
  mirrors_raise j taken m =
      record {
        down = way_more Down journal (entry order Up j (pos 0) ∷ []) ∙ append-nil _ ∙ m.down;
        up = ap (λ (l : List (ℕ × Phase)). l ++ back order j) (way_more Up journal (entry order Up j (pos 0) ∷ []))
            ∙ append_assoc (way Up journal) (turn_of order j ∷ []) (back order j)
            ∙ m.up;
      }

  -- a call that notes nothing on either way
  mirrors_same : (later : List Entry) (k taken : ℕ) → ((d : Direction) → way d later ≡ way d journal)
      → Mirrors order journal k taken → Mirrors order later k taken
  mirrors_same later k taken e m = record { down = e Down ∙ m.down; up = ap (λ (l : List (ℕ × Phase)). l ++ back order k) (e Up) ∙ m.up }

  -- a close goes the rest of the way back
  pub mirrors_close : (k taken : ℕ) → Mirrors order journal k taken
      → way Up (journal ++ entries_up order k) ≡ reverse (way Down (journal ++ entries_up order k))
  mirrors_close k taken m =
      let down : way Down (journal ++ entries_up order k) ≡ reverse (back order taken) =
      way_more Down journal (entries_up order k) ∙ ap (λ (l : List (ℕ × Phase)). way Down journal ++ l) (way_none order k) ∙ append-nil _ ∙ m.down in
      way_more Up journal (entries_up order k) ∙ ap (λ (l : List (ℕ × Phase)). way Up journal ++ l) (way_up order k)
      ∙ m.up ∙ sym (reverse-reverse (back order taken)) ∙ ap reverse (sym down)

mirrors_at : (order : List ℕ) (later journal : List Entry) (k i taken t : ℕ) → later ≡ journal → k ≡ i → taken ≡ t
    → Mirrors order journal i t → Mirrors order later k taken
mirrors_at order later journal k i taken t e f g m =
    record {
      down = ap (way Down) e ∙ m.down ∙ ap (λ (j : ℕ). reverse (back order j)) (sym g);
      up = ap (λ (l : List Entry). way Up l ++ back order k) e ∙ ap (λ (j : ℕ). way Up journal ++ back order j) f ∙ m.up ∙ ap (back order) (sym g);
    }

module _ {M : Type 0} {limit : ℕ} (kind : Kind M) (laws : Laws limit kind) (order : List ℕ)
    (permutes : Permutes (length order) order) (some : 1 ≤ length order) where
  -- the way down and the way back in the journal of an engine, after the history h
  abbrev pub MirrorsAt : History → State M → Type 0
  MirrorsAt h s = Mirrors order s.journal (level_sum (shown kind order s)) (lowerings order h)

  module _ (h : History) (s : State M) (f : Facts kind laws order permutes some h s) (call : Call) (fits : FitsCall call) where
    abbrev now : List Device
    now = shown kind order s

    abbrev answer : Result Answer EngineFault
    answer = said kind order s call

    abbrev later : State M
    later = next kind order s call

    abbrev longer : History
    longer = at call now ∷ h

    sums : level_sum (shown kind order later) ≡ sum_after answer (level_sum now)
    sums = sum_later kind laws order permutes some h s f call fits

    -- just opened
    mirrors_opened : under_way h ≡ false → under_way longer ≡ true → MirrorsAt longer later
    mirrors_opened n u =
        let st : s.standing ≡ Awake = is_awake kind laws order permutes some h s f n in
        let c : call ≡ Open = just_opened call n u in
        let e : answer ≡ Ok Opened = ap (λ (x : Call). answer_to order s.standing x now) c ∙ ap (λ (x : Standing). answer_to order x Open now) st in
        let z : level_sum (shown kind order later) ≡ 0 =
        sums ∙ ap (λ (a : Result Answer EngineFault). sum_after a (level_sum now)) e ∙ none_lowered kind laws order permutes some h s f st in
        let empty : Mirrors order [] 0 0 = record { down = refl; up = refl } in
        mirrors_at order (recorded order answer now s.journal) [] _ 0 _ 0 (ap (λ (a : Result Answer EngineFault). recorded order a now s.journal) e) z
        (cond-false (under_way h) (is_lowering (answer_after order h call now) + lowerings order h) 0 n) empty
      where
        just_opened : (x : Call) → under_way h ≡ false → goes_on x (under_way h) ≡ true → x ≡ Open
        just_opened Open n g = refl
        just_opened x n g = absurd (cc g)

    module _ (w : under_way h ≡ true) (m : MirrorsAt h s) where
      not_awake : s.standing ≢ Awake
      not_awake e = both_ways _ (tells_at kind laws order permutes some h s f Awake e) w

      arrive : (a : Result Answer EngineFault) (k taken : ℕ) → answer ≡ a → sum_after a (level_sum now) ≡ k → is_lowering a + lowerings order h ≡ taken
          → Mirrors order (recorded order a now s.journal) k taken → MirrorsAt longer later
      arrive a k taken e i j x =
          let is : level_sum (shown kind order later) ≡ k = sums ∙ ap (λ (r : Result Answer EngineFault). sum_after r (level_sum now)) e ∙ i in
          let more : lowerings order longer ≡ taken =
          count_more kind laws order permutes some h s f call fits w ∙ ap (λ (r : Result Answer EngineFault). is_lowering r + lowerings order h) e ∙ j in
          mirrors_at order (recorded order answer now s.journal) (recorded order a now s.journal) _ k _ taken
          (ap (λ (r : Result Answer EngineFault). recorded order r now s.journal) e) is more x

      -- an attempt under way that goes on
      mirrors_on : goes_on call true ≡ true → Effect order now call s.standing answer → MirrorsAt longer later
      mirrors_on g (lowers c st z e) =
          let i : level_sum now ≡ lowerings order h = f.lowered (ap stage_of st) in
          arrive (Ok (Stepped Lowered)) (suc (level_sum now)) (suc (lowerings order h)) e refl (omega arith)
          (mirrors_lower order s.journal (level_sum now) (lowerings order h) (sym i) m)
      mirrors_on g (raises end c st e) =
          let t = tells_at kind laws order permutes some h s f (ComingUp end) st in
          let j : ℕ = level_sum now - 1 in
          let k : level_sum now ≡ suc j = omega (arith, t.2) in
          arrive (Ok (Stepped Raised)) j (lowerings order h) e refl (omega arith)
          (mirrors_raise order s.journal j (lowerings order h) (subst (λ (k : ℕ). Mirrors order s.journal k (lowerings order h)) k m))
      mirrors_on g (closes end c n e) = absurd (cc (g, ap (λ (x : Call). goes_on x true) c))
      mirrors_on g (puts d w c st l e) = absurd (not_awake st)
      mirrors_on g (rests e) =
          let i = idle answer e (level_sum now) in
          arrive answer (level_sum now) (lowerings order h) refl i.0 (omega (arith, i.1))
          (mirrors_same order s.journal _ (level_sum now) (lowerings order h)
          (λ d. rests_way order now d s.journal answer e
          (λ o. not_awake (opening_awake order now call s.standing o)) (λ t. (hindering order now call s.standing t).1)) m)

    mirrors_next : (under_way h ≡ true → MirrorsAt h s) → under_way longer ≡ true → MirrorsAt longer later
    mirrors_next m u =
        ⊎_elim (λ w. mirrors_on w (m w) (ap (goes_on call) (sym w) ∙ u) (effect order now call s.standing)) (λ n. mirrors_opened n u) (cases_Bool (under_way h))

  -- it is so after every history whose attempt is under way
  pub mirrors : (h : History) (s : State M) → LedTo kind order h s → under_way h ≡ true → MirrorsAt h s
  mirrors [] s led u = absurd (both_ways false refl u)
  mirrors (m ∷ h) s (sound, fits, (before, led, same, is)) u =
      let now : List Device = shown kind order before in
      let f : Facts kind laws order permutes some h before = facts kind laws order permutes some h before led in
      let n : under_way (at m.call now ∷ h) ≡ true → MirrorsAt (at m.call now ∷ h) (next kind order before m.call) =
      mirrors_next h before f m.call fits (mirrors h before led) in
      subst (λ (x : State M). MirrorsAt (m ∷ h) x) (sym is)
      (subst (λ (now : List Device). MirrorsAt (at m.call now ∷ h) (next kind order before m.call)) (sym same) (n u))
