-- Lines that are the same are lines of the same.
use Rattle.std.proofs.Common.{◌≡◌, ◌≢◌, ℕ, ◌<◌, ◌≤◌, ◌^◌, pos, negsuc, inl, inr, cond, eqb, Some, None, Option, List, [], ◌∷◌, ◌++◌, length, get_or, codes, ℤ, unsigned_abs, decimal, refl, sym, ap, ◌∙◌, arith}
use Rattle.std.specs.Int.Signed.{mag}
use Rattle.std.proofs.lemmas.Bool.{cases_order}
use Rattle.std.proofs.lemmas.Fmt.{decimal_injective, signed_decimal_injective}
use Rattle.attempt.specs.Keeping.{IsKnown, device_in}
use Rattle.boardfile.specs.declared.device.Device.{Device}
use Rattle.boardfile.specs.Contents.{TellApart}
use Rattle.boardfile.specs.Rules.{IsMark}
use Rattle.refusal.specs.Lines.{line as refusal_line}
use Rattle.refusal.specs.declared.refusal.Refusal.{Refusal}
use Rattle.history.specs.declared.entry.Direction.{Direction}
use Rattle.history.specs.declared.entry.Direction.TheVariants.{Down, Up}
use Rattle.history.specs.declared.entry.Entry.{Entry}
use Rattle.history.specs.declared.outcome.Outcome.{Outcome}
use Rattle.history.specs.declared.outcome.Outcome.TheVariants.{Slept, Fault, Alarm, Cancelled}
use Rattle.history.specs.declared.phase.Phase.{Phase}
use Rattle.history.specs.declared.phase.Phase.TheVariants.{Prepare, Suspend, Late, Noirq}
use Rattle.history.specs.Numbers.{outcome_values}
use Rattle.lines.specs.declared.report.Report.{Report}
use Rattle.lines.specs.Words.{callback, kind_word, phase_name, phase_word}
use Rattle.lines.specs.Lines.{name_of, name_or_none, entry_line, outcome_line}
use Rattle.lines.specs.Writing.{IsEntry, ReadBack, board_devices}
use Rattle.lines.proofs.Splitting.{Plain, Plain-written, Plain-decimal, same_parts}

-- ---- callbacks

Plain-callback : (direction : Direction) (phase : Phase) → Plain (callback direction phase)
Plain-callback Down Prepare = Plain-written _ refl
Plain-callback Down Suspend = Plain-written _ refl
Plain-callback Down Late = Plain-written _ refl
Plain-callback Down Noirq = Plain-written _ refl
Plain-callback Up Prepare = Plain-written _ refl
Plain-callback Up Suspend = Plain-written _ refl
Plain-callback Up Late = Plain-written _ refl
Plain-callback Up Noirq = Plain-written _ refl

-- the direction of a callback, and the phase, by its letters and its length
abbrev direction_in : List ℕ → Direction
direction_in bytes = cond (eqb (get_or bytes 0 0) 99) Up (cond (eqb (get_or bytes 0 0) 114) Up Down)

abbrev phase_in : List ℕ → Phase
phase_in bytes =
    cond (eqb (length bytes) 6) Suspend (cond (eqb (length bytes) 8) Prepare (cond (eqb (length bytes) 13) Noirq
    (cond (eqb (length bytes) 7) (cond (eqb (get_or bytes 0 0) 112) Prepare Suspend) (cond (eqb (get_or bytes 7 0) 110) Noirq Late))))

callback_read : (direction : Direction) (phase : Phase) → (direction_in (callback direction phase) ≡ direction) × (phase_in (callback direction phase) ≡ phase)
callback_read Down Prepare = (refl, refl)
callback_read Down Suspend = (refl, refl)
callback_read Down Late = (refl, refl)
callback_read Down Noirq = (refl, refl)
callback_read Up Prepare = (refl, refl)
callback_read Up Suspend = (refl, refl)
callback_read Up Late = (refl, refl)
callback_read Up Noirq = (refl, refl)

same_callback : (d e : Direction) (p q : Phase) → callback d p ≡ callback e q → (d ≡ e) × (p ≡ q)
same_callback d e p q is = (
  sym (callback_read d p).0 ∙ ap direction_in is ∙ (callback_read e q).0,
  sym (callback_read d p).1 ∙ ap phase_in is ∙ (callback_read e q).1,
)

-- ---- kinds and phases of outcomes

Plain-kind : (outcome : Outcome) → Plain (kind_word outcome)
Plain-kind (Slept alarm taken) = Plain-written _ refl
Plain-kind (Fault errno device phase taken) = Plain-written _ refl
Plain-kind (Alarm device phase taken) = Plain-written _ refl
Plain-kind (Cancelled phase taken) = Plain-written _ refl

Plain-name : (phase : Phase) → Plain (phase_name phase)
Plain-name Prepare = Plain-written _ refl
Plain-name Suspend = Plain-written _ refl
Plain-name Late = Plain-written _ refl
Plain-name Noirq = Plain-written _ refl

Plain-phase : (outcome : Outcome) → Plain (phase_word outcome)
Plain-phase (Slept alarm taken) = Plain-written _ refl
Plain-phase (Fault errno device phase taken) = Plain-name phase
Plain-phase (Alarm device phase taken) = Plain-name phase
Plain-phase (Cancelled phase taken) = Plain-name phase

abbrev phase_named : List ℕ → Phase
phase_named bytes = cond (eqb (get_or bytes 0 0) 112) Prepare (cond (eqb (get_or bytes 0 0) 115) Suspend (cond (eqb (get_or bytes 0 0) 108) Late Noirq))

name_read : (phase : Phase) → phase_named (phase_name phase) ≡ phase
name_read Prepare = refl
name_read Suspend = refl
name_read Late = refl
name_read Noirq = refl

same_phase : (p q : Phase) → phase_name p ≡ phase_name q → p ≡ q
same_phase p q is = sym (name_read p) ∙ ap phase_named is ∙ name_read q

-- ---- values

abbrev entry_of : ℕ → Phase → Direction → ℤ → Entry
entry_of device phase direction code = record { device = device; phase = phase; direction = direction; code = code }

small : (n : ℕ) → n < 1000 → n < 2 ^ 64
small n less = omega arith

apart : (o p : Outcome) → get_or (kind_word o) 0 0 ≢ get_or (kind_word p) 0 0 → kind_word o ≡ kind_word p → o ≡ p
apart o p differ is = absurd (differ (ap (λ bytes. get_or bytes 0 0) is))

same_values : (o p : Outcome) → kind_word o ≡ kind_word p → (outcome_values o).errno ≡ (outcome_values p).errno → device_in o ≡ device_in p → phase_word o ≡ phase_word p
    → (outcome_values o).taken ≡ (outcome_values p).taken → o ≡ p
same_values (Slept a t) (Slept b u) kind errno device phase taken = cc
same_values (Fault e d p t) (Fault f c q u) kind errno device phase taken = let same = same_phase p q phase in cc
same_values (Alarm d p t) (Alarm c q u) kind errno device phase taken = let same = same_phase p q phase in cc
same_values (Cancelled p t) (Cancelled q u) kind errno device phase taken = let same = same_phase p q phase in cc
same_values o p kind errno device phase taken = apart o p (λ e. absurd (omega (arith, e))) kind

-- ---- codes

mag_room : (code : ℤ) → unsigned_abs code ≤ 2 ^ 15 → mag code < 2 ^ 63
mag_room (pos n) least = omega arith
mag_room (negsuc n) least = omega arith

-- ---- names

space_is_mark : IsMark 32
space_is_mark = record { some = omega arith; no_letter = λ l. omega (arith, l.0); no_digit = λ d. omega (arith, d.0) }

exclamation_is_mark : IsMark 33
exclamation_is_mark = record { some = omega arith; no_letter = λ l. omega (arith, l.0); no_digit = λ d. omega (arith, d.0) }

dash_is_mark : IsMark 45
dash_is_mark = record { some = omega arith; no_letter = λ l. omega (arith, l.0); no_digit = λ d. omega (arith, d.0) }

equals_is_mark : IsMark 61
equals_is_mark = record { some = omega arith; no_letter = λ l. omega (arith, l.0); no_digit = λ d. omega (arith, d.1) }

module _ (devices : List Device) (told : TellApart devices) where
  same_device : (d e : ℕ) → d < length devices → e < length devices → name_of devices d ≡ name_of devices e → d ≡ e
  same_device d e p q is = elim (cases_order d e) [
    | inl same ↦ same
    | inr (inl less) ↦ absurd (told.differ d e less q is)
    | inr (inr more) ↦ absurd (told.differ e d more p (sym is))
  ]

  Plain-device : (d : ℕ) → Plain (name_of devices d)
  Plain-device d = record { plain = λ k. told.markless d k 32 space_is_mark }

  Plain-device_or_none : (device : Option ℕ) → Plain (name_or_none devices device)
  Plain-device_or_none None = Plain-written _ refl
  Plain-device_or_none (Some d) = Plain-device d

  abbrev Among : Option ℕ → Type 0
  Among device = (d : ℕ) → device ≡ Some d → d < length devices

  same_device_or_none : (d e : Option ℕ) → Among d → Among e → name_or_none devices d ≡ name_or_none devices e → d ≡ e
  same_device_or_none None None p q is = refl
  same_device_or_none None (Some e) p q is = absurd (told.markless e 0 45 dash_is_mark (sym (ap (λ bytes. get_or bytes 0 0) is)))
  same_device_or_none (Some d) None p q is = absurd (told.markless d 0 45 dash_is_mark (ap (λ bytes. get_or bytes 0 0) is))
  same_device_or_none (Some d) (Some e) p q is = ap Some (same_device d e (p d refl) (q e refl) is)

  -- ---- entries

  same_entry : (e f : Entry) → IsEntry (length devices) e → IsEntry (length devices) f → entry_line devices e ≡ entry_line devices f → e ≡ f
  same_entry e f p q is =
      let name = same_parts (name_of devices e.device) (name_of devices f.device) _ _ (Plain-device e.device) (Plain-device f.device) is in
      let word = same_parts (callback e.direction e.phase) (callback f.direction f.phase) _ _ (Plain-callback e.direction e.phase) (Plain-callback f.direction f.phase) name.1 in
      let code = signed_decimal_injective e.code f.code (mag_room e.code p.code) (mag_room f.code q.code) word.1 in
      let device = same_device e.device f.device p.device q.device name.0 in
      let called = same_callback e.direction f.direction e.phase f.phase word.0 in
      let same : entry_of e.device e.phase e.direction e.code ≡ entry_of f.device f.phase f.direction f.code = cc in
      same

  -- ---- outcomes

  same_outcome : (o p : Outcome) → IsKnown (length devices) o → IsKnown (length devices) p → outcome_line devices o ≡ outcome_line devices p → o ≡ p
  same_outcome o p known well is =
      let line = same_parts (codes "=") (codes "=") _ _ (Plain-written _ refl) (Plain-written _ refl) is in
      let kind = same_parts (kind_word o) (kind_word p) _ _ (Plain-kind o) (Plain-kind p) line.1 in
      let errno = same_parts (decimal (outcome_values o).errno) (decimal (outcome_values p).errno) _ _ (Plain-decimal _ (small _ known.errno)) (Plain-decimal _ (small _ well.errno)) kind.1 in
      let name = same_parts (name_or_none devices (device_in o)) (name_or_none devices (device_in p)) _ _ (Plain-device_or_none (device_in o)) (Plain-device_or_none (device_in p)) errno.1 in
      let phase = same_parts (phase_word o) (phase_word p) _ _ (Plain-phase o) (Plain-phase p) name.1 in
      same_values o p kind.0 (decimal_injective _ _ (small _ known.errno) (small _ well.errno) errno.0)
      (same_device_or_none (device_in o) (device_in p) known.device well.device name.0) phase.0 (decimal_injective _ _ (small _ known.taken) (small _ well.taken) phase.1)

  -- ---- entries, outcomes and refusals

  -- a line begins with its first part, or with the space behind it
  other_start : (name rest : List ℕ) (mark : ℕ) → 32 ≢ mark → get_or name 0 0 ≢ mark → get_or (name ++ (32 ∷ rest)) 0 0 ≢ mark
  other_start [] rest mark space first = space
  other_start (x ∷ xs) rest mark space first = first

  entry_or_outcome : (e : Entry) (o : Outcome) → entry_line devices e ≢ outcome_line devices o
  entry_or_outcome e o is =
      other_start (name_of devices e.device) _ 61 (λ e. absurd (omega (arith, e))) (told.markless e.device 0 61 equals_is_mark) (ap (λ bytes. get_or bytes 0 0) is)

  entry_or_refusal : (e : Entry) (r : Refusal) → entry_line devices e ≢ refusal_line r
  entry_or_refusal e r is =
      other_start (name_of devices e.device) _ 33 (λ e. absurd (omega (arith, e))) (told.markless e.device 0 33 exclamation_is_mark) (ap (λ bytes. get_or bytes 0 0) is)

  outcome_or_refusal : (o : Outcome) (r : Refusal) → outcome_line devices o ≢ refusal_line r
  outcome_or_refusal o r is = let differ : 61 ≡ 33 = ap (λ bytes. get_or bytes 0 0) is in absurd (omega (arith, differ))

pub read_back : (report : Report) → ReadBack (board_devices report)
read_back report =
    let devices = board_devices report in
    let told = report.board.told_apart in
    record {
      entries = same_entry devices told;
      outcomes = same_outcome devices told;
      entry_or_outcome = entry_or_outcome devices told;
      entry_or_refusal = entry_or_refusal devices told;
      outcome_or_refusal = outcome_or_refusal devices told;
    }
