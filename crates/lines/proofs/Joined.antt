-- Fields that make up lines, and that there is room for them.
use Rattle.std.proofs.Common.{◌≡◌, ℕ, ◌+◌, ◌<◌, ◌≤◌, ◌^◌, Some, List, [], ◌∷◌, ◌++◌, length, decimal, ℤ, refl, ap, arith}
use Rattle.std.specs.Borrow.{Bor}
use Rattle.std.specs.Fmt.{signed_decimal}
use Rattle.std.proofs.lemmas.List.{append-nil, length-append}
use Rattle.std.proofs.lemmas.Fmt.{length-decimal-le, length_signed_le}
use Rattle.std.proofs.lemmas.Int.{to_z-of_z}
use mir.Syntax.{w16}
use mir.Val.{SFits, to_z, of_z}
use Rattle.attempt.specs.Keeping.{device_in}
use Rattle.history.specs.declared.outcome.Outcome.{Outcome}
use Rattle.history.specs.declared.outcome.Outcome.TheVariants.{Slept, Fault, Alarm, Cancelled}
use Rattle.lines.specs.Fields.{joined, over}
use Rattle.lines.specs.Lines.{line_room}
use Rattle.lines.specs.Words.{kind_word}
use Rattle.lines.specs.Writing.{Written}
use Rattle.lines.specs.declared.fields.Field.TheVariants.{Text, Number, Signed}

-- a line that fits, over the front of a buffer with room for it
pub written : (line before after : List ℕ) (size : ℕ) → line_room ≤ length before → length line ≤ line_room → size ≡ length line → after ≡ over line before → Written line before after size
written line before after size room most count bytes = record { room = room; count = count; most = omega arith; bytes = bytes }

-- ---- an entry

module _ (name callback : Bor (List ℕ)) (code : ℤ) (fits : SFits w16 code) where
  pub entry_joined : joined (Text name) (Text callback ∷ Signed (to_z w16 (of_z w16 code)) ∷ []) ≡ name.now ++ (32 ∷ (callback.now ++ (32 ∷ signed_decimal code)))
  unfolding joined
  entry_joined = rw (to_z-of_z w16 code fits) (ap (λ bytes. name.now ++ (32 ∷ (callback.now ++ (32 ∷ bytes)))) (append-nil (signed_decimal code)))

  pub entry_room : length name.now ≤ 8 → length callback.now ≤ 13 → length (joined (Text name) (Text callback ∷ Signed (to_z w16 (of_z w16 code)) ∷ [])) ≤ 32
  entry_room short word = rw entry_joined (omega (arith, length-append {A = ℕ}, length_signed_le 5 code (omega (arith, fits.sfits)) (omega (arith, fits.sfits))))

-- ---- an outcome

-- a cancelled attempt has the longest kind, and no device
pub kind_room : (outcome : Outcome) → length (kind_word outcome) ≤ 6
kind_room (Slept alarm taken) = omega arith
kind_room (Fault errno device phase taken) = omega arith
kind_room (Alarm device phase taken) = omega arith
kind_room (Cancelled phase taken) = omega arith

pub kind_of_device : (outcome : Outcome) (device : ℕ) → device_in outcome ≡ Some device → length (kind_word outcome) ≡ 5
kind_of_device (Slept alarm taken) device is = refl
kind_of_device (Fault errno d phase taken) device is = refl
kind_of_device (Alarm d phase taken) device is = refl
kind_of_device (Cancelled phase taken) device is = cc

module _ (mark kind : Bor (List ℕ)) (errno : ℕ) (name phase : Bor (List ℕ)) (taken : ℕ) where
  pub outcome_joined : joined (Text mark) (Text kind ∷ Number errno ∷ Text name ∷ Text phase ∷ Number taken ∷ [])
      ≡ mark.now ++ (32 ∷ (kind.now ++ (32 ∷ (decimal errno ++ (32 ∷ (name.now ++ (32 ∷ (phase.now ++ (32 ∷ decimal taken)))))))))
  unfolding joined
  outcome_joined = ap (λ bytes. mark.now ++ (32 ∷ (kind.now ++ (32 ∷ (decimal errno ++ (32 ∷ (name.now ++ (32 ∷ (phase.now ++ (32 ∷ bytes)))))))))) (append-nil (decimal taken))

  pub outcome_room : length mark.now ≤ 1 → length kind.now + length name.now ≤ 13 → length phase.now ≤ 7 → errno < 1000 → taken < 1000
      → length (joined (Text mark) (Text kind ∷ Number errno ∷ Text name ∷ Text phase ∷ Number taken ∷ [])) ≤ 32
  outcome_room one both word e t = rw outcome_joined (omega (arith, length-append {A = ℕ}, length-decimal-le 3 errno (omega arith) (omega arith) (omega arith), length-decimal-le 3 taken (omega arith) (omega arith) (omega arith)))

-- ---- a refusal

module _ (mark : Bor (List ℕ)) (layer number place : ℕ) where
  pub refusal_joined : joined (Text mark) (Number layer ∷ Number number ∷ Number place ∷ []) ≡ mark.now ++ (32 ∷ (decimal layer ++ (32 ∷ (decimal number ++ (32 ∷ decimal place)))))
  unfolding joined
  refusal_joined = ap (λ bytes. mark.now ++ (32 ∷ (decimal layer ++ (32 ∷ (decimal number ++ (32 ∷ bytes)))))) (append-nil (decimal place))

  pub refusal_room : length mark.now ≤ 1 → layer < 2 ^ 8 → number < 2 ^ 8 → place < 2 ^ 32 → length (joined (Text mark) (Number layer ∷ Number number ∷ Number place ∷ [])) ≤ 32
  refusal_room one l n p =
      rw refusal_joined
      (omega (arith, length-append {A = ℕ}, length-decimal-le 3 layer (omega arith) (omega arith) (omega arith), length-decimal-le 3 number (omega arith) (omega arith) (omega arith), length-decimal-le 10 place (omega arith) (omega arith) (omega arith)))
