-- What is said of the devices after a call: of their words, of their levels, and of one step.
use Rattle.std.specs.Prelude.{◌≡◌, ℕ, ◌+◌, ◌<◌, ◌≤◌, ◌≢◌, if◌then◌else◌, ◌==◌, List, [], ◌∷◌, length, Some, None, Option}
use Rattle.bank.specs.Meaning.{Device, level, piles}
use Rattle.bank.specs.Laws.{GainsWord, LosesWord}
use Rattle.history.specs.Schedule.{level_sum}
use Rattle.history.specs.Attempts.{History, under_way, descent, has_ended, or_else}

-- ---- the words

-- these devices, if their levels add up to k
abbrev pub if_deep : ℕ → List Device → Option (List Device)
if_deep k devices = if level_sum devices == k then Some devices else None

module _ (order : List ℕ) where
  -- the devices of the attempt under way as they stood when its levels, going down, first added up to k: as its opening found
  -- them, or after the first call of its descent that left them so
  abbrev pub first_with : ℕ → History → List Device → Option (List Device)
  first_with k [] now = None
  first_with k (m ∷ h) now =
      if under_way h
      then or_else (first_with k h m.before) (if has_ended order (descent order h) m.before then None else if_deep k now)
      else if_deep k m.before

  -- every device holds exactly the words that it held then, with k what the levels add up to now
  abbrev pub HoldsFirstWords : History → List Device → Type 0
  HoldsFirstWords h now = (first : List Device) × (first_with (level_sum now) h now ≡ Some first) × (piles now ≡ piles first)

-- ---- the depths

pub record Depths (superior : ℕ → ℕ → Type 0) (n : ℕ) (now : List Device) : Type 0 where
  -- no superior at level 2 or deeper is deeper than a dependent of it
  pub not_deeper : (s d : ℕ) → superior s d → 2 ≤ level now s → level now s ≤ level now d
  -- no device has left level 0 while a superior of it is there
  pub superior_left : (s d : ℕ) → superior s d → level now s ≡ 0 → level now d ≡ 0
  -- two levels differ by at most one
  pub near : (d e : ℕ) → d < n → e < n → level now d ≤ level now e + 1

-- ---- the steps

-- device x goes one level deeper, and gains a word; every other device stays as it is
pub record OneLower (x : ℕ) (before after : List Device) : Type 0 where
  pub inside : x < length before
  pub gains : GainsWord before x after
  pub deeper : level after x ≡ level before x + 1
  pub others : (d : ℕ) → d ≢ x → level after d ≡ level before d

-- device x comes one level up, and loses its top word; every other device stays as it is
pub record OneHigher (x : ℕ) (before after : List Device) : Type 0 where
  pub inside : x < length before
  pub loses : LosesWord before x after
  pub higher : level before x ≡ level after x + 1
  pub others : (d : ℕ) → d ≢ x → level after d ≡ level before d
