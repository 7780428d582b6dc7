-- Banks that choose freely, as far as the meaning of a bank allows. What they choose comes from outside.
use Rattle.std.specs.Prelude.{ℕ, ◌<◌, ◌≤◌, ◌^◌, List, [], ◌∷◌, length, drop, set, replicate, slice_index_or, All}
use Rattle.bank.specs.Laws.{Kind}
use Rattle.bank.specs.Meaning.{IsPile, most_devices}
use Rattle.bankrules.specs.declared.standing.Standing.{Standing}
use Rattle.bankrules.specs.Rules.{devices_of}

-- what is chosen at a change: the word that a lowering adds, and what hinders each device from then on
pub record Chosen : Type 0 where
  pub word : ℕ
  pub hindrances : List ℕ

-- the words of each device, what hinders each, and the choices to come
pub record Free : Type 0 where
  pub piles : List (List ℕ)
  pub hindrances : List ℕ
  pub choices : List Chosen

-- what hinders a device, by its number alone
abbrev pub hinders_by : List ℕ → Standing → ℕ
hinders_by hindrances s = slice_index_or hindrances s.device 0

-- what is chosen where no choice is left
abbrev pub last_choice : Chosen
last_choice = record { word = 0; hindrances = replicate most_devices 0 }

abbrev pub next_choice : List Chosen → Chosen
next_choice choices = slice_index_or choices 0 last_choice

-- with these words for device d, the hindrances of the next choice, and one choice less to come
abbrev pub changed : Free → ℕ → List ℕ → Free
changed m d p = record { piles = set m.piles d p; hindrances = (next_choice m.choices).hindrances; choices = drop 1 m.choices }

abbrev pub AreErrnos : ℕ → List ℕ → Type 0
AreErrnos limit hindrances = All (λ e. e ≤ limit) hindrances

pub record IsChoice (limit : ℕ) (c : Chosen) : Type 0 where
  pub word : c.word < 2 ^ 32
  pub errnos : AreErrnos limit c.hindrances

pub record IsFree (limit : ℕ) (m : Free) : Type 0 where
  pub few : length m.piles ≤ most_devices
  pub each : All IsPile m.piles
  pub errnos : AreErrnos limit m.hindrances
  pub choices : All (IsChoice limit) m.choices

abbrev pub free_kind : ℕ → Kind Free
free_kind limit =
    record {
      devices = λ m. devices_of (hinders_by m.hindrances) m.piles;
      lowered = λ m d. changed m d ((next_choice m.choices).word ∷ slice_index_or m.piles d []);
      raised = λ m d. changed m d (drop 1 (slice_index_or m.piles d []));
      written = λ m d w. changed m d (w ∷ []);
      sound = IsFree limit;
    }
