-- Banks whose devices keep to a rule: what hinders a device, and which word a lowering adds.
use Rattle.std.specs.Prelude.{◌≡◌, ℕ, suc, ◌-◌, ◌<◌, ◌^◌, zero, List, [], ◌∷◌, length, map, drop, set, slice_index_or, All}
use Rattle.bank.specs.Laws.{Kind}
use Rattle.bank.specs.Meaning.{Device, ArePiles}
use Rattle.bank.specs.Runs.{FitsCall, after_all}
use Rattle.bank.specs.declared.call.Call.{Call}
use Rattle.std.specs.List.{AllByRecursion}
use Rattle.bankrules.specs.declared.standing.Standing.{Standing}

-- how device d of these piles stands
abbrev pub standing : List (List ℕ) → ℕ → Standing
standing piles d =
    record {
      device = d;
      level = length (slice_index_or piles d []) - 1;
      word = slice_index_or (slice_index_or piles d []) 0 0;
      first_level = length (slice_index_or piles 0 []) - 1;
    }

-- the devices from number d on, each with its pile and what hinders it there
abbrev pub hindered : (Standing → ℕ) → List (List ℕ) → ℕ → List (List ℕ) → List Device
hindered hinders piles d [] = []
hindered hinders piles d (p ∷ ps) = record { words = p; hindrance = hinders (standing piles d) } ∷ hindered hinders piles (suc d) ps

-- the devices of a bank with these piles
abbrev pub devices_of : (Standing → ℕ) → List (List ℕ) → List Device
devices_of hinders piles = hindered hinders piles 0 piles

-- a device for each word, at level 0
abbrev pub each_with_one : List ℕ → List (List ℕ)
each_with_one words = map (λ (w : ℕ). w ∷ []) words

-- device d has gained the word that the rule adds at its level
abbrev pub with_word : (ℕ → ℕ → ℕ) → List (List ℕ) → ℕ → List (List ℕ)
with_word adds piles d =
    let p = slice_index_or piles d [] in
    set piles d (adds (length p - 1) (slice_index_or p 0 0) ∷ p)

-- device d has lost its top
abbrev pub without_top : List (List ℕ) → ℕ → List (List ℕ)
without_top piles d = set piles d (drop 1 (slice_index_or piles d []))

-- device d has this one word
abbrev pub with_only : List (List ℕ) → ℕ → ℕ → List (List ℕ)
with_only piles d w = set piles d (w ∷ [])

-- the kind of a bank whose devices keep to a rule
abbrev pub ruled_kind : (Standing → ℕ) → (ℕ → ℕ → ℕ) → Kind (List (List ℕ))
ruled_kind hinders adds =
    record {
      devices = devices_of hinders;
      lowered = with_word adds;
      raised = without_top;
      written = with_only;
      sound = ArePiles;
    }

-- ---- where the first word tells the others

-- the words of a device that has come down to a level from its first word, the newest first, where `word_at` tells the word at
-- each level by the first word alone
abbrev pub descent : (ℕ → ℕ → ℕ) → ℕ → ℕ → List ℕ
descent word_at first zero = word_at first zero ∷ []
descent word_at first (suc l) = word_at first (suc l) ∷ descent word_at first l

pub record IsDescent (word_at : ℕ → ℕ → ℕ) (words : List ℕ) : Type 0 where
  pub first : ℕ
  pub fits : first < 2 ^ 32
  pub level : ℕ
  pub words_are : words ≡ descent word_at first level

-- whatever calls are made of a bank that is made of these words, at each of its levels each device holds the word that its first
-- word tells
abbrev pub FirstWordsTell : (ℕ → ℕ → ℕ) → Kind (List (List ℕ)) → List ℕ → Type 0
FirstWordsTell word_at kind words = (calls : List Call) → AllByRecursion FitsCall calls → All (IsDescent word_at) (after_all kind (each_with_one words) calls)
