-- Banks that choose freely keep the laws.
use Rattle.std.proofs.Common.{◌≡◌, ℕ, true, ◌-◌, ◌<◌, ◌≤◌, ◌^◌, List, [], ◌∷◌, length, get_or, set, drop, length-set, All, sym, ap, ◌∙◌, ◌⊎◌, inl, inr, arith}
use Rattle.std.proofs.lemmas.Bool.{cases_lt}
use Rattle.std.proofs.lemmas.List.{get_or_past}
use Rattle.std.proofs.lemmas.List.Elements.{All-drop, All-set, All-replicate, All-from_get_or}
use Rattle.bank.specs.Meaning.{Device, absent, device, pile, piles, deepest, is_lowered, is_raised, is_put, IsPile, ArePiles, AreDevices, most_devices}
use Rattle.bank.specs.Laws.{GainsWord, LosesWord, HoldsWord, Laws}
use Rattle.bank.proofs.Changes.{lowered_parts, raised_parts}
use Rattle.bankrules.specs.Rules.{each_with_one, devices_of}
use Rattle.bankrules.specs.Free.{Free, Chosen, hinders_by, last_choice, next_choice, changed, AreErrnos, IsChoice, IsFree, free_kind}
use Rattle.bankrules.proofs.Ruling.{made_count, one_pile, more_pile, less_pile, ruled_count, ruled_piles, ruled_device}

pub free_count : (hindrances : List ℕ) (ps : List (List ℕ)) → length (devices_of (hinders_by hindrances) ps) ≡ length ps
free_count hindrances ps = ruled_count (hinders_by hindrances) ps

pub free_made_count : (hindrances words : List ℕ) → length (devices_of (hinders_by hindrances) (each_with_one words)) ≡ length words
free_made_count hindrances words = made_count (hinders_by hindrances) words

pub free_device : (hindrances : List ℕ) (ps : List (List ℕ)) (d : ℕ) → d < length ps → device (devices_of (hinders_by hindrances) ps) d ≡ record { words = get_or ps d []; hindrance = get_or hindrances d 0 }
free_device hindrances ps d h = ruled_device (hinders_by hindrances) ps d h

module _ (limit : ℕ) where
  last_is : IsChoice limit last_choice
  last_is = record { word = omega arith; errnos = All-replicate (λ e. e ≤ limit) most_devices 0 (omega arith) }

  next_is : (choices : List Chosen) → All (IsChoice limit) choices → IsChoice limit (next_choice choices)
  next_is [] each = last_is
  next_is (c ∷ cs) each = each 0 last_choice (omega arith)

  errno_fits : (hindrances : List ℕ) (d : ℕ) → AreErrnos limit hindrances → get_or hindrances d 0 ≤ limit
  errno_fits hindrances d are = go (cases_lt d (length hindrances))
    where
      go : (d < length hindrances) ⊎ (length hindrances ≤ d) → get_or hindrances d 0 ≤ limit
      go (inl h) = are d 0 h
      go (inr h) = rw (get_or_past hindrances d 0 h) (omega arith)

  changed_is : (m : Free) (d : ℕ) (p : List ℕ) → IsFree limit m → IsPile p → IsFree limit (changed m d p)
  changed_is m d p free is =
      record {
        few = omega (arith, length-set m.piles d p, free.few);
        each = All-set IsPile m.piles d p is free.each;
        errnos = (next_is m.choices free.choices).errnos;
        choices = All-drop (IsChoice limit) 1 m.choices free.choices;
      }

  abbrev shown : Free → List Device
  shown m = devices_of (hinders_by m.hindrances) m.piles

  free_means : (m : Free) → IsFree limit m → AreDevices limit (shown m)
  free_means m free =
      let n = ruled_count (hinders_by m.hindrances) m.piles in
      record {
        few = omega (arith, n, free.few);
        words = rw (ruled_piles (hinders_by m.hindrances) m.piles) free.each;
        errnos = All-from_get_or (λ (x : Device). x.hindrance ≤ limit) (shown m) absent
            (λ d h. rw (ruled_device (hinders_by m.hindrances) m.piles d (omega (arith, n))) (errno_fits m.hindrances d free.errnos));
      }

  free_pile : (m : Free) (d : ℕ) → d < length m.piles → pile (shown m) d ≡ get_or m.piles d []
  free_pile m d h = ap (λ (x : Device). x.words) (ruled_device (hinders_by m.hindrances) m.piles d h)

  changed_piles : (m : Free) (d : ℕ) (p : List ℕ) → piles (shown (changed m d p)) ≡ set (piles (shown m)) d p
  changed_piles m d p = ruled_piles (hinders_by (next_choice m.choices).hindrances) (set m.piles d p) ∙ ap (λ (ps : List (List ℕ)). set ps d p) (sym (ruled_piles (hinders_by m.hindrances) m.piles))

  free_lowering : (m : Free) (d : ℕ) → IsFree limit m → is_lowered (shown m) d ≡ true → IsFree limit ((free_kind limit).lowered m d) × GainsWord (shown m) d (shown ((free_kind limit).lowered m d))
  free_lowering m d free t =
      let parts = lowered_parts (shown m) d t in
      let inside : d < length m.piles = omega (arith, parts.0, ruled_count (hinders_by m.hindrances) m.piles) in
      let p = get_or m.piles d [] in
      let w = (next_choice m.choices).word in
      let low : length p - 1 < deepest = omega (arith, parts.1, ap length (free_pile m d inside)) in (
        changed_is m d (w ∷ p) free (more_pile w p (next_is m.choices free.choices).word low (free.each d [] inside)),
        (w, changed_piles m d (w ∷ p) ∙ ap (λ (q : List ℕ). set (piles (shown m)) d (w ∷ q)) (sym (free_pile m d inside))),
      )

  free_raising : (m : Free) (d : ℕ) → IsFree limit m → is_raised (shown m) d ≡ true → IsFree limit ((free_kind limit).raised m d) × LosesWord (shown m) d (shown ((free_kind limit).raised m d))
  free_raising m d free t =
      let parts = raised_parts (shown m) d t in
      let inside : d < length m.piles = omega (arith, parts.0, ruled_count (hinders_by m.hindrances) m.piles) in
      let p = get_or m.piles d [] in
      let deep : 0 < length p - 1 = omega (arith, parts.1, ap length (free_pile m d inside)) in (
        changed_is m d (drop 1 p) free (less_pile p deep (free.each d [] inside)),
        changed_piles m d (drop 1 p) ∙ ap (λ (q : List ℕ). set (piles (shown m)) d (drop 1 q)) (sym (free_pile m d inside)),
      )

  free_writing : (m : Free) (d w : ℕ) → IsFree limit m → w < 2 ^ 32 → is_put (shown m) d ≡ true → IsFree limit ((free_kind limit).written m d w) × HoldsWord (shown m) d w (shown ((free_kind limit).written m d w))
  free_writing m d w free f t = (changed_is m d (w ∷ []) free (one_pile w f), changed_piles m d (w ∷ []))

  pub free_lawful : Laws limit (free_kind limit)
  free_lawful = record { means = free_means; lowering = free_lowering; raising = free_raising; writing = free_writing }

  pub free_kept : (ps : List (List ℕ)) (hindrances : List ℕ) (choices : List Chosen) → ArePiles ps → AreErrnos limit hindrances → All (IsChoice limit) choices
      → IsFree limit (record { piles = ps; hindrances = hindrances; choices = choices })
  free_kept ps hindrances choices are errnos each = record { few = are.few; each = are.each; errnos = errnos; choices = each }
