-- Banks whose devices keep to a rule.
use Rattle.std.proofs.Common.{◌≡◌, ℕ, true, zero, suc, ◌+◌, ◌-◌, ◌<◌, ◌≤◌, ◌^◌, List, [], ◌∷◌, length, get_or, set, drop, length-drop, length-set, refl, ap, ◌∙◌, arith}
use Rattle.bank.specs.Meaning.{Device, absent, device, pile, piles, deepest, is_lowered, is_raised, is_put, IsPile, ArePiles, AreDevices}
use Rattle.bankrules.specs.declared.standing.Standing.{Standing}
use Rattle.bankrules.specs.Rules.{each_with_one, standing, hindered, devices_of, with_word, without_top, with_only, ruled_kind}
use Rattle.bank.specs.Laws.{GainsWord, LosesWord, HoldsWord, Laws}
use Rattle.bank.proofs.Changes.{lowered_parts, raised_parts}
use Rattle.std.proofs.lemmas.List.{length-map}
use Rattle.std.proofs.lemmas.List.Elements.{All-nil, All-cons, All-drop, All-set, All-from_get_or}

module _ (hinders : Standing → ℕ) (all : List (List ℕ)) where
  hindered_count : (d : ℕ) (ps : List (List ℕ)) → length (hindered hinders all d ps) ≡ length ps
  hindered_count d [] = refl
  hindered_count d (p ∷ ps) = ap suc (hindered_count (suc d) ps)

  hindered_piles : (d : ℕ) (ps : List (List ℕ)) → piles (hindered hinders all d ps) ≡ ps
  hindered_piles d [] = refl
  hindered_piles d (p ∷ ps) = ap (λ (qs : List (List ℕ)). p ∷ qs) (hindered_piles (suc d) ps)

  hindered_device : (d : ℕ) (ps : List (List ℕ)) (i : ℕ) → i < length ps → get_or (hindered hinders all d ps) i absent ≡ record { words = get_or ps i []; hindrance = hinders (standing all (d + i)) }
  hindered_device d (p ∷ ps) zero h = ap (λ n. record { words = p; hindrance = hinders (standing all n) }) (omega arith)
  hindered_device d (p ∷ ps) (suc i) h = hindered_device (suc d) ps i (omega arith) ∙ ap (λ n. record { words = get_or ps i []; hindrance = hinders (standing all n) }) (omega arith)
  hindered_device d [] i h = elim h [ ]

module _ (hinders : Standing → ℕ) (ps : List (List ℕ)) where
  pub ruled_count : length (devices_of hinders ps) ≡ length ps
  ruled_count = hindered_count hinders ps 0 ps

  pub ruled_piles : piles (devices_of hinders ps) ≡ ps
  ruled_piles = hindered_piles hinders ps 0 ps

  pub ruled_device : (d : ℕ) → d < length ps → device (devices_of hinders ps) d ≡ record { words = get_or ps d []; hindrance = hinders (standing ps d) }
  ruled_device d h = hindered_device hinders ps 0 ps d h ∙ ap (λ n. record { words = get_or ps d []; hindrance = hinders (standing ps n) }) (omega arith)

  pub ruled_pile : (d : ℕ) → d < length ps → pile (devices_of hinders ps) d ≡ get_or ps d []
  ruled_pile d h = ap (λ (x : Device). x.words) (ruled_device d h)

  pub low_inside : (d : ℕ) → is_lowered (devices_of hinders ps) d ≡ true → (d < length ps) × (length (get_or ps d []) - 1 < deepest)
  low_inside d t =
      let parts = lowered_parts (devices_of hinders ps) d t in
      let inside : d < length ps = omega (arith, parts.0, ruled_count) in
      (inside, omega (arith, parts.1, ap length (ruled_pile d inside)))

  pub deep_inside : (d : ℕ) → is_raised (devices_of hinders ps) d ≡ true → (d < length ps) × (0 < length (get_or ps d []) - 1)
  deep_inside d t =
      let parts = raised_parts (devices_of hinders ps) d t in
      let inside : d < length ps = omega (arith, parts.0, ruled_count) in
      (inside, omega (arith, parts.1, ap length (ruled_pile d inside)))

-- a bank that is made of words has a device for each
pub made_count : (hinders : Standing → ℕ) (words : List ℕ) → length (devices_of hinders (each_with_one words)) ≡ length words
made_count hinders words = ruled_count hinders (each_with_one words) ∙ length-map words (λ (w : ℕ). w ∷ [])

-- ---- such banks keep the laws

pub one_pile : (w : ℕ) → w < 2 ^ 32 → IsPile (w ∷ [])
one_pile w h = record { some = omega arith; few = omega arith; fit = All-cons (λ v. v < 2 ^ 32) w [] h (All-nil (λ v. v < 2 ^ 32)) }

pub more_pile : (w : ℕ) (p : List ℕ) → w < 2 ^ 32 → length p - 1 < deepest → IsPile p → IsPile (w ∷ p)
more_pile w p h l is = record { some = omega arith; few = omega arith; fit = All-cons (λ v. v < 2 ^ 32) w p h is.fit }

pub less_pile : (p : List ℕ) → 0 < length p - 1 → IsPile p → IsPile (drop 1 p)
less_pile p l is = record { some = omega (arith, length-drop 1 p); few = omega (arith, length-drop 1 p, is.few); fit = All-drop (λ v. v < 2 ^ 32) 1 p is.fit }

pub replaced : (ps : List (List ℕ)) (d : ℕ) (p : List ℕ) → ArePiles ps → IsPile p → ArePiles (set ps d p)
replaced ps d p are is = record { few = omega (arith, length-set ps d p, are.few); each = All-set IsPile ps d p is are.each }

module _ (limit : ℕ) (hinders : Standing → ℕ) (adds : ℕ → ℕ → ℕ) (errnos : (s : Standing) → hinders s ≤ limit) (words : (l w : ℕ) → w < 2 ^ 32 → adds l w < 2 ^ 32) where
  ruled_means : (ps : List (List ℕ)) → ArePiles ps → AreDevices limit (devices_of hinders ps)
  ruled_means ps are =
      record {
        few = omega (arith, ruled_count hinders ps, are.few);
        words = rw (ruled_piles hinders ps) are.each;
        errnos = All-from_get_or (λ (x : Device). x.hindrance ≤ limit) (devices_of hinders ps) absent
            (λ d h. rw (ruled_device hinders ps d (omega (arith, ruled_count hinders ps))) (errnos (standing ps d)));
      }

  ruled_lowering : (ps : List (List ℕ)) (d : ℕ) → ArePiles ps → is_lowered (devices_of hinders ps) d ≡ true
      → ArePiles (with_word adds ps d) × GainsWord (devices_of hinders ps) d (devices_of hinders (with_word adds ps d))
  ruled_lowering ps d are t =
      let (inside, low) = low_inside hinders ps d t in
      let p = get_or ps d [] in
      let is = are.each d [] inside in (
        replaced ps d _ are (more_pile _ p (words _ _ (is.fit 0 0 is.some)) low is),
        (adds (length p - 1) (get_or p 0 0), rw (ruled_piles hinders (with_word adds ps d), ruled_piles hinders ps, ruled_pile hinders ps d inside)),
      )

  ruled_raising : (ps : List (List ℕ)) (d : ℕ) → ArePiles ps → is_raised (devices_of hinders ps) d ≡ true
      → ArePiles (without_top ps d) × LosesWord (devices_of hinders ps) d (devices_of hinders (without_top ps d))
  ruled_raising ps d are t =
      let (inside, deep) = deep_inside hinders ps d t in
      (replaced ps d _ are (less_pile _ deep (are.each d [] inside)), rw (ruled_piles hinders (without_top ps d), ruled_piles hinders ps, ruled_pile hinders ps d inside))

  ruled_writing : (ps : List (List ℕ)) (d w : ℕ) → ArePiles ps → w < 2 ^ 32 → is_put (devices_of hinders ps) d ≡ true
      → ArePiles (with_only ps d w) × HoldsWord (devices_of hinders ps) d w (devices_of hinders (with_only ps d w))
  ruled_writing ps d w are f t = (replaced ps d _ are (one_pile w f), rw (ruled_piles hinders (with_only ps d w), ruled_piles hinders ps))

  pub ruled_lawful : Laws limit (ruled_kind hinders adds)
  ruled_lawful = record { means = ruled_means; lowering = ruled_lowering; raising = ruled_raising; writing = ruled_writing }
