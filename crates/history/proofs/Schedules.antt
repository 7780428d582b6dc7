-- The levels that the schedule gives.
use Rattle.std.proofs.Common.{◌≡◌, ◌≢◌, ◌⊎◌, ℕ, zero, suc, ◌+◌, ◌-◌, ◌<◌, ◌≤◌, List, [], ◌∷◌, length, get_or, set, drop, map, sum}
use Rattle.std.proofs.Common.{length-set, length-drop, refl, sym, ap, subst, ◌∙◌, inl, inr, arith}
use Rattle.std.specs.Prelude.{slice_index}
use Rattle.std.specs.List.{sum_by}
use Rattle.std.proofs.lemmas.List.{length-map, get_or-set_same, get_or-set_other}
use Rattle.std.proofs.lemmas.List.Sums.{sum_by-set, sum_by-cons, sum-map}
use Rattle.std.proofs.lemmas.Bool.{cases_eq}
use Rattle.order.specs.Orders.{Permutes, Precedes}
use Rattle.bank.specs.Meaning.{Device, level, pile, piles, deepest}
use Rattle.bank.specs.Laws.{GainsWord, LosesWord}
use Rattle.history.specs.Schedule.{place, device_of, full, level_sum}
use Rattle.history.specs.Attempts.{next_device}
use Rattle.history.specs.Law.{Depths, OneLower, OneHigher}
use Rattle.history.specs.Keeping.{level_at, Scheduled}
use Rattle.history.proofs.Turns.{Turn, turn, turn_inside, Depth, depth, depth_up, depth_same, earlier_deeper, earlier_left, places_near}

-- ---- the levels and their sum are read off the piles

-- the level of a device with this pile
abbrev height : List ℕ → ℕ
height p = length p - 1

pub pile_at : (now : List Device) (d : ℕ) → pile now d ≡ get_or (piles now) d []
pile_at [] d = refl
pile_at (x ∷ now) zero = refl
pile_at (x ∷ now) (suc d) = pile_at now d

level_from_piles : (now : List Device) (d : ℕ) → level now d ≡ height (get_or (piles now) d [])
level_from_piles now d = ap height (pile_at now d)

pub count_from_piles : (now : List Device) → length (piles now) ≡ length now
count_from_piles now = length-map now (λ (x : Device). x.words)

heights : (now : List Device) → map (λ (x : Device). length x.words - 1) now ≡ map height (piles now)
heights [] = refl
heights (x ∷ now) = ap (λ (l : List ℕ). height x.words ∷ l) (heights now)

sum_from_piles : (now : List Device) → level_sum now ≡ sum_by height (piles now)
sum_from_piles now = ap sum (heights now) ∙ sum-map height (piles now)

none_high : (ps : List (List ℕ)) → sum_by height ps ≡ 0 → (d : ℕ) → height (get_or ps d []) ≡ 0
none_high [] h d = refl
none_high (p ∷ ps) h zero = let e : sum_by height (p ∷ ps) ≡ height p + sum_by height ps = sum_by-cons height p ps in omega arith
none_high (p ∷ ps) h (suc d) = let e : sum_by height (p ∷ ps) ≡ height p + sum_by height ps = sum_by-cons height p ps in none_high ps (omega arith) d

no_sum : (ps : List (List ℕ)) → ((d : ℕ) → height (get_or ps d []) ≡ 0) → sum_by height ps ≡ 0
no_sum [] h = refl
no_sum (p ∷ ps) h = sum_by-cons height p ps ∙ omega (arith, h 0, no_sum ps (λ d. h (suc d)))

-- the pile of device x alone becomes p
record Changed (now later : List Device) (x : ℕ) (p : List ℕ) : Type 0 where
  count : length later ≡ length now
  sums : level_sum later + level now x ≡ level_sum now + height p
  here : level later x ≡ height p
  others : (d : ℕ) → d ≢ x → level later d ≡ level now d

changed : (now later : List Device) (x : ℕ) (p : List ℕ) → x < length now → piles later ≡ set (piles now) x p → Changed now later x p
changed now later x p h e =
    let inside : x < length (piles now) = omega (arith, count_from_piles now) in
    record {
      count = sym (count_from_piles later) ∙ ap length e ∙ length-set (piles now) x p ∙ count_from_piles now;
      sums = omega (arith, sum_from_piles now, sum_from_piles later, ap (sum_by height) e, sum_by-set height (piles now) x p [] inside, level_from_piles now x);
      here = level_from_piles later x ∙ ap (λ (ps : List (List ℕ)). height (get_or ps x [])) e ∙ ap height (get_or-set_same (piles now) x p [] inside);
      others = λ d ne. level_from_piles later d ∙ ap (λ (ps : List (List ℕ)). height (get_or ps d [])) e
          ∙ ap height (get_or-set_other (piles now) x d p [] ne) ∙ sym (level_from_piles now d);
    }

module _ (order : List ℕ) (permutes : Permutes (length order) order) (some : 1 ≤ length order) where
  -- the place of a device whose turn it is
  at_turn : (j : ℕ) → j < full order → Turn (length order) j (place (length order) j)
  at_turn j h = turn (length order) j h

  place_inside : (j : ℕ) → j < full order → place (length order) j < length order
  place_inside j h = turn_inside (length order) j (place (length order) j) (at_turn j h)

  -- a device whose turn it is
  pub next_inside : (j : ℕ) → j < full order → device_of order j < length order
  next_inside j h = permutes.inside (place (length order) j) (place_inside j h)

  -- devices in another place are other devices
  elsewhere : (i j : ℕ) → i < length order → j < full order → i ≢ place (length order) j → slice_index order i ≢ device_of order j
  elsewhere i j h l ne e = ne (permutes.once i (place (length order) j) h (place_inside j l) e)

  -- what lowering j makes of the level in its own place, and in others
  turn_level : (j : ℕ) → j < full order → level_at (length order) (place (length order) j) (suc j) ≡ suc (level_at (length order) (place (length order) j) j)
  turn_level j h =
      let p = place (length order) j in
      depth_up (length order) j p _ _ (at_turn j h) (depth (length order) p j (place_inside j h)) (depth (length order) p (suc j) (place_inside j h))

  other_level : (i j : ℕ) → i < length order → j < full order → i ≢ place (length order) j → level_at (length order) i (suc j) ≡ level_at (length order) i j
  other_level i j l h ne =
      depth_same (length order) j (place (length order) j) i _ _ (at_turn j h) l ne (depth (length order) i j l) (depth (length order) i (suc j) l)

  -- the levels f after j lowerings, and g after one more
  abbrev AreLevels : (ℕ → ℕ) → ℕ → Type 0
  AreLevels f k = (i : ℕ) → i < length order → f (slice_index order i) ≡ level_at (length order) i k

  levels_down : (j : ℕ) (f g : ℕ → ℕ) → j < full order → g (device_of order j) ≡ suc (f (device_of order j)) → ((d : ℕ) → d ≢ device_of order j → g d ≡ f d)
      → AreLevels f j → AreLevels g (suc j)
  levels_down j f g h here others are i l = go (cases_eq i (place (length order) j))
    where
      go : (i ≡ place (length order) j) ⊎ (i ≢ place (length order) j) → g (slice_index order i) ≡ level_at (length order) i (suc j)
      go (inl e) = rw e (here ∙ ap suc (are (place (length order) j) (place_inside j h)) ∙ sym (turn_level j h))
      go (inr ne) = others _ (elsewhere i j l h ne) ∙ are i l ∙ sym (other_level i j l h ne)

  levels_up : (j : ℕ) (f g : ℕ → ℕ) → j < full order → g (device_of order j) ≡ suc (f (device_of order j)) → ((d : ℕ) → d ≢ device_of order j → g d ≡ f d)
      → AreLevels g (suc j) → AreLevels f j
  levels_up j f g h here others are i l = go (cases_eq i (place (length order) j))
    where
      less : (a b : ℕ) → suc a ≡ suc b → a ≡ b
      less a b e = omega arith

      go : (i ≡ place (length order) j) ⊎ (i ≢ place (length order) j) → f (slice_index order i) ≡ level_at (length order) i j
      go (inl e) = rw e (less _ _ (sym here ∙ are (place (length order) j) (place_inside j h) ∙ turn_level j h))
      go (inr ne) = sym (others _ (elsewhere i j l h ne)) ∙ are i l ∙ other_level i j l h ne

  -- the next device can be lowered
  pub next_above : (now : List Device) → Scheduled order now → level_sum now < full order → level now (next_device order now) < deepest
  next_above now s h =
      let k = level_sum now in
      let p = place (length order) k in
      let l : p < length order = place_inside k h in
      let d : Depth (length order) p (suc k) (level_at (length order) p (suc k)) = depth (length order) p (suc k) l in
      subst (λ (v : ℕ). v < deepest) (sym (s.levels p l)) (subst (λ (v : ℕ). v ≤ deepest) (turn_level k h) d.most)

  -- the level of the last device lowered
  pub last_level : (now : List Device) (j : ℕ) → Scheduled order now → level_sum now ≡ suc j
      → level now (device_of order j) ≡ suc (level_at (length order) (place (length order) j) j)
  last_level now j s e =
      let h : j < full order = omega (arith, s.most) in
      s.levels (place (length order) j) (place_inside j h) ∙ ap (level_at (length order) (place (length order) j)) e ∙ turn_level j h

  -- the last device lowered can be raised
  pub last_below : (now : List Device) → Scheduled order now → 0 < level_sum now → 0 < level now (device_of order (level_sum now - 1))
  last_below now s h =
      let e : level_sum now ≡ suc (level_sum now - 1) = omega arith in
      subst (λ (v : ℕ). 0 < v) (sym (last_level now (level_sum now - 1) s e)) (omega arith)

  pub scheduled_lower : (now later : List Device) → Scheduled order now → level_sum now < full order
      → 1 ≤ length (pile now (next_device order now))
      → GainsWord now (next_device order now) later
      → Scheduled order later × (level_sum later ≡ suc (level_sum now)) × OneLower (next_device order now) now later
  scheduled_lower now later s h word (w, e) =
      let x : ℕ = next_device order now in
      let inside : x < length now = omega (arith, s.count, next_inside (level_sum now) h) in
      let c : Changed now later x (w ∷ pile now x) = changed now later x (w ∷ pile now x) inside e in
      let deeper : level later x ≡ suc (level now x) = c.here ∙ top (pile now x) word in
      let more : level_sum later ≡ suc (level_sum now) = added (level now x) (height (w ∷ pile now x)) _ _ (top (pile now x) word) c.sums in (
        record {
          count = c.count ∙ s.count;
          most = omega (arith, more, h);
          levels = λ i l. levels_down (level_sum now) (level now) (level later) h deeper c.others s.levels i l ∙ ap (level_at (length order) i) (sym more);
        },
        more,
        record { inside = inside; gains = (w, e); deeper = deeper ∙ omega arith; others = c.others },
      )
    where
      top : (p : List ℕ) → 1 ≤ length p → suc (length p) - 1 ≡ suc (length p - 1)
      top p l = omega arith

      added : (a b t u : ℕ) → b ≡ suc a → u + a ≡ t + b → u ≡ suc t
      added a b t u e f = omega arith

  pub scheduled_raise : (now later : List Device) → Scheduled order now → 0 < level_sum now
      → LosesWord now (device_of order (level_sum now - 1)) later
      → Scheduled order later × (suc (level_sum later) ≡ level_sum now) × OneHigher (device_of order (level_sum now - 1)) now later
  scheduled_raise now later s h loses =
      let j : ℕ = level_sum now - 1 in
      let k : level_sum now ≡ suc j = omega arith in
      let m : j < full order = omega (arith, s.most) in
      let x : ℕ = device_of order j in
      let inside : x < length now = omega (arith, s.count, next_inside j m) in
      let c : Changed now later x (drop 1 (pile now x)) = changed now later x (drop 1 (pile now x)) inside loses in
      let deep : 0 < level now x = last_below now s h in
      let higher : level now x ≡ suc (level later x) = top (pile now x) deep ∙ ap suc (sym c.here) in
      let less : suc (level_sum later) ≡ level_sum now = removed (level now x) (height (drop 1 (pile now x))) _ _ (top (pile now x) deep) c.sums in
      let back : j ≡ level_sum later = omega (arith, less, k) in (
        record {
          count = c.count ∙ s.count;
          most = omega (arith, less, s.most);
          levels = λ i l. levels_up j (level later) (level now) m higher (λ d ne. sym (c.others d ne))
              (λ i l. s.levels i l ∙ ap (level_at (length order) i) k) i l ∙ ap (level_at (length order) i) back;
        },
        less,
        record { inside = inside; loses = loses; higher = higher ∙ omega arith; others = c.others },
      )
    where
      top : (p : List ℕ) → 0 < length p - 1 → length p - 1 ≡ suc (length (drop 1 p) - 1)
      top p l = omega (arith, length-drop 1 p)

      removed : (a b t u : ℕ) → a ≡ suc b → u + a ≡ t + b → suc u ≡ t
      removed a b t u e f = omega arith

  level_none : (i : ℕ) → i < length order → level_at (length order) i 0 ≡ 0
  level_none i h = let d : Depth (length order) i 0 (level_at (length order) i 0) = depth (length order) i 0 h in d.none (omega arith)

  level_all : (i : ℕ) → i < length order → level_at (length order) i (full order) ≡ deepest
  level_all i h = go (level_at (length order) i (full order)) (depth (length order) i (full order) h)
    where
      go : (v : ℕ) → Depth (length order) i (full order) v → v ≡ deepest
      go v d = omega (arith, d.four (omega arith), d.most)

  -- devices that all stand at level 0
  pub scheduled_running : (now : List Device) → length now ≡ length order → ((d : ℕ) → level now d ≡ 0) → Scheduled order now × (level_sum now ≡ 0)
  scheduled_running now c h =
      let none : level_sum now ≡ 0 = sum_from_piles now ∙ no_sum (piles now) (λ d. sym (level_from_piles now d) ∙ h d) in (
        record {
          count = c;
          most = omega arith;
          levels = λ i l. h _ ∙ sym (level_none i l) ∙ ap (level_at (length order) i) (sym none);
        },
        none,
      )

  pub all_running : (now : List Device) → Scheduled order now → level_sum now ≡ 0 → (d : ℕ) → level now d ≡ 0
  all_running now s h d = level_from_piles now d ∙ none_high (piles now) (sym (sum_from_piles now) ∙ h) d

  -- a put changes no level
  pub scheduled_put : (now later : List Device) (d w : ℕ) → Scheduled order now → level_sum now ≡ 0 → d < length order
      → piles later ≡ set (piles now) d (w ∷ []) → Scheduled order later × (level_sum later ≡ 0)
  scheduled_put now later d w s h i e =
      let c : Changed now later d (w ∷ []) = changed now later d (w ∷ []) (omega (arith, s.count)) e in
      scheduled_running later (c.count ∙ s.count)
      (λ x. elim (cases_eq x d) [ inl is ↦ ap (level later) is ∙ c.here | inr ne ↦ c.others x ne ∙ all_running now s h x ])

  pub all_deepest : (now : List Device) → Scheduled order now → level_sum now ≡ full order → (d : ℕ) → d < length order → level now d ≡ deepest
  all_deepest now s h d i =
      let (j, l, e) = permutes.place d i in
      ap (level now) (sym e) ∙ s.levels j l ∙ ap (level_at (length order) j) h ∙ level_all j l

  -- superiors stand before their dependents in the order
  pub scheduled_depths : (superior : ℕ → ℕ → Type 0) → Precedes (length order) superior order → (now : List Device) → Scheduled order now
      → Depths superior (length order) now
  scheduled_depths superior precedes now s =
      record {
        not_deeper = λ u d r two.
            let (i, j, l, m, e, f) = precedes.superiors_first u d r in
            earlier_deeper (length order) i j (level_sum now) (level now u) (level now d) l m (stands u i (omega arith) e) (stands d j m f) two;
        superior_left = λ u d r z.
            let (i, j, l, m, e, f) = precedes.superiors_first u d r in
            earlier_left (length order) i j (level_sum now) (level now u) (level now d) l m (stands u i (omega arith) e) (stands d j m f) z;
        near = λ d e l m.
            let (i, a, p) = permutes.place d l in
            let (j, b, q) = permutes.place e m in
            places_near (length order) i j (level_sum now) (level now d) (level now e) a b (stands d i a p) (stands e j b q);
      }
    where
      stands : (d i : ℕ) → i < length order → slice_index order i ≡ d → Depth (length order) i (level_sum now) (level now d)
      stands d i l e =
          subst (λ (v : ℕ). Depth (length order) i (level_sum now) v) (sym (s.levels i l) ∙ ap (level now) e) (depth (length order) i (level_sum now) l)
