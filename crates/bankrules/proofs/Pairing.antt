-- Two banks as one keep the laws.
use Rattle.std.proofs.Common.{◌≡◌, ℕ, true, false, ltb, ◌+◌, ◌-◌, ◌<◌, ◌≤◌, ◌^◌, List, [], ◌∷◌, ◌++◌, length, set, drop, refl, sym, ap, ◌∙◌, ◌⊎◌, inl, inr, arith, length-append, length-set}
use Rattle.std.proofs.lemmas.List.{map-append, length-map, get_or_append_left, get_or-append_right, set-append_left, set-append_right}
use Rattle.std.proofs.lemmas.List.Elements.{All-append}
use Rattle.std.proofs.lemmas.Bool.{cases_lt, lt-ltb, le-ltb}
use Rattle.bank.specs.Meaning.{Device, absent, device, pile, piles, is_lowered, is_raised, is_put, IsPile, AreDevices}
use Rattle.bank.specs.Laws.{GainsWord, LosesWord, HoldsWord, Kind, Laws}
use Rattle.bankrules.specs.Pairs.{Apart, sided, pair_kind}

-- the pile of device d becomes f of some word and of what it was, and no other pile changes
abbrev Alters : (ℕ → List ℕ → List ℕ) → List Device → ℕ → List Device → Type 0
Alters f before d after = (w : ℕ) × (piles after ≡ set (piles before) d (f w (pile before d)))

-- the same changes are taken of device i of one bank as of device j of another
abbrev TakenAlike : List Device → ℕ → List Device → ℕ → Type 0
TakenAlike one i other j = (is_put one i ≡ is_put other j) × (is_lowered one i ≡ is_lowered other j) × (is_raised one i ≡ is_raised other j)

pair_piles : (one other : List Device) → piles (one ++ other) ≡ piles one ++ piles other
pair_piles one other = map-append (λ (x : Device). x.words) one other

module _ (xs ys : List Device) (d : ℕ) where
  left_device : d < length xs → device (xs ++ ys) d ≡ device xs d
  left_device h = get_or_append_left xs ys absent d h

  right_device : length xs ≤ d → device (xs ++ ys) d ≡ device ys (d - length xs)
  right_device h = get_or-append_right xs ys (length xs) d absent refl h

  left_taken : d < length xs → TakenAlike (xs ++ ys) d xs d
  left_taken h = let e = left_device h in let n = length-append xs ys in (grind arith, grind arith, grind arith)

  right_taken : length xs ≤ d → TakenAlike (xs ++ ys) d ys (d - length xs)
  right_taken h = let e = right_device h in let n = length-append xs ys in (grind arith, grind arith, grind arith)

  -- what alters a pile on one side alters that pile of both
  left_altered : (f : ℕ → List ℕ → List ℕ) (zs : List Device) → d < length xs → Alters f xs d zs → Alters f (xs ++ ys) d (zs ++ ys)
  left_altered f zs h (w, e) =
      let moved = set-append_left (piles xs) (piles ys) d (f w (pile xs d)) (omega (arith, length-map xs (λ (x : Device). x.words))) in
      let same = ap (λ (x : Device). x.words) (left_device h) in
      (w, cc (e, moved, same, pair_piles zs ys, pair_piles xs ys))

  right_altered : (f : ℕ → List ℕ → List ℕ) (zs : List Device) → length xs ≤ d → Alters f ys (d - length xs) zs → Alters f (xs ++ ys) d (xs ++ zs)
  right_altered f zs h (w, e) =
      let moved = set-append_right (piles xs) (piles ys) (length xs) d (f w (pile ys (d - length xs))) (length-map xs (λ (x : Device). x.words)) h in
      let same = ap (λ (x : Device). x.words) (right_device h) in
      (w, cc (e, moved, same, pair_piles xs zs, pair_piles xs ys))

module _ {M N : Type 0} (limit : ℕ) (left : Kind M) (right : Kind N) (left_laws : Laws limit left) (right_laws : Laws limit right) where
  abbrev pair : Kind (M × N)
  pair = pair_kind left right

  abbrev count : M × N → ℕ
  count m = length (left.devices m.0)

  pair_means : (m : M × N) → pair.sound m → AreDevices limit (pair.devices m)
  pair_means m s =
      let l = left_laws.means m.0 s.0 in
      let r = right_laws.means m.1 s.1 in
      record {
        few = omega (arith, length-append (left.devices m.0) (right.devices m.1), s.2);
        words = rw (pair_piles (left.devices m.0) (right.devices m.1)) (All-append IsPile (piles (left.devices m.0)) (piles (right.devices m.1)) l.words r.words);
        errnos = All-append (λ (x : Device). x.hindrance ≤ limit) (left.devices m.0) (right.devices m.1) l.errnos r.errnos;
      }

  -- a change of piles keeps their number
  same_count : (xs ys : List Device) (d : ℕ) (p : List ℕ) → piles ys ≡ set (piles xs) d p → length ys ≡ length xs
  same_count xs ys d p e = sym (length-map ys (λ (x : Device). x.words)) ∙ (ap length e ∙ (length-set (piles xs) d p ∙ length-map xs (λ (x : Device). x.words)))

  -- device d is altered in the bank that has it, which then is x or y
  abbrev altered : M × N → ℕ → M → N → M × N
  altered m d x y = sided (count m) d (λ _. (x, m.1)) (λ _. (m.0, y))

  pair_altered : (f : ℕ → List ℕ → List ℕ) (m : M × N) (d : ℕ) (x : M) (y : N) → pair.sound m
      → (d < count m → left.sound x × Alters f (left.devices m.0) d (left.devices x))
      → (count m ≤ d → right.sound y × Alters f (right.devices m.1) (d - count m) (right.devices y))
      → pair.sound (altered m d x y) × Alters f (pair.devices m) d (pair.devices (altered m d x y))
  pair_altered f m d x y s on_left on_right = go (cases_lt d (count m))
    where
      go : (d < count m) ⊎ (count m ≤ d) → pair.sound (altered m d x y) × Alters f (pair.devices m) d (pair.devices (altered m d x y))
      go (inl h) =
          let below = on_left h in
          let n = same_count (left.devices m.0) (left.devices x) d _ below.1.1 in
          rw (lt-ltb d (count m) h) ((below.0, s.1, omega (arith, n, s.2)), left_altered (left.devices m.0) (right.devices m.1) d f (left.devices x) h below.1)
      go (inr h) =
          let below = on_right h in
          let n = same_count (right.devices m.1) (right.devices y) (d - count m) _ below.1.1 in
          rw (le-ltb d (count m) h) ((s.0, below.0, omega (arith, n, s.2)), right_altered (left.devices m.0) (right.devices m.1) d f (right.devices y) h below.1)

  pair_lowering : (m : M × N) (d : ℕ) → pair.sound m → is_lowered (pair.devices m) d ≡ true → pair.sound (pair.lowered m d) × GainsWord (pair.devices m) d (pair.devices (pair.lowered m d))
  pair_lowering m d s t =
      pair_altered (λ w p. w ∷ p) m d _ _ s
      (λ h. left_laws.lowering m.0 d s.0 (sym (left_taken (left.devices m.0) (right.devices m.1) d h).1 ∙ t))
      (λ h. right_laws.lowering m.1 (d - count m) s.1 (sym (right_taken (left.devices m.0) (right.devices m.1) d h).1 ∙ t))

  pair_raising : (m : M × N) (d : ℕ) → pair.sound m → is_raised (pair.devices m) d ≡ true → pair.sound (pair.raised m d) × LosesWord (pair.devices m) d (pair.devices (pair.raised m d))
  pair_raising m d s t =
      let (sound, (word, e)) = pair_altered (λ _ p. drop 1 p) m d (left.raised m.0 d) (right.raised m.1 (d - count m)) s
      (λ h. let below = left_laws.raising m.0 d s.0 (sym (left_taken (left.devices m.0) (right.devices m.1) d h).2 ∙ t) in (below.0, (0, below.1)))
      (λ h. let below = right_laws.raising m.1 (d - count m) s.1 (sym (right_taken (left.devices m.0) (right.devices m.1) d h).2 ∙ t) in (below.0, (0, below.1))) in (sound, e)

  pair_writing : (m : M × N) (d w : ℕ) → pair.sound m → w < 2 ^ 32 → is_put (pair.devices m) d ≡ true → pair.sound (pair.written m d w) × HoldsWord (pair.devices m) d w (pair.devices (pair.written m d w))
  pair_writing m d w s f t =
      let (sound, (word, e)) = pair_altered (λ _ _. w ∷ []) m d (left.written m.0 d w) (right.written m.1 (d - count m) w) s
      (λ h. let below = left_laws.writing m.0 d w s.0 f (sym (left_taken (left.devices m.0) (right.devices m.1) d h).0 ∙ t) in (below.0, (0, below.1)))
      (λ h. let below = right_laws.writing m.1 (d - count m) w s.1 f (sym (right_taken (left.devices m.0) (right.devices m.1) d h).0 ∙ t) in (below.0, (0, below.1))) in (sound, e)

  pub pair_lawful : Laws limit (pair_kind left right)
  pair_lawful = record { means = pair_means; lowering = pair_lowering; raising = pair_raising; writing = pair_writing }

module _ {M N : Type 0} (left : Kind M) (right : Kind N) where
  right_number : (m : M × N) (d : ℕ) → ltb (length (left.devices m.0) + d) (length (left.devices m.0)) ≡ false
  right_number m d = le-ltb _ _ (omega arith)

  right_taken_off : (m : M × N) (d : ℕ) → length (left.devices m.0) + d - length (left.devices m.0) ≡ d
  right_taken_off m d = omega arith

  pub pair_apart : Apart left right
  pair_apart = record {
    count = λ m. length-append (left.devices m.0) (right.devices m.1);
    left_device = λ m d h. left_device (left.devices m.0) (right.devices m.1) d h;
    right_device = λ m d. right_device (left.devices m.0) (right.devices m.1) (length (left.devices m.0) + d) (omega arith) ∙ ap (device (right.devices m.1)) (right_taken_off m d);
    left_calls = λ m d h. rw (lt-ltb d (length (left.devices m.0)) h) (refl, refl, λ w. refl);
    right_calls = λ m d. rw (right_number m d, right_taken_off m d) (refl, refl, λ w. refl);
  }
