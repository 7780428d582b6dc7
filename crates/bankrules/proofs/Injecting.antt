-- Injected errnos: the words are those below, and the laws are kept within any limit.
use Rattle.std.proofs.Common.{◌≡◌, ℕ, true, zero, suc, ◌+◌, ◌-◌, ◌*◌, ◌<◌, ◌≤◌, ◌^◌, List, [], ◌∷◌, ◌++◌, cond, eqb, length, get_or, set, drop, All, refl, sym, ap, ◌∙◌, ◌⊎◌, inl, inr, arith}
use Rattle.std.proofs.lemmas.List.{get_or_append_left, get_or_past}
use Rattle.std.proofs.lemmas.Bool.{cases_lt}
use Rattle.std.proofs.lemmas.List.Elements.{All-from_get_or, All-weaker}
use Rattle.bank.specs.Meaning.{hindrance, greatest_errno, Device, absent, device, pile, piles, level, deepest, put_answer, raise_answer, is_lowered, is_raised, is_put, AreDevices}
use Rattle.bank.specs.Laws.{GainsWord, LosesWord, HoldsWord, Kind, Laws}
use Rattle.bank.proofs.Changes.{lowered_parts}
use Rattle.bankrules.specs.Injections.{Over, cell_into_next, overlaid, injected, AreCells, injector_kind}

module _ (cells : List ℕ) where
  injected_count_from : (d : ℕ) (ds : List Device) → length (injected cells d ds) ≡ length ds
  injected_count_from d [] = refl
  injected_count_from d (x ∷ xs) = ap suc (injected_count_from (suc d) xs)

  injected_piles_from : (d : ℕ) (ds : List Device) → piles (injected cells d ds) ≡ piles ds
  injected_piles_from d [] = refl
  injected_piles_from d (x ∷ xs) = ap (λ (ps : List (List ℕ)). x.words ∷ ps) (injected_piles_from (suc d) xs)

  injected_device_from : (d : ℕ) (ds : List Device) (i : ℕ) → i < length ds → get_or (injected cells d ds) i absent ≡ overlaid cells (d + i) (get_or ds i absent)
  injected_device_from d (x ∷ xs) zero h = ap (λ n. overlaid cells n x) (omega arith)
  injected_device_from d (x ∷ xs) (suc i) h = injected_device_from (suc d) xs i (omega arith) ∙ ap (λ n. overlaid cells n (get_or xs i absent)) (omega arith)
  injected_device_from d [] i h = elim h [ ]

  injected_pile_from : (d : ℕ) (ds : List Device) (i : ℕ) → pile (injected cells d ds) i ≡ pile ds i
  injected_pile_from d [] i = refl
  injected_pile_from d (x ∷ xs) zero = refl
  injected_pile_from d (x ∷ xs) (suc i) = injected_pile_from (suc d) xs i

  module _ (ds : List Device) where
    pub injected_count : length (injected cells 0 ds) ≡ length ds
    injected_count = injected_count_from 0 ds

    pub injected_piles : piles (injected cells 0 ds) ≡ piles ds
    injected_piles = injected_piles_from 0 ds

    pub injected_device : (d : ℕ) → d < length ds → device (injected cells 0 ds) d ≡ overlaid cells d (device ds d)
    injected_device d h = injected_device_from 0 ds d h ∙ ap (λ n. overlaid cells n (device ds d)) (omega arith)

    pub injected_pile : (d : ℕ) → pile (injected cells 0 ds) d ≡ pile ds d
    injected_pile d = injected_pile_from 0 ds d

    -- puts and raisings are answered and made as below
    pub injected_put_answer : (d : ℕ) → put_answer (injected cells 0 ds) d ≡ put_answer ds d
    injected_put_answer d = rw (injected_count, injected_pile d) refl

    pub injected_is_put : (d : ℕ) → is_put (injected cells 0 ds) d ≡ is_put ds d
    injected_is_put d = rw (injected_count, injected_pile d) refl

    pub injected_raise_answer : (d : ℕ) → raise_answer (injected cells 0 ds) d ≡ raise_answer ds d
    injected_raise_answer d = rw (injected_count, injected_pile d) refl

    pub injected_is_raised : (d : ℕ) → is_raised (injected cells 0 ds) d ≡ is_raised ds d
    injected_is_raised d = rw (injected_count, injected_pile d) refl

    -- nothing hinders where nothing does below and the cell is 0
    injected_free : (d : ℕ) → is_lowered (injected cells 0 ds) d ≡ true → is_lowered ds d ≡ true
    injected_free d t =
        let parts = lowered_parts (injected cells 0 ds) d t in
        let inside : d < length ds = omega (arith, parts.0, injected_count) in
        let this = injected_device d inside in
        let l : level (injected cells 0 ds) d ≡ level ds d = ap (λ (p : List ℕ). length p - 1) (injected_pile d) in
        let low : level ds d < deepest = omega (arith, parts.1, l) in
        let free : (overlaid cells d (device ds d)).hindrance ≡ 0 = ap (λ (x : Device). x.hindrance) (sym this) ∙ parts.2 in
        grind arith

cell_fits : (limit : ℕ) (cells : List ℕ) (d l : ℕ) → AreCells limit cells → cell_into_next cells d l ≤ limit
cell_fits limit cells d l are = go (cases_lt (4 * d + l) (length cells))
  where
    go : ((4 * d + l) < length cells) ⊎ (length cells ≤ (4 * d + l)) → cell_into_next cells d l ≤ limit
    go (inl inside) = let h = are (4 * d + l) 0 inside in grind arith
    go (inr past) = let h = get_or_past cells (4 * d + l) 0 past in grind arith

overlaid_fits : (limit : ℕ) (cells : List ℕ) (d : ℕ) (x : Device) → AreCells limit cells → x.hindrance ≤ limit → (overlaid cells d x).hindrance ≤ limit
overlaid_fits limit cells d x are h = let c = cell_fits limit cells d (length x.words - 1) are in grind arith

module _ {M : Type 0} (limit : ℕ) (below : Kind M) (laws : Laws limit below) where
  abbrev shown : M × List ℕ → List Device
  shown m = injected m.1 0 (below.devices m.0)

  injected_means : (m : M × List ℕ) → below.sound m.0 × AreCells limit m.1 → AreDevices limit (shown m)
  injected_means m s =
      let under = laws.means m.0 s.0 in
      let ds = below.devices m.0 in
      let n = injected_count m.1 ds in
      record {
        few = omega (arith, n, under.few);
        words = rw (injected_piles m.1 ds) under.words;
        errnos = All-from_get_or (λ (x : Device). x.hindrance ≤ limit) (injected m.1 0 ds) absent
            (λ d h. let inside : d < length ds = omega (arith, n) in rw (injected_device m.1 ds d inside) (overlaid_fits limit m.1 d (device ds d) s.1 (under.errnos d absent inside)));
      }

  -- what alters a pile below alters it as it is shown
  injected_altered : (m : M × List ℕ) (d : ℕ) (f : List ℕ → List ℕ) (x : M) → piles (below.devices x) ≡ set (piles (below.devices m.0)) d (f (pile (below.devices m.0) d))
      → piles (shown (x, m.1)) ≡ set (piles (shown m)) d (f (pile (shown m) d))
  injected_altered m d f x e = rw (injected_piles m.1 (below.devices x), injected_piles m.1 (below.devices m.0), injected_pile m.1 (below.devices m.0) d) e

  injected_lowering : (m : M × List ℕ) (d : ℕ) → below.sound m.0 × AreCells limit m.1 → is_lowered (shown m) d ≡ true
      → (below.sound (below.lowered m.0 d) × AreCells limit m.1) × GainsWord (shown m) d (shown (below.lowered m.0 d, m.1))
  injected_lowering m d s t =
      let (sound, (w, e)) = laws.lowering m.0 d s.0 (injected_free m.1 (below.devices m.0) d t) in
      ((sound, s.1), (w, injected_altered m d (λ p. w ∷ p) _ e))

  injected_raising : (m : M × List ℕ) (d : ℕ) → below.sound m.0 × AreCells limit m.1 → is_raised (shown m) d ≡ true
      → (below.sound (below.raised m.0 d) × AreCells limit m.1) × LosesWord (shown m) d (shown (below.raised m.0 d, m.1))
  injected_raising m d s t =
      let (sound, e) = laws.raising m.0 d s.0 (sym (injected_is_raised m.1 (below.devices m.0) d) ∙ t) in
      ((sound, s.1), injected_altered m d (λ p. drop 1 p) _ e)

  injected_writing : (m : M × List ℕ) (d w : ℕ) → below.sound m.0 × AreCells limit m.1 → w < 2 ^ 32 → is_put (shown m) d ≡ true
      → (below.sound (below.written m.0 d w) × AreCells limit m.1) × HoldsWord (shown m) d w (shown (below.written m.0 d w, m.1))
  injected_writing m d w s f t =
      let (sound, e) = laws.writing m.0 d w s.0 f (sym (injected_is_put m.1 (below.devices m.0) d) ∙ t) in
      ((sound, s.1), injected_altered m d (λ _. w ∷ []) _ e)

  pub injector_lawful : Laws limit (injector_kind limit below)
  injector_lawful = record { means = injected_means; lowering = injected_lowering; raising = injected_raising; writing = injected_writing }

-- where all cells are 0 nothing is injected
overlaid_idle : (cells : List ℕ) → AreCells 0 cells → (d : ℕ) (x : Device) → overlaid cells d x ≡ x
overlaid_idle cells zeros d x = let c = cell_fits 0 cells d (length x.words - 1) zeros in grind arith

injected_idle_from : (cells : List ℕ) → AreCells 0 cells → (d : ℕ) (ds : List Device) → injected cells d ds ≡ ds
injected_idle_from cells zeros d [] = refl
injected_idle_from cells zeros d (x ∷ xs) = ap (λ (y : Device). y ∷ injected cells (suc d) xs) (overlaid_idle cells zeros d x) ∙ ap (λ (ys : List Device). x ∷ ys) (injected_idle_from cells zeros (suc d) xs)

pub injected_idle : (cells : List ℕ) → AreCells 0 cells → (ds : List Device) → injected cells 0 ds ≡ ds
injected_idle cells zeros ds = injected_idle_from cells zeros 0 ds

-- where none of the cells hinders, nothing is injected
pub idle_cells : (cells : List ℕ) (ds : List Device) → All (λ c. c ≡ 0) cells → injected cells 0 ds ≡ ds
idle_cells cells ds zeros = injected_idle cells (All-weaker (λ c. c ≡ 0) (λ c. c ≤ 0) (λ c e. omega arith) cells zeros) ds

-- bytes are within the greatest errno
pub byte_cells : (cells : List ℕ) → ((i d : ℕ) → i < length cells → get_or cells i d < 256) → AreCells greatest_errno cells
byte_cells cells bytes = λ k d h. let b = bytes k d h in omega arith

-- past the last device there is none on either side
injected_past : (cells : List ℕ) (ds : List Device) (d : ℕ) → length ds ≤ d → device (injected cells 0 ds) d ≡ device ds d
injected_past cells ds d h = get_or_past (injected cells 0 ds) d absent (omega (arith, injected_count cells ds)) ∙ sym (get_or_past ds d absent h)

-- a device that nothing is injected into is as below
untouched : (cells : List ℕ) (ds : List Device) (d : ℕ) → cell_into_next cells d (level ds d) ≡ 0 → device (injected cells 0 ds) d ≡ device ds d
untouched cells ds d none = go (cases_lt d (length ds))
  where
    same : (x : Device) → cell_into_next cells d (length x.words - 1) ≡ 0 → overlaid cells d x ≡ x
    same x e = grind arith

    go : (d < length ds) ⊎ (length ds ≤ d) → device (injected cells 0 ds) d ≡ device ds d
    go (inl h) = injected_device cells ds d h ∙ same (device ds d) none
    go (inr h) = injected_past cells ds d h

touched : (cells : List ℕ) (ds : List Device) (d : ℕ) → d < length ds → level ds d < deepest → 0 < get_or cells (4 * d + level ds d) 0 → hindrance (injected cells 0 ds) d ≡ get_or cells (4 * d + level ds d) 0
touched cells ds d h low some = ap (λ (x : Device). x.hindrance) (injected_device cells ds d h) ∙ (grind arith)

-- a cell of one of the first devices does not depend on what follows
same_cell : (cells more : List ℕ) (d l n : ℕ) → d < n → 4 * n ≤ length cells → cell_into_next (cells ++ more) d l ≡ cell_into_next cells d l
same_cell cells more d l n h long = go (cases_lt l deepest)
  where
    go : (l < deepest) ⊎ (deepest ≤ l) → cell_into_next (cells ++ more) d l ≡ cell_into_next cells d l
    go (inl low) = let e = get_or_append_left cells more 0 (4 * d + l) (omega arith) in grind arith
    go (inr deep) = grind arith

cells_past : (cells more : List ℕ) (d : ℕ) (ds : List Device) → 4 * (d + length ds) ≤ length cells → injected (cells ++ more) d ds ≡ injected cells d ds
cells_past cells more d [] long = refl
cells_past cells more d (x ∷ xs) long =
    let e : overlaid (cells ++ more) d x ≡ overlaid cells d x = ap (λ c. record { words = x.words; hindrance = cond (eqb c 0) x.hindrance c }) (same_cell cells more d (length x.words - 1) (d + suc (length xs)) (omega arith) long) in
    ap (λ (y : Device). y ∷ injected (cells ++ more) (suc d) xs) e ∙ ap (λ (ys : List Device). overlaid cells d x ∷ ys) (cells_past cells more (suc d) xs (omega arith))

module _ {M : Type 0} (limit : ℕ) (below : Kind M) where
  pub injector_over : Over limit below
  injector_over = record {
    count = λ m. injected_count m.1 (below.devices m.0);
    words = λ m. injected_piles m.1 (below.devices m.0);
    past = λ m cells more long. cells_past cells more 0 (below.devices m) (omega arith);
    cell = λ m d h low some. touched m.1 (below.devices m.0) d h low some;
    no_cell = λ m d none. untouched m.1 (below.devices m.0) d (no_cell_none m.1 d (level (below.devices m.0) d) none);
    bottom = λ m d deep. untouched m.1 (below.devices m.0) d (no_cell_deep m.1 d (level (below.devices m.0) d) deep);
    idle = λ m zeros. idle_cells m.1 (below.devices m.0) zeros;
  }
    where
      no_cell_none : (cells : List ℕ) (d l : ℕ) → get_or cells (4 * d + l) 0 ≡ 0 → cell_into_next cells d l ≡ 0
      no_cell_none cells d l e = grind arith

      no_cell_deep : (cells : List ℕ) (d l : ℕ) → deepest ≤ l → cell_into_next cells d l ≡ 0
      no_cell_deep cells d l e = grind arith
