-- Errnos that are injected over the hindrances of another bank.
use Rattle.std.specs.Prelude.{◌≡◌, ℕ, suc, ◌+◌, ◌-◌, ◌*◌, ◌<◌, ◌≤◌, ◌==◌, nat_lt, if◌then◌else◌, List, [], ◌∷◌, ◌++◌, length, slice_index_or, All}
use Rattle.bank.specs.Laws.{Kind}
use Rattle.bank.specs.Meaning.{Device, device, piles, level, hindrance, deepest}

-- Cells are a list of four for each device, one for each of the levels 1 to 4. The cell of device d for level l + 1; there is none
-- past the deepest level, and one that is missing counts as 0
abbrev pub cell_into_next : List ℕ → ℕ → ℕ → ℕ
cell_into_next cells d l = if nat_lt l deepest then slice_index_or cells (4 * d + l) 0 else 0

-- a cell that is not zero takes the place of what hinders below
abbrev pub overlaid : List ℕ → ℕ → Device → Device
overlaid cells d x =
    let cell = cell_into_next cells d (length x.words - 1) in
    record { words = x.words; hindrance = if cell == 0 then x.hindrance else cell }

-- these devices, of which the first has number d
abbrev pub injected : List ℕ → ℕ → List Device → List Device
injected cells d [] = []
injected cells d (x ∷ xs) = overlaid cells d x ∷ injected cells (suc d) xs

-- no cell is above the limit
abbrev pub AreCells : ℕ → List ℕ → Type 0
AreCells limit cells = All (λ c. c ≤ limit) cells

-- the kind of an injector on a bank, with errnos up to the limit in its cells
abbrev pub injector_kind : {M : Type 0} → ℕ → Kind M → Kind (M × List ℕ)
injector_kind limit below =
    record {
      devices = λ m. injected m.1 0 (below.devices m.0);
      lowered = λ m d. (below.lowered m.0 d, m.1);
      raised = λ m d. (below.raised m.0 d, m.1);
      written = λ m d w. (below.written m.0 d w, m.1);
      sound = λ m. below.sound m.0 × AreCells limit m.1;
    }

-- What an injector shows of a bank: the words below, and what a cell injects where it is not zero
pub record Over {M : Type 0} (limit : ℕ) (below : Kind M) : Type 0 where
  pub count : (m : M × List ℕ) → length ((injector_kind limit below).devices m) ≡ length (below.devices m.0)
  pub words : (m : M × List ℕ) → piles ((injector_kind limit below).devices m) ≡ piles (below.devices m.0)
  pub cell : (m : M × List ℕ) (d : ℕ) → d < length (below.devices m.0) → level (below.devices m.0) d < deepest → 0 < slice_index_or m.1 (4 * d + level (below.devices m.0) d) 0
      → hindrance ((injector_kind limit below).devices m) d ≡ slice_index_or m.1 (4 * d + level (below.devices m.0) d) 0
  pub no_cell : (m : M × List ℕ) (d : ℕ) → slice_index_or m.1 (4 * d + level (below.devices m.0) d) 0 ≡ 0
      → device ((injector_kind limit below).devices m) d ≡ device (below.devices m.0) d
  pub bottom : (m : M × List ℕ) (d : ℕ) → deepest ≤ level (below.devices m.0) d → device ((injector_kind limit below).devices m) d ≡ device (below.devices m.0) d
  -- where no cell injects, it shows what is shown below
  pub idle : (m : M × List ℕ) → All (λ c. c ≡ 0) m.1 → (injector_kind limit below).devices m ≡ below.devices m.0
  -- cells past those of the devices have no effect
  pub past : (m : M) (cells more : List ℕ) → 4 * length (below.devices m) ≤ length cells → (injector_kind limit below).devices (m, cells ++ more) ≡ (injector_kind limit below).devices (m, cells)
