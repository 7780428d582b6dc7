-- Piles of words that are pushed on in turn: `turn j` is the pile that push j takes. `Held j` holds of all piles after j pushes, and
-- taking the last push off gives the piles before it.
use Rattle.std.proofs.Common.{◌≡◌, ℕ, zero, suc, ◌<◌, List, [], ◌∷◌, length, get_or, set, drop, ap, sym, ◌∙◌, subst}
use Rattle.std.proofs.lemmas.List.{get_or-set_same, set-set, set-get_or}

abbrev pub Stacked : (ℕ → ℕ) → (ℕ → List (List ℕ) → Type 0) → ℕ → List (List ℕ) → Type 0
Stacked turn Held zero ps = Held 0 ps
Stacked turn Held (suc k) ps =
    Held (suc k) ps
    × ((below : List (List ℕ)) × (w : ℕ) × (turn k < length below) × (ps ≡ set below (turn k) (w ∷ get_or below (turn k) [])) × Stacked turn Held k below)

pub stacked_top : (turn : ℕ → ℕ) (Held : ℕ → List (List ℕ) → Type 0) (k : ℕ) (ps : List (List ℕ)) → Stacked turn Held k ps → Held k ps
stacked_top turn Held zero ps t = t
stacked_top turn Held (suc k) ps t = t.0

-- where more is known of the piles after each push
pub stacked_same : (turn : ℕ → ℕ) (Held Held' : ℕ → List (List ℕ) → Type 0) → ((j : ℕ) (qs : List (List ℕ)) → Held j qs → Held' j qs)
    → (k : ℕ) (ps : List (List ℕ)) → Stacked turn Held k ps → Stacked turn Held' k ps
stacked_same turn Held Held' e zero ps t = e 0 ps t
stacked_same turn Held Held' e (suc k) ps (top, (below, w, i, p, t)) = (e (suc k) ps top, (below, w, i, p, stacked_same turn Held Held' e k below t))

-- a word put on a pile and taken off again
popped : (below : List (List ℕ)) (x w : ℕ) → x < length below
    → set (set below x (w ∷ get_or below x [])) x (drop 1 (get_or (set below x (w ∷ get_or below x [])) x [])) ≡ below
popped below x w i =
    ap (λ (p : List ℕ). set (set below x (w ∷ get_or below x [])) x (drop 1 p)) (get_or-set_same below x (w ∷ get_or below x []) [] i)
    ∙ set-set below x (w ∷ get_or below x []) (get_or below x []) ∙ set-get_or below x []

pub stacked_pop : (turn : ℕ → ℕ) (Held : ℕ → List (List ℕ) → Type 0) (k : ℕ) (ps ps' : List (List ℕ)) → Stacked turn Held (suc k) ps
    → ps' ≡ set ps (turn k) (drop 1 (get_or ps (turn k) [])) → Stacked turn Held k ps'
stacked_pop turn Held k ps ps' (top, (below, w, i, p, t)) e =
    let back : ps' ≡ below = e ∙ ap (λ (qs : List (List ℕ)). set qs (turn k) (drop 1 (get_or qs (turn k) []))) p ∙ popped below (turn k) w i in
    subst (λ (qs : List (List ℕ)). Stacked turn Held k qs) (sym back) t
