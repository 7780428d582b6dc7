-- A cell that is written and gets its old byte back.
use Rattle.std.proofs.Common.{◌≡◌, ℕ, ◌+◌, ◌-◌, ◌*◌, ◌<◌, ◌≤◌, List, length, get_or, set, refl, inl, inr, ◌∙◌, arith}
use Rattle.std.proofs.lemmas.Bool.{cases_lt, lt-ltb, le-ltb}
use Rattle.bank.specs.Meaning.{deepest}
use Rattle.run.specs.Asking.{WritesRightCell, cell}
use Rattle.std.proofs.lemmas.List.{set-set, set-get_or, get_or-set_same, get_or-set_other}

pub restored : (cells : List ℕ) (place byte : ℕ) → set (set cells place byte) place (get_or cells place 0) ≡ cells
restored cells place byte = set-set cells place byte (get_or cells place 0) ∙ set-get_or cells place 0

-- another device or another level has another place
other_place : (device level d l : ℕ) → 1 ≤ level → level ≤ 4 → l < 4 → ((d ≡ device) × (l + 1 ≡ level) → ⊥) → 4 * d + l ≡ cell device level → ⊥
other_place device level d l least most low other e =
    let same : d ≡ device = omega (arith, e, least, most, low) in
    other (same, omega (arith, e, same, least))

pub fits : (bs sheet : List ℕ) (device level byte : ℕ) → WritesRightCell bs sheet device level byte
fits bs sheet device level byte can =
    let place = cell device level in
    let at : 4 * device + (level - 1) ≡ place = omega (arith, can.leads.least) in
    let inside : place < length sheet = omega (arith, can.files.cells, can.known, can.leads.least, can.leads.most) in
    let low : level - 1 < deepest = omega (arith, can.leads.least, can.leads.most) in
    record {
      there = rw (lt-ltb (level - 1) deepest low, at) (get_or-set_same sheet place byte 0 inside);
      elsewhere = λ d l other. elim (cases_lt l deepest) [
        | inl shallow ↦ rw (lt-ltb l deepest shallow) (get_or-set_other sheet place (4 * d + l) byte 0 (other_place device level d l can.leads.least can.leads.most shallow other))
        | inr deep ↦ rw (le-ltb l deepest deep) refl
      ];
    }
