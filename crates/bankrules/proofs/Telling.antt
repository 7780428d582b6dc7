-- The rules of the banks: the first word tells the others, and errnos are within the limit.
use Rattle.std.proofs.Common.{◌≡◌, ℕ, zero, suc, ◌-◌, ◌<◌, ◌≤◌, ◌^◌, List, length, All, refl, sym, ap, ◌∙◌, arith}
use Rattle.bank.specs.Meaning.{Device, greatest_errno, deepest, level, hindrance}
use Rattle.bank.proofs.Changes.{lowered_parts}
use Rattle.bankrules.proofs.Ruling.{ruled_count, ruled_device}
use Rattle.std.proofs.lemmas.Bool.{false_from_ne_true}
use Rattle.std.proofs.Math.Nat.{div-mul-le_self}
use Rattle.bankrules.specs.declared.standing.Standing.{Standing}
use Rattle.bankrules.specs.Rules.{standing, devices_of, FirstWordsTell}
use Rattle.bankrules.proofs.Descents.{Tells, first_words_tell}
use Rattle.bankrules.specs.Register.{register_hinders, register_adds, register_kind, register_word, cleared}
use Rattle.bankrules.specs.Bus.{bus_hinders, bus_adds, bus_kind, bus_word, MembersHeld}
use Rattle.bankrules.specs.Quiet.{quiet_hinders, quiet_adds, quiet_kind, quiet_word}

pub register_errnos : (s : Standing) → register_hinders s ≤ greatest_errno
register_errnos s = grind arith

pub bus_errnos : (s : Standing) → bus_hinders s ≤ greatest_errno
bus_errnos s = grind arith

pub quiet_errnos : (s : Standing) → quiet_hinders s ≤ greatest_errno
quiet_errnos s = omega arith

pub quiet_words : (l w : ℕ) → w < 2 ^ 32 → quiet_adds l w < 2 ^ 32
quiet_words l w h = h

pub quiet_tells : Tells quiet_word quiet_adds
quiet_tells = record { first = λ w. refl; next = λ w l h k. refl }

pub bus_words : (l w : ℕ) → w < 2 ^ 32 → bus_adds l w < 2 ^ 32
bus_words l w h = grind arith

pub bus_tells : Tells bus_word bus_adds
bus_tells = record { first = λ w. refl; next = λ w l h k. grind arith }

-- to clear more bits after fewer is to clear more
cleared_more : (w : ℕ) → cleared (cleared w 16) 24 ≡ cleared w 24
cleared_more w = omega arith

cleared_less : (w k : ℕ) → cleared w k ≤ w
cleared_less w k = div-mul-le_self w (2 ^ k)

pub register_words : (l w : ℕ) → w < 2 ^ 32 → register_adds l w < 2 ^ 32
register_words l w h = grind (arith, cleared_less w 16, cleared_less w 24)

register_next : (w l : ℕ) → w < 2 ^ 32 → l < deepest → register_word w (suc l) ≡ register_adds l (register_word w l)
register_next w zero h k = refl
register_next w (suc zero) h k = refl
register_next w (suc (suc zero)) h k = sym (cleared_more w)
register_next w (suc (suc (suc zero))) h k = refl
register_next w (suc (suc (suc (suc l)))) h k = absurd (omega arith)

pub register_tells : Tells register_word register_adds
register_tells = record {
  first = λ w. refl;
  next = register_next;
}

free_member : (piles : List (List ℕ)) (d : ℕ) → 0 < d → d < length piles → 2 ≤ level (devices_of bus_hinders piles) 0 → level (devices_of bus_hinders piles) d < level (devices_of bus_hinders piles) 0
    → hindrance (devices_of bus_hinders piles) d ≡ 0 → ⊥
free_member piles d some inside deep past free =
    let first = ruled_device bus_hinders piles 0 (omega arith) in
    let this = ruled_device bus_hinders piles d inside in
    let c : level (devices_of bus_hinders piles) 0 ≡ (standing piles d).first_level = ap (λ (x : Device). length x.words - 1) first in
    let l : level (devices_of bus_hinders piles) d ≡ (standing piles d).level = ap (λ (x : Device). length x.words - 1) this in
    let h : hindrance (devices_of bus_hinders piles) d ≡ bus_hinders (standing piles d) = ap (λ (x : Device). x.hindrance) this in
    let e : bus_hinders (standing piles d) ≡ 0 = sym h ∙ free in
    let e2 : 2 ≤ (standing piles d).first_level = omega (arith, c) in
    let e3 : (standing piles d).level < (standing piles d).first_level = omega (arith, c, l) in
    grind arith

pub members_held : MembersHeld bus_kind
members_held piles d some deep past =
    false_from_ne_true _ (λ t. let parts = lowered_parts (devices_of bus_hinders piles) d t in free_member piles d some (omega (arith, parts.0, ruled_count bus_hinders piles)) deep past parts.2)

pub register_told : (words : List ℕ) → All (λ w. w < 2 ^ 32) words → FirstWordsTell register_word register_kind words
register_told words fit = first_words_tell register_word register_adds register_tells register_hinders words fit

pub bus_told : (words : List ℕ) → All (λ w. w < 2 ^ 32) words → FirstWordsTell bus_word bus_kind words
bus_told words fit = first_words_tell bus_word bus_adds bus_tells bus_hinders words fit

pub quiet_told : (words : List ℕ) → All (λ w. w < 2 ^ 32) words → FirstWordsTell quiet_word quiet_kind words
quiet_told words fit = first_words_tell quiet_word quiet_adds quiet_tells quiet_hinders words fit
