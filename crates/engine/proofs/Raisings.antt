-- One raising of those that a close makes.
use Rattle.std.proofs.Common.{◌≡◌, ℕ, suc, ◌+◌, List, [], ◌∷◌, ◌++◌, append_assoc, ap, ◌∙◌, arith}
use Rattle.std.specs.Prelude.{pos}
use Rattle.bank.specs.Laws.{Kind}
use Rattle.history.specs.declared.entry.Entry.{Entry}
use Rattle.history.specs.declared.entry.Direction.TheVariants.{Up}
use Rattle.history.specs.Schedule.{device_of}
use Rattle.history.specs.Rules.{all_raised, entry, entries_up}

-- what is left to raise makes of the bank what was to be made of it before
pub left_raised : {M : Type 0} (kind : Kind M) (order : List ℕ) (before after : M) (k j : ℕ) → j + 1 ≡ k → after ≡ kind.raised before (device_of order j)
    → all_raised kind order j after ≡ all_raised kind order k before
left_raised kind order before after k j e a =
    ap (all_raised kind order j) a ∙ ap (λ i. all_raised kind order i before) (let s : suc j ≡ k = omega arith in s)

-- and records what was to be recorded before
pub left_recorded : (order : List ℕ) (journal longer : List Entry) (k j : ℕ) → j + 1 ≡ k → longer ≡ journal ++ entry order Up j (pos 0) ∷ []
    → longer ++ entries_up order j ≡ journal ++ entries_up order k
left_recorded order journal longer k j e a =
    ap (λ (js : List Entry). js ++ entries_up order j) a ∙ append_assoc journal (entry order Up j (pos 0) ∷ []) (entries_up order j)
    ∙ ap (λ i. journal ++ entries_up order i) (let s : suc j ≡ k = omega arith in s)
