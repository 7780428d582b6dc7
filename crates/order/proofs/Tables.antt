-- Tables of superiors: what a new one holds, and the test of one.
use Rattle.std.proofs.Common.{ℕ, ◌<◌, ◌≤◌, ◌⊎◌, replicate, inl, inr}
use Rattle.std.proofs.lemmas.List.{get_or-replicate, get_or_past, length-replicate}
use Rattle.std.proofs.lemmas.Bool.{cases_lt}
use Rattle.std.proofs.lemmas.Bool.Decides.{Decides-eqb}
use Rattle.order.specs.declared.set.DeviceSet.{DeviceSet}
use Rattle.order.specs.declared.superiors.Superiors.{Superiors}
use Rattle.order.specs.Sets.{Bit, In}
use Rattle.order.specs.Answers.{Superior, is_superior}
use Rattle.order.specs.Rule.{Tests}
use Rattle.order.specs.Tables.{Above}
use Rattle.order.proofs.Bits.{none_in}

-- a table of empty sets shows no superior
pub bare : (empty : DeviceSet) → ((e : ℕ) → In empty e → ⊥) → (k s d : ℕ) → Above (replicate k empty) s d → ⊥
bare empty nothing k s d h = go (cases_lt d k)
  where
    go : (d < k) ⊎ (k ≤ d) → ⊥
    go (inl l) = nothing s (rw (get_or-replicate k d empty _ l) at h)
    go (inr l) = none_in s (rw (get_or_past (replicate k empty) d _ (simp length-replicate l)) at h)

-- the test answers for the relation
pub is_superior_tests : (table : Superiors) → Tests (is_superior table) (Superior table)
unfolding Bit
is_superior_tests table s d = Decides-eqb _ 1
