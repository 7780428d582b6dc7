-- What one lowering and one raising of the schedule give, and make of a bank.
use Rattle.std.specs.Prelude.{◌≡◌, ◌≢◌, ℕ, suc, ℤ, pos, neg_ℤ, List, [], ◌∷◌, ◌++◌, Ok, Result}
use Rattle.bank.specs.declared.fault.BankFault.{BankFault}
use Rattle.bank.specs.Meaning.{hindrance}
use Rattle.bank.specs.Laws.{Kind}
use Rattle.history.specs.Schedule.{device_of, level_sum}
use Rattle.history.specs.Keeping.{Scheduled}
use Rattle.history.specs.Rules.{entry}
use Rattle.history.specs.declared.entry.Entry.{Entry}
use Rattle.history.specs.declared.entry.Direction.TheVariants.{Up}

module _ {M : Type 0} (kind : Kind M) (order : List ℕ) where
  -- the raising that undoes lowering j is never refused
  pub record Undone (before after : M) (j : ℕ) (answer : Result ℤ BankFault) : Type 0 where
    pub obeyed : answer ≡ Ok (pos 0)
    pub raised : after ≡ kind.raised before (device_of order j)
    pub scheduled : Scheduled order (kind.devices after)
    pub less : level_sum (kind.devices after) ≡ j

  -- nor is lowering j; it changes nothing where the device is hindered
  pub record Made (before after : M) (j : ℕ) (answer : Result ℤ BankFault) : Type 0 where
    pub obeyed : answer ≡ Ok (neg_ℤ (pos (hindrance (kind.devices before) (device_of order j))))
    pub scheduled : Scheduled order (kind.devices after)
    pub hindered : hindrance (kind.devices before) (device_of order j) ≢ 0 → after ≡ before
    pub lowered : hindrance (kind.devices before) (device_of order j) ≡ 0 → after ≡ kind.lowered before (device_of order j)
    pub more : hindrance (kind.devices before) (device_of order j) ≡ 0 → level_sum (kind.devices after) ≡ suc j

  -- nor is a put for a device of the order while every device is at level 0
  pub record Put (before after : M) (d w : ℕ) (answer : Result (Unit {0}) BankFault) : Type 0 where
    pub obeyed : answer ≡ Ok (tt {0})
    pub written : after ≡ kind.written before d w
    pub scheduled : Scheduled order (kind.devices after)
    pub none : level_sum (kind.devices after) ≡ 0

  -- the last lowering that stood is undone, and the journal has an entry more; j lowerings are left
  pub record RaisesLast (before : M) (journal : List Entry) (after : M) (longer : List Entry) (j : ℕ) : Type 0 where
    pub raised : after ≡ kind.raised before (device_of order j)
    pub recorded : longer ≡ journal ++ entry order Up j (pos 0) ∷ []
