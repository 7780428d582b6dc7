-- Two banks as one: the devices of the left come first.
use Rattle.std.specs.Prelude.{◌≡◌, ℕ, ◌<◌, ◌+◌, ◌-◌, ◌≤◌, ◌++◌, length, min, nat_lt, if◌then◌else◌, Ok, Err, Result}
use Rattle.bank.specs.Laws.{Kind}
use Rattle.bank.specs.Meaning.{device, most_devices}
use Rattle.bank.specs.declared.fault.BankFault.{BankFault}
use Rattle.bank.specs.declared.fault.BankFault.TheVariants.{NoDevice, WrongLevel, TooMany}

-- numbers below n go left, the others right with n taken off
abbrev pub sided : {A : Type 0} → ℕ → ℕ → (ℕ → A) → (ℕ → A) → A
sided n d left right = if nat_lt d n then left d else right (d - n)

-- the same fault of a device that has n devices before it, as far as a byte can tell
abbrev pub behind : ℕ → BankFault → BankFault
behind n (NoDevice d) = NoDevice (min (d + n) 255)
behind n (WrongLevel d) = WrongLevel (min (d + n) 255)
behind n TooMany = TooMany

-- what a bank answers that has n devices before it
abbrev pub answer_behind : {A : Type 0} → ℕ → Result A BankFault → Result A BankFault
answer_behind n (Ok x) = Ok x
answer_behind n (Err fault) = Err (behind n fault)

abbrev pub pair_kind : {M N : Type 0} → Kind M → Kind N → Kind (M × N)
pair_kind left right =
    record {
      devices = λ m. left.devices m.0 ++ right.devices m.1;
      lowered = λ m d. sided (length (left.devices m.0)) d (λ i. (left.lowered m.0 i, m.1)) (λ i. (m.0, right.lowered m.1 i));
      raised = λ m d. sided (length (left.devices m.0)) d (λ i. (left.raised m.0 i, m.1)) (λ i. (m.0, right.raised m.1 i));
      written = λ m d w. sided (length (left.devices m.0)) d (λ i. (left.written m.0 i w, m.1)) (λ i. (m.0, right.written m.1 i w));
      sound = λ m. left.sound m.0 × right.sound m.1 × (length (left.devices m.0) + length (right.devices m.1) ≤ most_devices);
    }

-- A device of a pair is a device of one side, and a call for it changes nothing on the other. The right's devices are numbered from
-- the left count on.
pub record Apart {M N : Type 0} (left : Kind M) (right : Kind N) : Type 0 where
  pub count : (m : M × N) → length ((pair_kind left right).devices m) ≡ length (left.devices m.0) + length (right.devices m.1)
  pub left_device : (m : M × N) (d : ℕ) → d < length (left.devices m.0) → device ((pair_kind left right).devices m) d ≡ device (left.devices m.0) d
  pub right_device : (m : M × N) (d : ℕ) → device ((pair_kind left right).devices m) (length (left.devices m.0) + d) ≡ device (right.devices m.1) d
  pub left_calls : (m : M × N) (d : ℕ) → d < length (left.devices m.0)
      → ((pair_kind left right).lowered m d ≡ (left.lowered m.0 d, m.1)) × ((pair_kind left right).raised m d ≡ (left.raised m.0 d, m.1))
      × ((w : ℕ) → (pair_kind left right).written m d w ≡ (left.written m.0 d w, m.1))
  pub right_calls : (m : M × N) (d : ℕ) → let e = length (left.devices m.0) + d in
      ((pair_kind left right).lowered m e ≡ (m.0, right.lowered m.1 d)) × ((pair_kind left right).raised m e ≡ (m.0, right.raised m.1 d))
      × ((w : ℕ) → (pair_kind left right).written m e w ≡ (m.0, right.written m.1 d w))
