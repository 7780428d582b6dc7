-- The refusals of a bank.
use Rattle.bank.specs.declared.fault.BankFault.{BankFault}
use Rattle.bank.specs.declared.fault.BankFault.TheVariants.{NoDevice, WrongLevel, TooMany}
use Rattle.refusal.specs.declared.layer.Layer.TheVariants.{Bank}
use Rattle.refusal.specs.declared.refusal.Refusal.{Refusal}

-- layer, number and place of each refusal
abbrev pub told : BankFault → Refusal
told (NoDevice device) = record { layer = Bank; number = 12; place = device }
told (WrongLevel device) = record { layer = Bank; number = 26; place = device }
told TooMany = record { layer = Bank; number = 27; place = 0 }
