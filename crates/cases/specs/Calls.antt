-- The calls of banks in the worked cases, and what they are answered.
use Rattle.std.specs.Prelude.{ℕ, List, [], ◌∷◌, pos, neg_ℤ, Ok, Err, Result}
use Rattle.bank.specs.declared.call.Call.{Call}
use Rattle.bank.specs.declared.call.Call.TheVariants.{Count, Look, Put, Lower, Raise}
use Rattle.bank.specs.declared.call.Reply.{Reply}
use Rattle.bank.specs.declared.call.Reply.TheVariants.{Counted, Seen, Done, Code}
use Rattle.bank.specs.declared.fault.BankFault.{BankFault}
use Rattle.bank.specs.declared.fault.BankFault.TheVariants.{NoDevice, WrongLevel}

-- level, working word, hindrance
abbrev pub sees : ℕ → ℕ → ℕ → Result Reply BankFault
sees level word hindrance = Ok (Seen level word hindrance)

-- the errno negated
abbrev pub code : ℕ → Result Reply BankFault
code errno = Ok (Code (neg_ℤ (pos errno)))

-- clk goes down to level 4, and one level up again
abbrev pub down_and_up : List Call
down_and_up = Look 0 ∷ Lower 0 ∷ Look 0 ∷ Lower 0 ∷ Look 0 ∷ Lower 0 ∷ Look 0 ∷ Lower 0 ∷ Look 0 ∷ Lower 0 ∷ Raise 0 ∷ Look 0 ∷ []

abbrev pub down_and_up_answers : List (Result Reply BankFault)
down_and_up_answers =
    sees 0 0x21A1B2C3 0 ∷ code 0 ∷ sees 1 0x21A1B2C3 0 ∷ code 0 ∷ sees 2 0x21A10000 0 ∷ code 0 ∷ sees 3 0x21000000 0 ∷ code 0 ∷ sees 4 0 0 ∷ Err (WrongLevel 0)
    ∷ code 0 ∷ sees 3 0x21000000 0 ∷ []

-- a device whose highest bit is set is busy at level 1
abbrev pub too_busy : List Call
too_busy = Look 0 ∷ Lower 0 ∷ Look 0 ∷ Lower 0 ∷ Look 0 ∷ Look 1 ∷ []

abbrev pub too_busy_answers : List (Result Reply BankFault)
too_busy_answers = sees 0 0x80000000 0 ∷ code 0 ∷ sees 1 0x80000000 16 ∷ code 16 ∷ sees 1 0x80000000 16 ∷ Err (NoDevice 1) ∷ []

-- a cell hinders i2c, device 1, on its way into level 2, where nothing else hinders it
abbrev pub cell_hinders : List Call
cell_hinders = Lower 0 ∷ Lower 1 ∷ Lower 2 ∷ Lower 3 ∷ Lower 3 ∷ Lower 2 ∷ Look 1 ∷ Lower 1 ∷ Raise 2 ∷ Look 2 ∷ Look 3 ∷ Put 2 1 ∷ Look 4 ∷ []

abbrev pub cell_hinders_answers : List (Result Reply BankFault)
cell_hinders_answers =
    code 0 ∷ code 0 ∷ code 0 ∷ code 0 ∷ code 0 ∷ code 0 ∷ sees 1 0 110 ∷ code 110 ∷ code 0 ∷ sees 1 0x500 0 ∷ sees 2 7 0 ∷ Err (WrongLevel 2) ∷ Err (NoDevice 4) ∷ []

-- a bus whose controller, device 1, goes past its member and comes back; the member is then busy
abbrev pub controller_past : List Call
controller_past = Count ∷ Lower 1 ∷ Lower 1 ∷ Look 2 ∷ Lower 2 ∷ Raise 1 ∷ Lower 2 ∷ Lower 2 ∷ Raise 1 ∷ Put 1 9 ∷ Look 1 ∷ Lower 0 ∷ Look 0 ∷ []

abbrev pub controller_past_answers : List (Result Reply BankFault)
controller_past_answers =
    Ok (Counted 3) ∷ code 0 ∷ code 0 ∷ sees 0 0x501 5 ∷ code 5 ∷ code 0 ∷ code 0 ∷ code 16 ∷ code 0 ∷ Ok Done ∷ sees 0 9 0 ∷ code 0 ∷ sees 1 0x80000000 16 ∷ []

-- of a register device with every bit but the highest nothing hinders it, and each level keeps the bits that are its own
abbrev pub not_busy : List Call
not_busy = Lower 0 ∷ Look 0 ∷ Lower 0 ∷ Look 0 ∷ Lower 0 ∷ Look 0 ∷ []

abbrev pub not_busy_answers : List (Result Reply BankFault)
not_busy_answers = code 0 ∷ sees 1 0x7FFFFFFF 0 ∷ code 0 ∷ sees 2 0x7FFF0000 0 ∷ code 0 ∷ sees 3 0x7F000000 0 ∷ []

-- each bit of its word's lowest byte makes a member of a bus busy at level 1, and none of the others does; a controller never is
abbrev pub low_bytes : List Call
low_bytes =
    Lower 1 ∷ Look 1 ∷ Lower 2 ∷ Look 2 ∷ Lower 3 ∷ Look 3 ∷ Lower 4 ∷ Look 4 ∷ Lower 5 ∷ Look 5 ∷ Lower 6 ∷ Look 6 ∷ Lower 7 ∷ Look 7 ∷ Lower 8 ∷ Look 8
    ∷ Lower 9 ∷ Look 9 ∷ Lower 9 ∷ Look 9 ∷ Lower 0 ∷ Look 0 ∷ []

abbrev pub low_bytes_answers : List (Result Reply BankFault)
low_bytes_answers =
    code 0 ∷ sees 1 1 16 ∷ code 0 ∷ sees 1 2 16 ∷ code 0 ∷ sees 1 4 16 ∷ code 0 ∷ sees 1 8 16 ∷ code 0 ∷ sees 1 16 16 ∷ code 0 ∷ sees 1 32 16 ∷ code 0 ∷ sees 1 64 16
    ∷ code 0 ∷ sees 1 128 16 ∷ code 0 ∷ sees 1 0xFFFFFF00 0 ∷ code 0 ∷ sees 2 0xFFFFFF00 0 ∷ code 0 ∷ sees 1 0xFF 0 ∷ []

-- the controller goes past a busy member at level 1, and comes back; then it goes down to level 4, and a quiet device does
abbrev pub past_and_busy : List Call
past_and_busy =
    Lower 0 ∷ Look 0 ∷ Lower 1 ∷ Lower 0 ∷ Look 1 ∷ Raise 0 ∷ Look 1 ∷ Lower 0 ∷ Lower 0 ∷ Lower 0 ∷ Look 0 ∷ Lower 2 ∷ Lower 2 ∷ Lower 2 ∷ Look 2 ∷ Lower 2 ∷ Look 2 ∷ []

abbrev pub past_and_busy_answers : List (Result Reply BankFault)
past_and_busy_answers =
    code 0 ∷ sees 1 9 0 ∷ code 0 ∷ code 0 ∷ sees 1 0x580 5 ∷ code 0 ∷ sees 1 0x580 16 ∷ code 0 ∷ code 0 ∷ code 0 ∷ sees 4 0 0 ∷ code 0 ∷ code 0 ∷ code 0 ∷ sees 3 7 0
    ∷ code 0 ∷ sees 4 7 0 ∷ []
