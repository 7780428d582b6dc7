-- What a bank means: its devices, what each call answers, and which calls change something.
use Rattle.std.specs.Prelude.{ℕ, ◌+◌, ◌-◌, ◌<◌, ◌≤◌, ◌^◌, Bool, ◌&&◌, ◌==◌, nat_lt, if◌then◌else◌, List, [], length, map, slice_index_or, ℤ, pos, neg_ℤ, All, Ok, Err, Result}
use Rattle.bank.specs.declared.fault.BankFault.{BankFault}
use Rattle.bank.specs.declared.fault.BankFault.TheVariants.{NoDevice, WrongLevel}

-- A device: its pile of words, the newest first, and its hindrance, the errno that it would give if it were lowered now (0 for
-- none). At the deepest level a hindrance is the bank's choice and has no effect.
pub record Device : Type 0 where
  pub words : List ℕ
  pub hindrance : ℕ

-- stands where a number is not below the count
abbrev pub absent : Device
absent = record { words = []; hindrance = 0 }

-- the device of a number
abbrev pub device : List Device → ℕ → Device
device devices d = slice_index_or devices d absent

-- its words, the newest first
abbrev pub pile : List Device → ℕ → List ℕ
pile devices d = (device devices d).words

-- its level: 0 running, 1 prepared, 2 suspended, 3 late, 4 noirq. A device keeps a word for every level that it has left
abbrev pub level : List Device → ℕ → ℕ
level devices d = length (pile devices d) - 1

-- its working word, the top of the pile
abbrev pub word : List Device → ℕ → ℕ
word devices d = slice_index_or (pile devices d) 0 0

abbrev pub hindrance : List Device → ℕ → ℕ
hindrance devices d = (device devices d).hindrance

-- the words of every device, without the hindrances
abbrev pub piles : List Device → List (List ℕ)
piles devices = map (λ (x : Device). x.words) devices

-- the deepest level
abbrev pub deepest : ℕ
deepest = 4

-- ---- what a call answers

-- the number is tested first: one that is not below the count is refused
abbrev pub if_known : {A : Type 0} → List Device → ℕ → Result A BankFault → Result A BankFault
if_known devices d answer = if nat_lt d (length devices) then answer else Err (NoDevice d)

-- and then the level
abbrev pub if_level : {A : Type 0} → Bool → ℕ → A → Result A BankFault
if_level allows d answer = if allows then Ok answer else Err (WrongLevel d)

-- a look: level, working word and hindrance
abbrev pub seen : List Device → ℕ → Result (ℕ × ℕ × ℕ) BankFault
seen devices d = if_known devices d (Ok (level devices d, word devices d, hindrance devices d))

-- a put is for a device at level 0
abbrev pub put_answer : List Device → ℕ → Result (Unit {0}) BankFault
put_answer devices d = if_known devices d (if_level (level devices d == 0) d tt)

-- a lowering is for a device at a level less than the deepest; its code is the hindrance negated, so 0 exactly where nothing hinders
abbrev pub lower_answer : List Device → ℕ → Result ℤ BankFault
lower_answer devices d = if_known devices d (if_level (nat_lt (level devices d) deepest) d (neg_ℤ (pos (hindrance devices d))))

-- a raising is for a device at a level greater than 0; its code is 0
abbrev pub raise_answer : List Device → ℕ → Result ℤ BankFault
raise_answer devices d = if_known devices d (if_level (nat_lt 0 (level devices d)) d (pos 0))

-- ---- which puts, lowerings and raisings change something: those that are neither refused nor answered by another code than 0

abbrev pub is_put : List Device → ℕ → Bool
is_put devices d = nat_lt d (length devices) && (level devices d == 0)

abbrev pub is_lowered : List Device → ℕ → Bool
is_lowered devices d = nat_lt d (length devices) && (nat_lt (level devices d) deepest && (hindrance devices d == 0))

abbrev pub is_raised : List Device → ℕ → Bool
is_raised devices d = nat_lt d (length devices) && nat_lt 0 (level devices d)

-- ---- what a bank is made of

-- one to five words of 32 bits
pub record IsPile (words : List ℕ) : Type 0 where
  pub some : 1 ≤ length words
  pub few : length words ≤ deepest + 1
  pub fit : All (λ w. w < 2 ^ 32) words

-- the greatest hindrance
abbrev pub greatest_errno : ℕ
greatest_errno = 255

abbrev pub most_devices : ℕ
most_devices = 64

-- the piles of at most 64 devices
pub record ArePiles (piles : List (List ℕ)) : Type 0 where
  pub few : length piles ≤ most_devices
  pub each : All IsPile piles

-- at most 64 devices, each with a pile and a hindrance within the limit
pub record AreDevices (limit : ℕ) (devices : List Device) : Type 0 where
  pub few : length devices ≤ most_devices
  pub words : All IsPile (piles devices)
  pub errnos : All (λ (x : Device). x.hindrance ≤ limit) devices
