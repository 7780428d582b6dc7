-- Orders of the devices below n, over any relation R: `R s d` says that s is a superior of d, and d a dependent of s.
use Rattle.std.specs.Prelude.{◌≡◌, ℕ, suc, ◌<◌, List, length, ◌≢◌, slice_index}

-- d has one of the first i places
abbrev pub Placed : List ℕ → ℕ → ℕ → Type 0
Placed order i d = (j : ℕ) × (j < i) × (slice_index order j ≡ d)

-- s stands before d
abbrev pub Before : List ℕ → ℕ → ℕ → Type 0
Before order s d = (i : ℕ) × (j : ℕ) × (i < j) × (j < length order) × (slice_index order i ≡ s) × (slice_index order j ≡ d)

-- each number below n in exactly one place
pub record Permutes (n : ℕ) (order : List ℕ) : Type 0 where
  pub long : length order ≡ n
  pub inside : (i : ℕ) → i < n → slice_index order i < n
  pub place : (d : ℕ) → d < n → (i : ℕ) × (i < n) × (slice_index order i ≡ d)
  pub once : (i j : ℕ) → i < n → j < n → slice_index order i ≡ slice_index order j → i ≡ j

-- an order of all n devices that puts each superior before its dependents
pub record Precedes (n : ℕ) (R : ℕ → ℕ → Type 0) (order : List ℕ) : Type 0 where
  pub permutes : Permutes n order
  pub superiors_first : (s d : ℕ) → R s d → Before order s d

-- x is the least number with P
abbrev pub Least : (ℕ → Type 0) → ℕ → Type 0
Least P x = P x × ((y : ℕ) → y < x → P y → ⊥)

-- d is not among the first i devices, while all its superiors are
abbrev pub Ready : ℕ → (ℕ → ℕ → Type 0) → List ℕ → ℕ → ℕ → Type 0
Ready n R order i d = (d < n) × (Placed order i d → ⊥) × ((s : ℕ) → R s d → Placed order i s)

-- each place takes the least-numbered device not yet placed whose superiors all are
abbrev pub LeastFirst : ℕ → (ℕ → ℕ → Type 0) → List ℕ → Type 0
LeastFirst n R order = (i : ℕ) → i < length order → Least (Ready n R order i) (slice_index order i)

-- some chain of superiors from d never ends: it is given for every natural number, and each member is a superior of the one before
abbrev pub Endless : (ℕ → ℕ → Type 0) → ℕ → Type 0
Endless R d = (chain : ℕ → ℕ) × (chain 0 ≡ d) × ((i : ℕ) → R (chain (suc i)) (chain i))

-- some order of all n devices puts each superior before its dependents
abbrev pub Orderable : ℕ → (ℕ → ℕ → Type 0) → Type 0
Orderable n R = (order : List ℕ) × Precedes n R order

-- no order puts each superior before its dependents, and d is the least-numbered device from which some chain of superiors never ends
pub record Circular (n : ℕ) (R : ℕ → ℕ → Type 0) (d : ℕ) : Type 0 where
  pub device : d < n
  pub no_order : Orderable n R → ⊥
  pub endless : Endless R d
  pub least : (e : ℕ) → e < d → Endless R e → ⊥

-- the order that the rule gives: all devices, superiors first, and at each place the least that can stand there
abbrev pub IsTheOrder : ℕ → (ℕ → ℕ → Type 0) → List ℕ → Type 0
IsTheOrder n R order = Precedes n R order × LeastFirst n R order

-- the rule pins the order: of n places, two orders that are least first at every place are equal
abbrev pub Pinned : ℕ → (ℕ → ℕ → Type 0) → Type 0
Pinned n R = (a b : List ℕ) → length a ≡ n → length b ≡ n → LeastFirst n R a → LeastFirst n R b → a ≡ b

-- ---- what an order keeps in its type: the same said of places alone

-- each of the first n places has a device
abbrev pub Inside : ℕ → List ℕ → Type 0
Inside n order = (i : ℕ) → i < n → slice_index order i < n

-- no device has two places
abbrev pub Once : ℕ → List ℕ → Type 0
Once n order = (i j : ℕ) → (i < j) × (j < n) → slice_index order i ≢ slice_index order j

-- where one place has a superior of another's device, it is the earlier
abbrev pub SuperiorsEarlier : ℕ → (ℕ → ℕ → Type 0) → List ℕ → Type 0
SuperiorsEarlier n R order = (i j : ℕ) → (i < n) × (j < n) → R (slice_index order i) (slice_index order j) → i < j

-- no lesser device could have stood in any place
abbrev pub NoneLess : ℕ → (ℕ → ℕ → Type 0) → List ℕ → Type 0
NoneLess n R order = (i d : ℕ) → (i < n) × (d < slice_index order i) → Ready n R order i d → ⊥
