-- Bytes that are cut into records.
use Rattle.std.proofs.Common.{◌≡◌, ℕ, zero, suc, ◌+◌, ◌-◌, ◌*◌, ◌/◌, ◌<◌, ◌≤◌, List, [], length, get_or, drop, take, refl, ap, ◌∙◌, drop-drop, take-take, arith}
use Rattle.std.specs.List.{between}
use Rattle.std.proofs.lemmas.Nat.{column_fits}
use Rattle.std.proofs.Math.Nat.{mul-div_cancel_left}
use Rattle.std.specs.Simd.{first_chunks}
use Rattle.std.proofs.lemmas.List.{drop-take}
use Rattle.std.proofs.lemmas.List.Edits.{length-between}
use Rattle.frame.specs.Frames.{TableOf}

piece : (size k : ℕ) (bytes : List ℕ) (i : ℕ) → i < k → get_or (first_chunks size k bytes) i [] ≡ take size (drop (size * i) bytes)
piece size zero bytes i l = absurd (omega arith)
piece size (suc k) bytes zero l = let none : size * 0 ≡ 0 = omega arith in rw none refl
piece size (suc k) bytes (suc i) l =
    let more : size * suc i ≡ size + size * i = omega arith in
    rw more (piece size k (drop size bytes) i (omega arith) ∙ ap (take size) (drop-drop (size * i) size bytes))

-- a part of a part
part : (bytes : List ℕ) (c m a n : ℕ) → a + n ≤ m → take n (drop a (take m (drop c bytes))) ≡ take n (drop (c + a) bytes)
part bytes c m a n fits =
    let whole : m ≡ a + (m - a) = omega arith in
    rw whole (rw (drop-take a (m - a) (drop c bytes)) (take-take n (m - a) (drop a (drop c bytes)) (omega arith) ∙ ap (take n) (drop-drop a c bytes)))

module _ (size count start : ℕ) (bytes : List ℕ) (some : 0 < size) (inside : start + size * count ≤ length bytes) where
  pub table : (records : List (List ℕ)) → (k : ℕ) → k ≡ length (between start (start + size * count) bytes) / size
      → length records ≡ k → records ≡ first_chunks size k (between start (start + size * count) bytes)
      → TableOf size bytes start count start records
  table records k is many so = record { begins = refl; holds = record { many = many ∙ all; each = each } }
    where
      all : k ≡ count
      all = is ∙ (ap (λ n. n / size) (length-between bytes start (start + size * count) inside ∙ omega arith) ∙ mul-div_cancel_left count some)

      each : (i : ℕ) → i < count → get_or records i [] ≡ between (start + size * i) (start + size * i + size) bytes
      each i l =
          let room = column_fits size i size count l (omega arith) in
          let one : start + size * i + size - (start + size * i) ≡ size = omega arith in
          rw (so, one) (piece size k _ i (omega (arith, all)) ∙ part bytes start _ (size * i) size (omega (arith, room)))
