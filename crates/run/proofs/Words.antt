-- The words of a board's devices, cut up by the banks in which they sit.
use Rattle.std.proofs.Common.{◌≡◌, ℕ, zero, suc, ◌+◌, List, ◌∷◌, ◌++◌, map, drop, take, refl, ap, sym, ◌∙◌, arith}
use Rattle.std.specs.List.{range_with_len}
use Rattle.std.proofs.lemmas.Simd.{map-map}
use Rattle.std.proofs.lemmas.List.FromFn.{take-map-range_with_len}
use Rattle.board.specs.declared.board.Board.{Board}
use Rattle.board.specs.Reading.{Says}
use Rattle.boardfile.specs.declared.device.Device.{Device}
use Rattle.boardfile.specs.Contents.{device_of}
use Rattle.boardfile.specs.Layout.{device_count, register_count, bus_count, quiet_count, word}
use Rattle.boardfile.specs.declared.device.Kinds.{Kinds}
use Rattle.run.specs.Files.{held, words, parts, parts_in}

pub held_words : (bs : List ℕ) (board : Board) → Says bs board → held board ≡ words bs 0 (device_count bs)
held_words bs board says = ap (map (λ (device : Device). device.word)) says.devices ∙ map-map (λ (device : Device). device.word) (device_of bs) (range_with_len 0 (device_count bs))

same : (bs : List ℕ) (a n b m : ℕ) → a ≡ b → n ≡ m → words bs a n ≡ words bs b m
same bs a n b m e f = rw (e, f) refl

-- all but the first k
drop_words : (bs : List ℕ) (k a n : ℕ) → drop k (words bs a (k + n)) ≡ words bs (a + k) n
drop_words bs zero a n = same bs a (0 + n) (a + 0) n (omega arith) (omega arith)
drop_words bs (suc k) a n = ap (drop (suc k)) (same bs a (suc k + n) a (suc (k + n)) refl (omega arith)) ∙ drop_words bs k (a + 1) n ∙ same bs (a + 1 + k) n (a + suc k) n (omega arith) refl

join_words : (bs : List ℕ) (k a n : ℕ) → words bs a (k + n) ≡ words bs a k ++ words bs (a + k) n
join_words bs zero a n = same bs a (0 + n) (a + 0) n (omega arith) (omega arith)
join_words bs (suc k) a n =
    same bs a (suc k + n) a (suc (k + n)) refl (omega arith)
    ∙ ap (λ (ws : List ℕ). word bs a ∷ ws) (join_words bs k (a + 1) n ∙ ap (λ ws. words bs (a + 1) k ++ ws) (same bs (a + 1 + k) n (a + suc k) n (omega arith) refl))

module _ (bs : List ℕ) where
  abbrev pub others : ℕ
  others = bus_count bs + quiet_count bs

  whole : words bs 0 (device_count bs) ≡ words bs 0 (register_count bs + others)
  whole = same bs 0 (device_count bs) 0 (register_count bs + others) refl (omega arith)

  pub registers_cut : take (register_count bs) (words bs 0 (device_count bs)) ≡ words bs 0 (register_count bs)
  registers_cut = take-map-range_with_len (word bs) 0 (device_count bs) (register_count bs) (omega arith)

  pub others_cut : drop (register_count bs) (words bs 0 (device_count bs)) ≡ words bs (register_count bs) others
  others_cut = ap (drop (register_count bs)) whole ∙ drop_words bs (register_count bs) 0 others ∙ same bs (0 + register_count bs) others (register_count bs) others (omega arith) refl

  pub buses_cut : take (bus_count bs) (words bs (register_count bs) others) ≡ words bs (register_count bs) (bus_count bs)
  buses_cut = take-map-range_with_len (word bs) (register_count bs) others (bus_count bs) (omega arith)

  pub quiets_cut : drop (bus_count bs) (words bs (register_count bs) others) ≡ words bs (register_count bs + bus_count bs) (quiet_count bs)
  quiets_cut = drop_words bs (bus_count bs) (register_count bs) (quiet_count bs)

  pub all_words : words bs 0 (register_count bs) ++ (words bs (register_count bs) (bus_count bs) ++ words bs (register_count bs + bus_count bs) (quiet_count bs)) ≡ words bs 0 (device_count bs)
  all_words =
      ap (λ ws. words bs 0 (register_count bs) ++ ws) (sym (join_words bs (bus_count bs) (register_count bs) (quiet_count bs)) ∙ same bs (register_count bs) others (0 + register_count bs) others (omega arith) refl)
      ∙ sym (join_words bs (register_count bs) 0 others) ∙ sym whole

-- the bank of a board is that of its file
pub same_parts : (bs sheet : List ℕ) (board : Board) → Says bs board → parts_in board sheet ≡ parts bs sheet
same_parts bs sheet board says =
    let register : board.kinds.register ≡ register_count bs = ap (λ (k : Kinds). k.register) says.kinds in
    let bus : board.kinds.bus ≡ bus_count bs = ap (λ (k : Kinds). k.bus) says.kinds in
    rw (held_words bs board says, register, bus) (rw (registers_cut bs, others_cut bs, buses_cut bs, quiets_cut bs) refl)
