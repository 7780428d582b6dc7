-- The bank of a board that is just made: as many devices as the board has, all of them at level 0.
use Rattle.std.proofs.Common.{◌≡◌, ℕ, ◌+◌, zero, suc, ◌≤◌, List, [], ◌∷◌, ◌++◌, length, get_or, refl, ap, sym, ◌∙◌, inl, inr, arith}
use Rattle.std.proofs.lemmas.List.{map-append, length-map}
use Rattle.std.proofs.lemmas.Simd.{map-map}
use Rattle.std.specs.List.{range_with_len}
use Rattle.bank.specs.Meaning.{Device, level, piles, greatest_errno}
use Rattle.bankrules.specs.Rules.{each_with_one, devices_of}
use Rattle.bankrules.specs.Register.{register_kind, register_hinders}
use Rattle.bankrules.specs.Bus.{bus_kind, bus_hinders}
use Rattle.bankrules.specs.Quiet.{quiet_kind, quiet_hinders}
use Rattle.bankrules.specs.Pairs.{pair_kind}
use Rattle.bankrules.proofs.Injecting.{injector_over}
use Rattle.bankrules.proofs.Ruling.{ruled_piles}
use Rattle.board.specs.declared.board.Board.{Board}
use Rattle.board.specs.Reading.{Says}
use Rattle.boardbank.specs.Boards.{Parts, board_kind, board_model}
use Rattle.boardfile.specs.Layout.{device_count, register_count, bus_count, quiet_count, word}
use Rattle.engine.specs.Making.{IsReady, Unready}
use Rattle.history.specs.declared.fault.EngineFault.{EngineFault}
use Rattle.history.proofs.Schedules.{pile_at, count_from_piles}
use Rattle.order.specs.Answers.{devices}
use Rattle.run.specs.Files.{Starts, parts}
use Rattle.run.proofs.Words.{all_words}
use Rattle.std.proofs.lemmas.List.FromFn.{length-map-range_with_len}

abbrev shown : Parts → List Device
shown p = board_kind.devices (board_model p)

module _ (p : Parts) where
  abbrev all : List ℕ
  all = p.registers ++ (p.buses ++ p.quiets)

  board_piles : piles (shown p) ≡ each_with_one all
  board_piles =
      (injector_over greatest_errno (pair_kind register_kind (pair_kind bus_kind quiet_kind))).words (board_model p)
      ∙ map-append (λ (x : Device). x.words) (devices_of register_hinders (each_with_one p.registers)) _
      ∙ ap (λ ps. piles (devices_of register_hinders (each_with_one p.registers)) ++ ps) (map-append (λ (x : Device). x.words) (devices_of bus_hinders (each_with_one p.buses)) _)
      ∙ rw (ruled_piles register_hinders (each_with_one p.registers), ruled_piles bus_hinders (each_with_one p.buses), ruled_piles quiet_hinders (each_with_one p.quiets))
      (ap (λ ps. each_with_one p.registers ++ ps) (sym (map-append (λ (w : ℕ). w ∷ []) p.buses p.quiets)) ∙ sym (map-append (λ (w : ℕ). w ∷ []) p.registers (p.buses ++ p.quiets)))

  board_count : length (shown p) ≡ length all
  board_count = sym (count_from_piles (shown p)) ∙ ap length board_piles ∙ length-map all (λ (w : ℕ). w ∷ [])

  one_word : (ws : List ℕ) (d : ℕ) → length (get_or (each_with_one ws) d []) ≤ 1
  one_word [] d = omega arith
  one_word (w ∷ ws) zero = omega arith
  one_word (w ∷ ws) (suc d) = one_word ws d

  board_running : (d : ℕ) → level (shown p) d ≡ 0
  board_running d = rw (pile_at (shown p) d, board_piles) (let few = one_word all d in omega arith)

module _ (bs sheet : List ℕ) (board : Board) (says : Says bs board) where
  pub ready : IsReady (devices board.order) (shown (parts bs sheet))
  ready =
      record {
        count = board_count (parts bs sheet) ∙ ap length (all_words bs) ∙ length-map-range_with_len _ 0 (device_count bs) ∙ sym says.order.0.permutes.long;
        running = board_running (parts bs sheet);
      }

-- its devices are those of the file
pub starts : (bs sheet : List ℕ) → Starts bs sheet
starts bs sheet =
    record {
      piles = board_piles (parts bs sheet) ∙ ap each_with_one (all_words bs) ∙ map-map (λ (w : ℕ). w ∷ []) (word bs) (range_with_len 0 (device_count bs));
      registers = length-map-range_with_len _ 0 (register_count bs);
      buses = length-map-range_with_len _ (register_count bs) (bus_count bs);
      quiets = length-map-range_with_len _ (register_count bs + bus_count bs) (quiet_count bs);
      cells = refl;
    }

-- an engine is never refused that is ready
pub not_unready : (order : List ℕ) (now : List Device) (fault : EngineFault) → IsReady order now → Unready order now fault → ⊥
not_unready order now fault is (inl (other, _)) = other is.count
not_unready order now fault is (inr (_, (d, _, deep), _)) = omega (arith, is.running d, deep)
