-- A file that is cut just past the limit answers as the whole file does.
use Rattle.std.proofs.Common.{◌≡◌, ℕ, ◌+◌, ◌<◌, ◌≤◌, ◌⊎◌, List, length, take, refl, sym, subst, inl, inr, arith}
use Rattle.std.proofs.lemmas.List.{take_all, length-take-le}
use Rattle.std.proofs.lemmas.Bool.{cases_lt}
use Rattle.boardfile.specs.declared.fault.BoardFault.{BoardFault}
use Rattle.boardfile.specs.declared.fault.BoardFault.TheVariants.{Size, Mark, Counts, Tables, DeviceRecord, LinkRecord, Circle}
use Rattle.boardfile.specs.Limits.{most_bytes}
use Rattle.boardfile.specs.Rules.{Sized}
use Rattle.boardfile.specs.Faults.{Refused, Right}
use Rattle.board.specs.Files.{ReadOf}

-- two files of a wrong size are refused alike
refused : (a b : List ℕ) → (Sized a → ⊥) → (Sized b → ⊥) → (fault : BoardFault) → Refused a fault → Refused b fault
refused a b p q Size r = q
refused a b p q (Mark at) r = absurd (p r.1)
refused a b p q (Counts at) r = absurd (p r.1)
refused a b p q (Tables at) r = absurd (p r.1)
refused a b p q (DeviceRecord at) r = absurd (p r.0.sized)
refused a b p q (LinkRecord at) r = absurd (p r.0.sized)
refused a b p q (Circle device) r = absurd (p r.0.sized)

right : (a b : List ℕ) → (Sized a → ⊥) → Right a → Right b
right a b p r = absurd (p r.framed.sized)

long : (file : List ℕ) → most_bytes < length file → ReadOf file (take (most_bytes + 1) file)
long file l =
    let size : length (take (most_bytes + 1) file) ≡ most_bytes + 1 = length-take-le (most_bytes + 1) file (omega arith) in
    let p : Sized (take (most_bytes + 1) file) → ⊥ = λ s. omega (arith, s.most) in
    let q : Sized file → ⊥ = λ s. omega (arith, s.most) in
    record {
      front = refl;
      as_long = λ k few. ((λ e. absurd (omega (arith, size, e, few))), (λ e. absurd (omega (arith, e, few))));
      whole = λ small. absurd (omega arith);
      refused = λ fault. (refused _ _ p q fault, refused _ _ q p fault);
      right = (right _ _ p, right _ _ q);
    }

short : (file : List ℕ) → length file ≤ most_bytes → ReadOf file file
short file l =
    record {
      front = sym (take_all (most_bytes + 1) file (omega arith));
      as_long = λ k few. ((λ e. e), (λ e. e));
      whole = λ _. refl;
      refused = λ fault. ((λ r. r), (λ r. r));
      right = ((λ r. r), (λ r. r));
    }

pub read_of : (file bytes : List ℕ) → bytes ≡ take (most_bytes + 1) file → ReadOf file bytes
read_of file bytes is = rw is (go (cases_lt most_bytes (length file)))
  where
    go : (most_bytes < length file) ⊎ (length file ≤ most_bytes) → ReadOf file (take (most_bytes + 1) file)
    go (inl l) = long file l
    go (inr l) = subst (ReadOf file) (sym (take_all (most_bytes + 1) file (omega arith))) (short file l)
