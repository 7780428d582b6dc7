use Rattle.std.proofs.Common.{◌≡◌, ◌≤◌, ◌++◌, length, drop, take, vec_len, vec_capacity}
use Rattle.bank.specs.Behaviour.{Behaves}
use Rattle.bank.specs.Runs.{answers_to, after_all}
use Rattle.bank.proofs.playing.play.Given as goal

-- the answers so far and those to what is left are the answers to all, and there is room for those
abbrev pub invariant-loop-call : goal.invariant-loop-call
invariant-loop-call g l =
    let kind = g.B.Bank.kind in
    let first = g.B.Bank.model l.fn.bank in
    let m = g.B.Bank.model l.bank in
    record {
      room : length l.calls ≤ vec_capacity l.answers;
      count : vec_len l.answers ≡ l.call-index;
      answers : l.answers.items ++ answers_to kind m (drop l.call-index l.calls) ≡ answers_to kind first l.calls;
      devices : length (kind.devices m) ≡ length (kind.devices first);
      behaves : Behaves (kind.devices first) (take l.call-index l.calls) l.answers.items (kind.devices m);
      after : after_all kind m (drop l.call-index l.calls) ≡ after_all kind first l.calls;
    }
