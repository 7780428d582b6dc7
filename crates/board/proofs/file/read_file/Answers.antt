use Rattle.std.proofs.lemmas.Result.{IfOk-weaker}
use Rattle.std.proofs.lemmas.Option.{IfSome_then}
use Rattle.board.proofs.Cut.{read_of}
use Rattle.board.proofs.file.read_file.Goals as goal

pub returns : goal.returns
returns g c =
    let most = c.bytes_enough.ensures in
    IfOk-weaker c.read_up_to.result _ _ (λ bytes front. IfSome_then (g.R.Read.remaining c.args.reader) front (λ file is. read_of file _ (rw most at is))) c.read_up_to.ensures
