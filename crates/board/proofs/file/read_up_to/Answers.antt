use Rattle.std.proofs.Common.{◌≡◌, ℕ, List, take, Some, None, Option, IfSome}
use Rattle.std.specs.Option.{option_map}
use Rattle.board.proofs.file.read_up_to.Goals as goal

front : (remaining : Option (List ℕ)) (n : ℕ) (bytes : List ℕ) → IfSome (option_map (take n) remaining) (λ xs. bytes ≡ xs) → IfSome remaining (λ file. bytes ≡ take n file)
front None n bytes is = tt
front (Some file) n bytes is = is

pub returns : goal.returns
returns g c =
    let bytes = c.in_ok-read_to_end.ensures.bytes in
    front (g.R.Read.remaining c.args.reader) c.args.most _ (rw (c.take.ensures.limit, c.take.ensures.inner, c.new-bytes.ensures.items) at bytes)
