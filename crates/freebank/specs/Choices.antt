-- The choices of a free bank.
use Rattle.std.specs.Prelude.{List, drop, map, slice_index_or, All}
use Rattle.std.proofs.lemmas.List.Elements.{All-map}
use Rattle.bank.specs.Meaning.{greatest_errno}
use Rattle.bankrules.specs.Free.{Chosen, IsChoice}
use Rattle.freebank.specs.declared.choice.Choice.{Choice}
use Rattle.freebank.specs.declared.free.FreeBank.{FreeBank}

abbrev pub chosen : Choice → Chosen
chosen c = record { word = c.word; hindrances = c.hindrances }

-- those that it has not taken yet
abbrev pub to_come : FreeBank → List Chosen
to_come bank = map chosen (drop bank.next bank.choices.items)

-- words have 32 bits, and errnos are within the greatest
pub to_come_fit : (bank : FreeBank) → All (IsChoice greatest_errno) (to_come bank)
to_come_fit bank =
    let left = drop bank.next bank.choices.items in
    All-map (IsChoice greatest_errno) chosen left (λ k d h. let c = slice_index_or left k d in record { word = c.fits; errnos = c.errnos })
