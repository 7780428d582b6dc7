-- The lines of a journal, written one after another.
use Rattle.std.proofs.Common.{◌≡◌, ℕ, ◌+◌, ◌<◌, List, [], ◌++◌, length, take, Some, None, Option, ap, sym, ◌∙◌, append-nil, append_assoc, arith}
use Rattle.std.specs.Io.KnownBytes.{Appends}
use Rattle.std.specs.List.{flat_map}
use Rattle.std.proofs.lemmas.Grind.{flat_map-append}
use Rattle.std.proofs.lemmas.List.{take_more, take_all}
use Rattle.attempt.specs.Keeping.{no_entry}
use Rattle.history.specs.declared.entry.Entry.{Entry}
use Rattle.lines.specs.declared.report.Report.{Report}
use Rattle.lines.specs.Lines.{entry_line}
use Rattle.lines.specs.Writing.{board_devices, journal}
use Rattle.runlisting.specs.Printing.{ended, entry_text, outcome_text, report_lines}

appends_none : (old : Option (List ℕ)) → Appends old old []
appends_none None = tt
appends_none (Some xs) = sym (append-nil xs)

appends_more : (old between new : Option (List ℕ)) (xs ys : List ℕ) → Appends old between xs → Appends between new ys → Appends old new (xs ++ ys)
appends_more None between new xs ys a b = tt
appends_more (Some old) (Some between) (Some new) xs ys a b = b ∙ ap (λ zs. zs ++ ys) a ∙ append_assoc old xs ys
appends_more (Some old) (Some between) None xs ys a b = b
appends_more (Some old) None new xs ys a b = absurd a

-- the lines of the first entries
abbrev pub front : Report → ℕ → List ℕ
front report k = flat_map (λ (entry : Entry). ended (entry_line (board_devices report) entry)) (take k (journal report))

-- they are written
abbrev pub WrittenTo : Report → Option (List ℕ) → Option (List ℕ) → ℕ → Type 0
WrittenTo report old new k = Appends old new (front report k)

front_more : (report : Report) (k : ℕ) → k < length (journal report) → front report (k + 1) ≡ front report k ++ entry_text report k
front_more report k inside = rw (take_more (journal report) k no_entry inside, flat_map-append) (ap (λ zs. front report k ++ zs) (append-nil _))

pub starts : (report : Report) (old : Option (List ℕ)) → WrittenTo report old old 0
starts report old = appends_none old

pub goes_on : (report : Report) (old between new : Option (List ℕ)) (k : ℕ) → k < length (journal report)
    → WrittenTo report old between k → Appends between new (entry_text report k) → WrittenTo report old new (k + 1)
goes_on report old between new k inside a b = rw (front_more report k inside) (appends_more old between new _ _ a b)

pub ends : (report : Report) (old between new : Option (List ℕ)) (k : ℕ) → k ≡ length (journal report)
    → WrittenTo report old between k → Appends between new (outcome_text report) → Appends old new (report_lines report)
ends report old between new k all a b =
    let whole : take k (journal report) ≡ journal report = take_all k (journal report) (omega (arith, all)) in
    rw (← whole) (appends_more old between new (front report k) (outcome_text report) a b)
