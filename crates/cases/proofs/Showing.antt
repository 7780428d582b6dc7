-- A worked case holds where the tests, executed, come to what is expected, and the lines, computed, are the expected text.
use Rattle.std.proofs.Common.{◌≡◌, ◌*◌, ◌<◌, ◌≤◌, ◌==◌, ◌&&◌, leb, ℕ, zero, suc, Bool, true, false, Vec, arith, length, inl, inr, List, [], ◌∷◌, ◌++◌, map, set, codes, filter, get_or, Ok, Err, Result, String, ◌∙◌, subst, ap}
use Rattle.std.specs.List.{AllByRecursion, flat_map, range_with_len}
use Rattle.std.specs.declared.alloc.Global.{Global}
use Rattle.std.proofs.lemmas.Bool.Decides.{Decides-like, same_from_decides}
use Rattle.order.specs.declared.ordering.Order.{Order}
use Rattle.order.specs.Orders.{IsTheOrder}
use Rattle.order.specs.Answers.{is_superior, devices}
use Rattle.order.proofs.Exactness.{order_same}
use Rattle.order.proofs.Tables.{is_superior_tests}
use Rattle.boardfile.specs.declared.device.Device.{Device}
use Rattle.boardfile.specs.declared.fault.BoardFault.{BoardFault}
use Rattle.boardfile.specs.declared.fault.ReadFault.{ReadFault}
use Rattle.boardfile.specs.declared.fault.ReadFault.TheVariants.{Board as BrokenBy, Memory}
use Rattle.boardfile.specs.Layout.{device_count}
use Rattle.boardfile.specs.Contents.{text, blank, devices_of, links_of, kinds_of, SuperiorIn}
use Rattle.boardfile.specs.Faults.{Refused, Right, told}
use Rattle.boardfile.proofs.Exclusion.{refused_once, refused_wrong}
use Rattle.board.specs.declared.board.Board.{Board}
use Rattle.board.specs.Checking.{Checks}
use Rattle.board.specs.Reading.{Reads, Says}
use Rattle.board.proofs.Exactness.{exact, exactly}
use Rattle.listing.specs.declared.printing.ListFault.{ListFault}
use Rattle.listing.specs.declared.printing.ListFault.TheVariants.{Refused as IsRefused, Memory as NoMemory}
use Rattle.listing.specs.Lines.{lines}
use Rattle.listing.specs.Printing.{Lists, printed as bytes_printed}
use Rattle.cases.specs.Case.{Case, Contents, reads, refuses, registers, whole, plays, runs, is_refused, asks, asks_wrongly}
use Rattle.cases.specs.Holding.{HasAnswered, HasPlayed, HasRead, HasOrder, HasPrinted, Holds, IsChecked, IsPrinted}
use Rattle.bank.specs.declared.call.Call.{Call}
use Rattle.bank.specs.declared.call.Reply.{Reply}
use Rattle.bank.specs.declared.fault.BankFault.{BankFault}
use Rattle.bank.specs.declared.fault.MakeFault.{MakeFault}
use Rattle.bank.specs.declared.fault.MakeFault.TheVariants.{Bank as IsUnmade, Memory as NoRoom}
use Rattle.bank.specs.Meaning.{Device as BankDevice, level, most_devices}
use Rattle.order.specs.Rule.{all_below}
use Rattle.history.specs.declared.call.Call as engine_call
use Rattle.history.specs.declared.answer.Answer.{Answer}
use Rattle.history.specs.declared.entry.Entry.{Entry}
use Rattle.history.specs.declared.fault.EngineFault.{EngineFault}
use Rattle.history.specs.declared.standing.Stage.{Stage}
use Rattle.history.specs.Attempts.{stage_of}
use Rattle.history.specs.Rules.{all_said, after_all}
use Rattle.engine.specs.Making.{Unready}
use Rattle.sessions.specs.declared.session.Session.{Session}
use Rattle.sessions.specs.declared.session.SessionFault.{SessionFault}
use Rattle.sessions.specs.declared.session.SessionFault.TheVariants.{Bank as BankRefuses, Engine as EngineRefuses, Memory as NoSpace}
use Rattle.sessions.specs.Sessions.{SessionAnswers}
use Rattle.attempt.specs.Runs.{just_made}
use Rattle.program.specs.declared.fault.ProgramFault.{ProgramFault}
use Rattle.program.specs.declared.fault.ProgramFault.TheVariants.{Board as OfBoard, Sheet, Buffer, NoDevice, NoLevel, Engine}
use Rattle.program.specs.declared.fault.RunFault.TheVariants.{Program}
use Rattle.run.specs.Files.{RefusesFiles, device_cells}
use Rattle.run.specs.Asking.{IsLevel, RefusesAsking, cell}
use Rattle.run.proofs.Exact.{exact_answer}
use Rattle.runlisting.specs.Printing.{printed as run_printed}
use Rattle.cases.proofs.Running.{run_text, run_count, run_outcome, runs_so, refused_so, asks_so}
use Rattle.std.proofs.lemmas.Bool.Decides.{nat_tests}
use Rattle.bank.specs.Runs.{answers_to}
use Rattle.bankrules.specs.Rules.{each_with_one}
use Rattle.bankrules.specs.Register.{register_kind}
use Rattle.sessions.specs.Injected.{BoardAnswers}
use Rattle.boardbank.specs.Boards.{Parts, board_kind, board_model, total_devices}
use Rattle.sessions.specs.Registers.{RegistersAnswer}
use Rattle.cases.proofs.Outcome.{superior, superior_tests, outcome, IsRight, outcome_right}

-- the lines of these devices in this order, with the superiors that a test finds below n
abbrev listed : List Device → (ℕ → ℕ → Bool) → ℕ → List ℕ → List ℕ
listed devices above n order =
    let name : ℕ → List ℕ = λ d. text (get_or devices d blank).name in
    flat_map (λ d. name d ++ flat_map (λ s. codes " " ++ name s) (filter (λ s. above s d) (range_with_len 0 n)) ++ codes "\n") order

module _ (bs : List ℕ) where
  -- what the bytes say, and what is printed of them, with the order that the rule gives
  abbrev pub said : List ℕ → Contents
  said order =
      record {
        names = map (λ (d : Device). text d.name) (devices_of bs);
        parents = map (λ (d : Device). d.parent) (devices_of bs);
        words = map (λ (d : Device). d.word) (devices_of bs);
        links = links_of bs;
        kinds = kinds_of bs;
        order = order;
      }

  abbrev pub printed : List ℕ → List ℕ
  printed order = listed (devices_of bs) (superior bs) (device_count bs) order

  module _ (order : List ℕ) (e : outcome bs ≡ Ok order) where
    right : Right bs × IsTheOrder (device_count bs) (SuperiorIn bs) order
    right = subst (IsRight bs) e (outcome_right bs)

    same_order : (found : List ℕ) → IsTheOrder (device_count bs) (SuperiorIn bs) found → found ≡ order
    same_order found is = order_same (device_count bs) (SuperiorIn bs) found order is right.1

    reads_holds : (r : Result Board ReadFault) → Reads bs r → HasRead (said order) r
    reads_holds (Ok board) (good, says) = rw (says.devices, says.links, says.kinds, same_order _ says.order)
    reads_holds (Err (BrokenBy f)) refused = refused_wrong bs f refused right.0
    reads_holds (Err Memory) good = tt

    reads_checked : (r : Result Order BoardFault) → Checks bs r → HasOrder order r
    reads_checked (Ok found) (good, ordered) = same_order _ ordered.least_first
    reads_checked (Err f) refused = refused_wrong bs f refused right.0

    -- the table of a board that says what the bytes say answers as the test does
    same_superior : (board : Board) → Says bs board → (s d : ℕ) → is_superior board.order.superiors s d ≡ superior bs s d
    same_superior board says s d =
        let table = board.order.superiors in
        same_from_decides _ _ (Decides-like _ (says.superiors.only s d) (says.superiors.adds s d) (is_superior_tests table s d)) (superior_tests bs s d)

    lines_printed : (board : Board) → Says bs board → lines board ≡ printed order
    lines_printed board says = λ i. listed (says.devices i) (λ s d. same_superior board says s d i) (says.superiors.count i) (same_order _ says.order i)

    reads_printed : (r : Result (String Global) ListFault) → Lists bs r → HasPrinted (printed order) r
    reads_printed (Ok shown) (board, good, says, is) = is ∙ lines_printed board says
    reads_printed (Err (IsRefused refusal)) (f, refused, is) = refused_wrong bs f refused right.0
    reads_printed (Err NoMemory) good = tt

  module _ (fault : BoardFault) (e : outcome bs ≡ Err fault) where
    refused : Refused bs fault
    refused = subst (IsRight bs) e (outcome_right bs)

    refuses_holds : (r : Result Board ReadFault) → Reads bs r → r ≡ Err (BrokenBy fault)
    refuses_holds r answer = ((exact bs r answer).refuses fault).1 refused

    refuses_checked : (r : Result Order BoardFault) → Checks bs r → r ≡ Err fault
    refuses_checked r answer = ((exactly bs r answer).refuses fault).1 refused

    refuses_printed : (r : Result (String Global) ListFault) → Lists bs r → r ≡ Err (IsRefused (told fault))
    refuses_printed (Ok shown) (board, good, says, is) = absurd (refused_wrong bs fault refused good)
    refuses_printed (Err (IsRefused refusal)) (f, so, is) = rw (is, refused_once bs f fault so refused)
    refuses_printed (Err NoMemory) good = absurd (refused_wrong bs fault refused good)

-- ---- the cases

-- the files are refused so, as far as is computed
abbrev ComesToRefusal : List ℕ → List ℕ → ProgramFault → Type 0
ComesToRefusal bs sheet (OfBoard fault) = outcome bs ≡ Err fault
ComesToRefusal bs sheet Sheet = (order : List ℕ) × (outcome bs ≡ Ok order) × ((length sheet == device_cells * device_count bs) ≡ false)
ComesToRefusal bs sheet Buffer = ⊥
ComesToRefusal bs sheet (NoDevice d) = ⊥
ComesToRefusal bs sheet NoLevel = ⊥
ComesToRefusal bs sheet (Engine fault calls) = ⊥

unlike : (a b : ℕ) → (a == b) ≡ false → a ≡ b → ⊥
unlike a b e same = grind (arith, nat_tests)

files_refused : (bs sheet : List ℕ) (fault : ProgramFault) → ComesToRefusal bs sheet fault → RefusesFiles bs sheet fault
files_refused bs sheet (OfBoard fault) e = subst (IsRight bs) e (outcome_right bs)
files_refused bs sheet Sheet (order, e, other) = ((subst (IsRight bs) e (outcome_right bs)).0, unlike _ _ other)
files_refused bs sheet Buffer none = none
files_refused bs sheet (NoDevice d) none = none
files_refused bs sheet NoLevel none = none
files_refused bs sheet (Engine fault calls) none = none

-- the what-if is refused so, as far as is computed
abbrev ComesToNoAnswer : List ℕ → List ℕ → ℕ → ℕ → ProgramFault → Type 0
ComesToNoAnswer bs sheet device level (OfBoard fault) = ComesToRefusal bs sheet (OfBoard fault)
ComesToNoAnswer bs sheet device level Sheet = ComesToRefusal bs sheet Sheet
ComesToNoAnswer bs sheet device level Buffer = ⊥
ComesToNoAnswer bs sheet device level (NoDevice d) =
    (order : List ℕ) × (outcome bs ≡ Ok order) × (length sheet ≡ device_cells * device_count bs) × (device_count bs ≤ device) × (d ≡ device)
ComesToNoAnswer bs sheet device level NoLevel =
    (order : List ℕ) × (outcome bs ≡ Ok order) × (length sheet ≡ device_cells * device_count bs) × (device < device_count bs) × ((leb 1 level && leb level 4) ≡ false)
ComesToNoAnswer bs sheet device level (Engine fault calls) = ⊥

no_level : (level : ℕ) → (leb 1 level && leb level 4) ≡ false → IsLevel level → ⊥
no_level level e is = let least = is.least in let most = is.most in grind (arith, nat_tests)

what_if_refused : (bs sheet : List ℕ) (device level : ℕ) (fault : ProgramFault) → ComesToNoAnswer bs sheet device level fault → RefusesAsking bs sheet device level fault
what_if_refused bs sheet device level (OfBoard fault) e = files_refused bs sheet (OfBoard fault) e
what_if_refused bs sheet device level Sheet e = files_refused bs sheet Sheet e
what_if_refused bs sheet device level Buffer none = none
what_if_refused bs sheet device level (NoDevice d) (order, e, long, past, same) =
    (record { right = (subst (IsRight bs) e (outcome_right bs)).0; cells = long }, past, same)
what_if_refused bs sheet device level NoLevel (order, e, long, known, other) =
    (record { right = (subst (IsRight bs) e (outcome_right bs)).0; cells = long }, known, no_level level other)
what_if_refused bs sheet device level (Engine fault calls) none = none

-- what is computed for a case is what is expected
abbrev pub Passes : Case → Type 0
Passes (reads bytes expected shown) = (outcome bytes ≡ Ok expected.order) × (said bytes expected.order ≡ expected) × (printed bytes expected.order ≡ shown)
Passes (refuses bytes fault shown) = (outcome bytes ≡ Err fault) × (bytes_printed (Err (IsRefused (told fault))) ≡ shown)
Passes (registers words calls answers) = (length words ≤ most_devices) × (answers_to register_kind (each_with_one words) calls ≡ answers)
Passes (whole parts calls answers) = (total_devices parts ≤ most_devices) × (answers_to board_kind (board_model parts) calls ≡ answers)
Passes (plays parts order calls answers journal stage) =
    (total_devices parts ≤ most_devices)
    × (length (board_kind.devices (board_model parts)) ≡ length order)
    × (all_below (length order) (λ d. level (board_kind.devices (board_model parts)) d == 0) ≡ true)
    × (all_said board_kind order (just_made (board_model parts)) calls ≡ answers)
    × ((after_all board_kind order (just_made (board_model parts)) calls).journal ≡ journal)
    × (stage_of (after_all board_kind order (just_made (board_model parts)) calls).standing ≡ stage)
Passes (runs bytes sheet order calls shown) = (outcome bytes ≡ Ok order) × (length sheet ≡ device_cells * device_count bytes) × (run_count bytes sheet order ≡ calls) × (run_text bytes sheet order ≡ shown)
Passes (asks bytes sheet order device level byte outcome') =
    (outcome bytes ≡ Ok order) × (length sheet ≡ device_cells * device_count bytes) × (device < device_count bytes) × ((1 ≤ level) × (level ≤ 4))
    × (length (set sheet (cell device level) byte) ≡ device_cells * device_count bytes) × (run_outcome bytes (set sheet (cell device level) byte) order ≡ outcome')
Passes (is_refused bytes sheet fault shown) = ComesToRefusal bytes sheet fault × (run_printed (Err (Program fault)) ≡ shown)
Passes (asks_wrongly bytes sheet device level byte fault) = ComesToNoAnswer bytes sheet device level fault
Passes other = Holds other

-- devices that pass the test are no reason to refuse an engine
below : (n : ℕ) (test : ℕ → Bool) → all_below n test ≡ true → (d : ℕ) → d < n → test d ≡ true
below zero test t d h = absurd (omega arith)
below (suc n) test t d h = grind (arith, below n test)

not_unready : (order : List ℕ) (now : List BankDevice) (fault : EngineFault) → length now ≡ length order → all_below (length order) (λ d. level now d == 0) ≡ true → Unready order now fault → ⊥
not_unready order now fault e t (inl (n, _)) = n e
not_unready order now fault e t (inr (_, (d, h, deep), _)) = let none = below (length order) (λ x. level now x == 0) t d h in grind arith

plays_hold : (parts : Parts) (order : List ℕ) (calls : List engine_call.Call) (answers : List (Result Answer EngineFault)) (journal : List Entry) (stage : Stage)
    → Passes (plays parts order calls answers journal stage) → (r : Result Session SessionFault) → SessionAnswers parts order calls r → HasPlayed answers journal stage r
plays_hold parts order calls answers journal stage (few, counts, running, a, j, s) (Ok session) (is_a, is_j, is_s, _) = (is_a ∙ a, is_j ∙ j, is_s ∙ s)
plays_hold parts order calls answers journal stage (few, counts, running, a, j, s) (Err (BankRefuses f)) (many, is) = absurd (omega arith)
plays_hold parts order calls answers journal stage (few, counts, running, a, j, s) (Err (EngineRefuses f)) why = not_unready order (board_kind.devices (board_model parts)) f counts running why
plays_hold parts order calls answers journal stage (few, counts, running, a, j, s) (Err NoSpace) _ = tt

-- the answers are those that are expected
registers_hold : (words : List ℕ) (calls : List Call) (answers : List (Result Reply BankFault)) → length words ≤ most_devices → answers_to register_kind (each_with_one words) calls ≡ answers
    → (r : Result (Vec (Result Reply BankFault) Global) MakeFault) → RegistersAnswer words calls r → HasAnswered answers r
registers_hold words calls answers few e (Ok given) is = is ∙ e
registers_hold words calls answers few e (Err (IsUnmade f)) (many, is) = absurd (omega arith)
registers_hold words calls answers few e (Err NoRoom) few' = tt

whole_holds : (parts : Parts) (calls : List Call) (answers : List (Result Reply BankFault)) → total_devices parts ≤ most_devices → answers_to board_kind (board_model parts) calls ≡ answers
    → (r : Result (Vec (Result Reply BankFault) Global) MakeFault) → BoardAnswers parts calls r → HasAnswered answers r
whole_holds parts calls answers few e (Ok given) is = is ∙ e
whole_holds parts calls answers few e (Err (IsUnmade f)) (many, is) = absurd (omega arith)
whole_holds parts calls answers few e (Err NoRoom) _ = tt

pub holds : (c : Case) → Passes c → Holds c
holds (reads bytes expected shown) (e, same, _) = λ r answer. subst (λ c. HasRead c r) same (reads_holds bytes expected.order e r answer)
holds (refuses bytes fault shown) (e, _) = refuses_holds bytes fault e
holds (registers words calls answers) (few, e) = registers_hold words calls answers few e
holds (whole parts calls answers) (few, e) = whole_holds parts calls answers few e
holds (plays parts order calls answers journal stage) passes = plays_hold parts order calls answers journal stage passes
holds (runs bytes sheet order calls shown) (e, long, count, same) = let right = subst (IsRight bytes) e (outcome_right bytes) in runs_so bytes sheet order right.0 right.1 long calls count shown same
holds (asks bytes sheet order device level byte outcome') (e, long, known, (least, most), still, same) =
    let right = subst (IsRight bytes) e (outcome_right bytes) in
    asks_so bytes sheet order right.0 right.1 device level byte long known (record { least = least; most = most }) still outcome' same
holds (is_refused bytes sheet fault shown) (is, same) = refused_so bytes sheet fault (files_refused bytes sheet fault is) shown same
holds (asks_wrongly bytes sheet device level byte fault) is = λ r answer. ((exact_answer bytes sheet device level byte r answer).refuses fault).1 (what_if_refused bytes sheet device level fault is)
holds other same = same

pub is_checked : (c : Case) → Passes c → IsChecked c
is_checked (reads bytes expected shown) (e, _, _) = reads_checked bytes expected.order e
is_checked (refuses bytes fault shown) (e, _) = refuses_checked bytes fault e
is_checked other _ = tt

pub is_printed : (c : Case) → Passes c → IsPrinted c
is_printed (reads bytes expected shown) (e, _, same) = λ r answer. subst (λ t. HasPrinted t r) same (reads_printed bytes expected.order e r answer)
is_printed (refuses bytes fault shown) (e, same) = λ r answer. let is = refuses_printed bytes fault e r answer in (is, ap bytes_printed is ∙ same)
is_printed other _ = tt

pub of_each : {P Q : Case → Type 0} → ((c : Case) → P c → Q c) → (cs : List Case) → AllByRecursion P cs → AllByRecursion Q cs
of_each f [] all = tt
of_each f (c ∷ cs) (here, rest) = (f c here, of_each f cs rest)

joined : (cs ds : List Case) → AllByRecursion Passes cs → AllByRecursion Passes ds → AllByRecursion Passes (cs ++ ds)
joined [] ds all rest = rest
joined (c ∷ cs) ds (here, more) rest = (here, joined cs ds more rest)

pub all_of : (groups : List (List Case)) → AllByRecursion (AllByRecursion Passes) groups → AllByRecursion Passes (flat_map (λ group. group) groups)
all_of [] all = tt
all_of (group ∷ groups) (here, rest) = joined group (flat_map (λ group. group) groups) here (all_of groups rest)
