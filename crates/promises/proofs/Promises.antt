-- The promises: every theorem that specs/ states, in the order of the three demands, each as a term of the statement's own type. A
-- proof that is gone, or that does not fit its statement, stops the check here. What a statement says in full stands in the file that it is
-- imported from; docs/READING-LIST.md names the definitions it rests on.
-- Assumes nothing.
use Rattle.modular.specs.Dimension.{ListedIsDimension}
use Rattle.inverse.specs.Rule.{InverseRight}
use Rattle.row_laws.specs.Laws.{Associative, Neutral, PowerZero, PowerOne, PowersAdd, PowerModulo, PairingLeft, PairingRight, PairingPower, PairingSelf, PairingOpposite, Exchange, Commute}
use Rattle.conjugation.specs.Conjugation.{RowSpelled, GateConjugates, GateDetermined, GateKeepsPairing, GateOnFrame, ErrorConjugates, ErrorPairs, ErrorOnFrame, ErrorFramePairs}
use Rattle.conjugation.specs.Repeated.{RowRepeats, RowsRepeat, FrameRepeats}
use Rattle.validity.specs.Validity.{ValidExactly}
use Rattle.validity_laws.specs.Keeping.{ZeroValid, GateKeepsValid, ErrorKeepsValid}
use Rattle.saved_tableau_laws.specs.Exactly.{SelfValidExactly, TestExactly}
use Rattle.measurement_laws.specs.Measurement.{AllDifferent, CollapseKeepsValid, CertainIsZ, CertainExactly, OneMember, CollapseGenerates}
use Rattle.book_entries.specs.Entry.{DecodedExactly}
use Rattle.book.specs.Decoded.{AcceptedMeans}
use Rattle.written_book.specs.Written.{ReadsWritten, BodiesBack, OnlyBook}
use Rattle.written_book.specs.Writer.{Rewritten, FillsOnlyBook}
use Rattle.written_book.specs.Errorless.{ErrorlessAccepted}
use Rattle.tray.specs.Tray.{OnlyTray}
use Rattle.run_laws.specs.Carrying.{StepKeepsValid, RunKeepsValid, FrameKeepsValid, ResetClears, RunsAgree, RunsAgreeFrom, FrameIsClean, CleanRows, CleanLists}
use Rattle.halts.specs.Halt.{HaltedRun, WholeRun, GoesOn, GoingOnKeepsValid}
use Rattle.shots.specs.Clean.{CleanServes}
use Rattle.book_laws.specs.Agreement.{SecondAccepted, Demand3}
use Rattle.book_laws.specs.Clean.{CleanExactly, WithoutErrors}
use Rattle.book_laws.specs.LeavesValid.{LayerLeavesValid, DirectLeavesValid, GoOnLeavesValid, FrameLeavesValid}
use Rattle.book_laws.specs.Refusals.{NumbersListed, WriterNamesBody, LayerUnchanged, WriterUnchanged, DirectUnchanged, GoOnUnchanged, LookUntold, FrameUnchanged, TrayUnchanged, MirrorUnchanged}
use Rattle.book_laws.specs.Tray.{ShotsAreFrameRuns, TrayKeepsRest, TrayCounts, OwnErrorsUnused}
use Rattle.halt_laws.specs.Halting.{GoesOnBook, WholeBook, NothingDone, CallsReach, SingleCall, FinishedCalls, Demand3Halted}
use Rattle.halt_laws.specs.Looking.{LookTells, CallsLook, LookForetells}
use Rattle.mirror_laws.specs.Undone.{UndoingAllowed, RowUndone, RowsUndone}
use Rattle.mirror_laws.specs.Lists.{ListsAccepted, ListsReturn, ListsCarry}
use Rattle.mirror_laws.specs.Books.{MirrorAccepted, MirrorTwice, FillsMirror, MirrorReturns, MirrorCarries}
use Rattle.book_laws.proofs.Refusals as refusals
use Rattle.book_laws.proofs.LeavesValid as left
use Rattle.book_laws.proofs.Second as second
use Rattle.book_laws.proofs.Demand3 as whole
use Rattle.book_laws.proofs.Clean as verdict
use Rattle.book_laws.proofs.WithoutErrors as errorless
use Rattle.book_laws.proofs.Tray as trays
use Rattle.book_entries.proofs.Decoding as entries
use Rattle.book.proofs.Meaning as meaning
use Rattle.written_book.proofs.Read as read
use Rattle.written_book.proofs.Only as only
use Rattle.written_book.proofs.Writer as writer
use Rattle.written_book.proofs.Errorless as taken_out
use Rattle.tray.proofs.Only as table
use Rattle.modular.proofs.Listed as dimensions
use Rattle.inverse.proofs.Rule as inverses
use Rattle.row_laws.proofs.Laws as rows
use Rattle.conjugation.proofs.Determined as determined
use Rattle.conjugation.proofs.Gates as gates
use Rattle.conjugation.proofs.Tables as tables
use Rattle.conjugation.proofs.Errors as errors
use Rattle.conjugation.proofs.Repeated as repeated
use Rattle.validity.proofs.Exactly as exactly
use Rattle.validity_laws.proofs.Keeping as kept
use Rattle.saved_tableau_laws.proofs.Exactly as saved
use Rattle.measurement_laws.proofs.Combination as combination
use Rattle.measurement_laws.proofs.Certain as certain
use Rattle.measurement_laws.proofs.Free as free
use Rattle.measurement_laws.proofs.Generates as generates
use Rattle.run_laws.proofs.Sound as steps
use Rattle.run_laws.proofs.Reset as reset
use Rattle.run_laws.proofs.Clean as clean
use Rattle.run_laws.proofs.Buffers as buffers
use Rattle.run_laws.proofs.Fold as fold
use Rattle.run_laws.proofs.Verdict as rows-verdict
use Rattle.halts.proofs.Goes as halted
use Rattle.halts.proofs.Kept as halted-kept
use Rattle.halt_laws.proofs.Calls as calls
use Rattle.halt_laws.proofs.Demand3 as halted-whole
use Rattle.halt_laws.proofs.Looks as looks
use Rattle.halt_laws.proofs.Foretold as foretold
use Rattle.shots.proofs.Clean as serves
use Rattle.mirror_laws.proofs.Undone as undone
use Rattle.mirror_laws.proofs.Lists as mirrored-lists
use Rattle.mirror_laws.proofs.Books as mirrored-books
use Rattle.mirror_laws.proofs.Twice as twice
use Rattle.sheet_laws.specs.Lists.{ShiftsWeighed, FrameWeighed, NoneBefore, SheetOfPlaces}
use Rattle.sheet_book_laws.specs.Books.{SheetOfCircuit, SheetWeighs, SheetFills, SheetListed, SheetUnchanged}
use Rattle.sheet_laws.proofs.Lists as weighed-lists
use Rattle.sheet_book_laws.proofs.Books as weighed-books
use Rattle.sheet_book_laws.proofs.Refusals as sheet-refusals

-- Demand 1: every entry point does its work or refuses with a listed number, and a refusal leaves what the list says. (That each exported
-- function does so for every input is its contract, in crates/cagvost/src/lib.rt.)

-- No call returns a number that is not in its list.
pub numbers-listed : NumbersListed
numbers-listed = refusals.numbers-listed

-- The writer's 4 names one of the three bodies.
pub writer-names-body : WriterNamesBody
writer-names-body = refusals.writer-names-body

-- A refusal of the layer leaves the tableau unchanged.
pub layer_unchanged : LayerUnchanged
layer_unchanged = refusals.layer_unchanged

-- A refusal of the direct run leaves tableau and results unchanged, and the number of the next operation is 0.
pub direct_unchanged : DirectUnchanged
direct_unchanged = refusals.direct_unchanged

-- The same where a run goes on.
pub go-on_unchanged : GoOnUnchanged
go-on_unchanged = refusals.go-on_unchanged

-- A look that is refused tells nothing.
pub look_untold : LookUntold
look_untold = refusals.look_untold

-- A refusal of the frame run leaves all four buffers unchanged, and its verdict is 0.
pub frame_unchanged : FrameUnchanged
frame_unchanged = refusals.frame_unchanged

-- A refusal of the writer leaves the buffer unchanged.
pub writer_unchanged : WriterUnchanged
writer_unchanged = refusals.writer_unchanged

-- A refusal of a tray leaves the buffer unchanged, and its third number is 0.
pub tray_unchanged : TrayUnchanged
tray_unchanged = refusals.tray_unchanged

-- A refusal of the mirror leaves the buffer unchanged.
pub mirror_unchanged : MirrorUnchanged
mirror_unchanged = refusals.mirror_unchanged

-- Four bytes are an operation exactly if they are its bytes and its operands are in range.
pub decoded-exactly : DecodedExactly
decoded-exactly = entries.decoded-exactly

-- The numbers of an accepted book are those of its lists, and the lists are what 2, 3 and 5 to 7 let through.
pub accepted-means : AcceptedMeans
accepted-means = meaning.accepted-means

-- The reader says of a written book what the tests say of d, n and the bodies.
pub reads-written : ReadsWritten
reads-written = read.reads-written

-- An accepted written book hands its three bodies back.
pub bodies-back : BodiesBack
bodies-back = read.bodies-back

-- It is the only book of bytes that is accepted with d, n and these bodies.
pub only-book : OnlyBook
only-book = only.only-book

-- An accepted book comes out byte for byte when its own bodies are written again.
pub rewritten : Rewritten
rewritten = writer.rewritten

-- A successful call fills the buffer with that book alone, and keeps every byte past it.
pub fills_only-book : FillsOnlyBook
fills_only-book = writer.fills_only-book

-- The reader accepts the mirror of a book of gates alone, with the same d, n and number of operations and nothing else, and reads the
-- operations reversed, each turned into its inverse.
pub mirror-accepted : MirrorAccepted
mirror-accepted = mirrored-books.mirror-accepted

-- The mirror of the mirror is the book without its errors.
pub mirror-twice : MirrorTwice
mirror-twice = twice.mirror-twice

-- A successful call fills the buffer with the mirror book alone, and keeps every byte past it.
pub fills_mirror : FillsMirror
fills_mirror = mirrored-books.fills_mirror

-- No two trays of bytes have the same shots.
pub only-tray : OnlyTray
only-tray = table.only-tray

-- Demand 2: each gate acts as its published conjugation table says, an error as conjugation, a measurement as the stabilizer set says.

-- Every listed d is odd and from 3 to 31, and every u from 1 to d−1 has its inverse: what the theorems below ask of a dimension.
pub dimension : ListedIsDimension
dimension = dimensions.dimension

-- The inverse of u times u leaves 1; it is 0 for 0 and from d up.
pub inverse-right : InverseRight
inverse-right = inverses.inverse-right

-- The product is associative.
pub associative : Associative
associative = rows.associative

-- ω^0 times a row is the row.
pub neutral : Neutral
neutral = rows.neutral

-- Power 0 is ω^0.
pub power_zero : PowerZero
power_zero = rows.power_zero

-- Power 1 is the row itself.
pub power-one : PowerOne
power-one = rows.power-one

-- Powers of a row add.
pub powers-add : PowersAdd
powers-add = rows.powers-add

-- A power depends on its exponent modulo d alone.
pub power_modulo : PowerModulo
power_modulo = rows.power_modulo

-- The pairing is additive on the left.
pub pairing-left : PairingLeft
pairing-left = rows.pairing-left

-- The pairing is additive on the right.
pub pairing-right : PairingRight
pairing-right = rows.pairing-right

-- The exponent of a power comes out of the pairing as a factor.
pub pairing-power : PairingPower
pairing-power = rows.pairing-power

-- A row paired with itself gives 0.
pub pairing-self : PairingSelf
pairing-self = rows.pairing-self

-- Exchanged rows pair to the negative.
pub pairing_opposite : PairingOpposite
pairing_opposite = rows.pairing_opposite

-- v w is ω to their pairing times w v.
pub exchange : Exchange
exchange = rows.exchange

-- Two rows commute exactly if their pairing is 0.
pub commute : Commute
commute = rows.commute

-- Every row is the product that it means, phase included.
pub row-spelled : RowSpelled
row-spelled = determined.row-spelled

-- A gate keeps the product with its phase, and sends ω, X and Z where the published tables say.
pub gate_conjugates : GateConjugates
gate_conjugates = tables.gate_conjugates

-- It is the only map that does, on every row.
pub gate_determined : GateDetermined
gate_determined = determined.gate_determined

-- A gate keeps the pairing.
pub gate-keeps-pairing : GateKeepsPairing
gate-keeps-pairing = gates.gate-keeps-pairing

-- A gate maps a frame as it maps the powers of a row.
pub gate-on-frame : GateOnFrame
gate-on-frame = gates.gate-on-frame

-- An entry that applies its gate k times does to a row what k single applications do.
pub row-repeats : RowRepeats
row-repeats = repeated.row-repeats

-- The same for all rows of a tableau.
pub rows_repeat : RowsRepeat
rows_repeat = repeated.rows_repeat

-- The same for a frame.
pub frame-repeats : FrameRepeats
frame-repeats = repeated.frame-repeats

-- What undoes an allowed operation is allowed.
pub undoing-allowed : UndoingAllowed
undoing-allowed = undone.undoing-allowed

-- It undoes it on every row.
pub row-undone : RowUndone
row-undone = undone.row-undone

-- The same for all rows of a tableau.
pub rows-undone : RowsUndone
rows-undone = undone.rows-undone

-- Error times row is the row after the error, times error.
pub error_conjugates : ErrorConjugates
error_conjugates = errors.error_conjugates

-- An error adds to the phase the pairing of the error with the row.
pub error-pairs : ErrorPairs
error-pairs = errors.error-pairs

-- An error adds its powers to a frame.
pub error-on-frame : ErrorOnFrame
error-on-frame = errors.error-on-frame

-- So the frame's pairing with any row gains the error's.
pub error-frame-pairs : ErrorFramePairs
error-frame-pairs = errors.error-frame-pairs

-- What the test of rows computes holds exactly if they are valid for d and n.
pub valid-exactly : ValidExactly
valid-exactly = exactly.valid-exactly

-- The same for a tableau with d and n before its rows: exactly if these two are in range, and the rows are valid for them.
pub self-valid-exactly : SelfValidExactly
self-valid-exactly = saved.self-valid-exactly

-- The tableau test returns 0 exactly for a valid tableau that has all its bytes.
pub test-exactly : TestExactly
test-exactly = saved.test-exactly

-- The zero tableau is valid.
pub zero-valid : ZeroValid
zero-valid = kept.zero-valid

-- Each gate keeps a tableau valid.
pub gate-keeps-valid : GateKeepsValid
gate-keeps-valid = kept.gate-keeps-valid

-- Each error keeps it valid.
pub error-keeps-valid : ErrorKeepsValid
error-keeps-valid = kept.error-keeps-valid

-- Each free measurement keeps it valid.
pub collapse-keeps-valid : CollapseKeepsValid
collapse-keeps-valid = free.collapse-keeps-valid

-- Over lists: each step of the direct run keeps a tableau valid.
pub step-keeps-valid : StepKeepsValid
step-keeps-valid = steps.step-keeps-valid

-- Over lists: so does the whole direct run.
pub run_keeps-valid : RunKeepsValid
run_keeps-valid = steps.run_keeps-valid

-- Over lists: so does going on, from any number for any count.
pub going-on-keeps-valid : GoingOnKeepsValid
going-on-keeps-valid = halted-kept.going-on-keeps-valid

-- Over lists: so does the frame run, from any frame.
pub frame-keeps-valid : FrameKeepsValid
frame-keeps-valid = clean.frame-keeps-valid

-- After a reset a look at the qudit is certain, with outcome 0.
pub reset-clears : ResetClears
reset-clears = reset.reset-clears

-- What the layer leaves passes the tableau test.
pub layer-leaves-valid : LayerLeavesValid
layer-leaves-valid = left.layer-leaves-valid

-- What a direct run of a book leaves passes the tableau test, with the same two bytes before its rows.
pub direct-leaves-valid : DirectLeavesValid
direct-leaves-valid = left.direct-leaves-valid

-- The same of a run that goes on.
pub go-on-leaves-valid : GoOnLeavesValid
go-on-leaves-valid = left.go-on-leaves-valid

-- What a frame run of a book leaves passes the tableau test, with the same two bytes before its rows.
pub frame-leaves-valid : FrameLeavesValid
frame-leaves-valid = left.frame-leaves-valid

-- The stabilizer set has d^n members: each settles its exponents.
pub all_different : AllDifferent
all_different = combination.all_different

-- In a valid tableau the product of a certain measurement is Z on that qudit with some phase, so that nothing is left for 10 to refuse.
pub certain-is_z : CertainIsZ
certain-is_z = certain.certain-is_z

-- A measurement is certain exactly if the stabilizer set holds a power of the phase times Z on that qudit, with the outcome that it fixes.
pub certain-exactly : CertainExactly
certain-exactly = certain.certain-exactly

-- That member is the only one with its powers.
pub one-member : OneMember
one-member = certain.one-member

-- After a free one the new set is generated by the old members that commute with that Z, and the measured one.
pub collapse_generates : CollapseGenerates
collapse_generates = generates.collapse_generates

-- A measurement of the qudit looked at would be as the look tells: free with the choice, or certain with that outcome and no row changed.
pub look-tells : LookTells
look-tells = looks.look-tells

-- For whole books: after any calls a look tells of the rows that the run has reached; a qudit not below n is refused by 13.
pub calls-look : CallsLook
calls-look = calls.calls-look

-- For whole books: the next operation of a halted run, if it measures that qudit and no error is placed before it, is as the look tells.
pub look_foretells : LookForetells
look_foretells = foretold.look_foretells

-- Over lists: a run told to halt after a count of operations has made as many steps, and no error placed before the next is applied.
pub halted_run : HaltedRun
halted_run = halted.halted_run

-- Over lists: a count larger than the operations is the direct run.
pub whole_run : WholeRun
whole_run = halted.whole_run

-- Over lists: halting and going on is going on at once, from any number up to a finished run's.
pub goes_on : GoesOn
goes_on = halted.goes_on

-- For whole books: halting and going on is going on at once, from any number.
pub goes-on-book : GoesOnBook
goes-on-book = calls.goes-on-book

-- For whole books, refusals included: told to halt after more operations than a book may have, a run is the direct run.
pub whole-book : WholeBook
whole-book = calls.whole-book

-- For whole books: from a finished run, or for a count of 0, nothing is done.
pub nothing_done : NothingDone
nothing_done = calls.nothing_done

-- For whole books: any list of calls and looks from the start is refused nowhere; it ends with the number that it reaches, and leaves in
-- both buffers the stages up to there.
pub calls-reach : CallsReach
calls-reach = calls.calls-reach

-- For whole books: it leaves what the single call leaves that reaches its number, in both buffers and all three numbers.
pub single_call : SingleCall
single_call = calls.single_call

-- For whole books: one that has finished leaves what the direct run leaves.
pub finished-calls : FinishedCalls
finished-calls = calls.finished-calls

-- Demand 3: a Weyl error, wherever it strikes, may be carried to the end.

-- For every accepted book, valid start tableau whose two bytes are the book's, and buffers long enough, the direct run of the second book
-- and the frame run of the first end without a refusal and are alike in the number of measurements, every result, every mark and every
-- byte of the tableau, both leading bytes included.
pub demand3 : Demand3
demand3 = whole.demand3

-- The same with a direct run that has finished, whatever looks and halts it had.
pub demand3-halted : Demand3Halted
demand3-halted = halted-whole.demand3-halted

-- The second book is accepted, and differs in its choices alone, each raised.
pub second-accepted : SecondAccepted
second-accepted = second.second-accepted

-- Over lists: the frame run is the run without errors and its frame carried to the end.
pub frame-is-clean : FrameIsClean
frame-is-clean = clean.frame-is-clean

-- Over lists: direct run of the raised choices and frame run of the choices, each on its own copy of a valid tableau, agree.
pub runs_agree : RunsAgree
runs_agree = buffers.runs_agree

-- Over lists: the same from any frame F, if the direct run starts from the rows shifted by F.
pub runs_agree-from : RunsAgreeFrom
runs_agree-from = fold.runs_agree-from

-- A frame shifts no stabilizer exactly if the shifted rows have the same stabilizer set.
pub clean-rows : CleanRows
clean-rows = rows-verdict.clean-rows

-- Over lists, the verdict is clean exactly if the run without errors ends with the same stabilizer set.
pub clean-lists : CleanLists
clean-lists = clean.clean-lists

-- A book with its errors taken out is accepted, and has the same operations and choices.
pub errorless-accepted : ErrorlessAccepted
errorless-accepted = taken_out.errorless-accepted

-- For whole books, the verdict is clean exactly if the book without its errors ends with the same stabilizer set.
pub clean-exactly : CleanExactly
clean-exactly = verdict.clean-exactly

-- Without errors both runs are alike, and the verdict is clean.
pub without_errors : WithoutErrors
without_errors = errorless.without_errors

-- One run without errors serves every shot.
pub clean_serves : CleanServes
clean_serves = serves.clean_serves

-- Each shot's bytes are the verdict and the results of the frame run of its own book.
pub shots_are_frame_runs : ShotsAreFrameRuns
shots_are_frame_runs = trays.shots_are_frame_runs

-- Bytes past the shots are kept.
pub tray-keeps-rest : TrayKeepsRest
tray-keeps-rest = trays.tray-keeps-rest

-- Each shot is counted once, by its verdict.
pub tray-counts : TrayCounts
tray-counts = trays.tray-counts

-- The book's own errors make no difference.
pub own-errors_unused : OwnErrorsUnused
own-errors_unused = trays.own-errors_unused

-- Over lists: the mirror of accepted gates is accepted.
pub lists-accepted : ListsAccepted
lists-accepted = mirrored-lists.lists-accepted

-- Over lists: direct runs of gates without errors, and then of their mirror, bring every row back.
pub lists_return : ListsReturn
lists_return = mirrored-lists.lists_return

-- Over lists: with errors the rows differ from the start by one frame, the errors carried through both.
pub lists_carry : ListsCarry
lists_carry = mirrored-lists.lists_carry

-- For whole books: the direct runs of a book without errors and measurements and then of its mirror bring back each byte of any valid
-- tableau.
pub mirror_returns : MirrorReturns
mirror_returns = mirrored-books.mirror_returns

-- For whole books: with errors the two direct runs leave a tableau that differs from the start by one frame, the errors carried through
-- both books.
pub mirror-carries : MirrorCarries
mirror-carries = mirrored-books.mirror-carries

-- Over lists: for any powers, the shift of a result is the sum of powers times weights, modulo d.
pub shifts-weighed : ShiftsWeighed
shifts-weighed = weighed-lists.shifts-weighed

-- Over lists: so each result of the frame run is the clean one plus that sum, with the same mark.
pub frame-weighed : FrameWeighed
frame-weighed = weighed-lists.frame-weighed

-- Over lists: a measurement before the entry's place has 0 and 0.
pub none_before : NoneBefore
none_before = weighed-lists.none_before

-- Over lists: the sheet depends on the operations and on the places and qudits of the errors alone.
pub sheet_of_places : SheetOfPlaces
sheet_of_places = weighed-lists.sheet_of_places

-- For whole books: books over one circuit have the same sheet, whatever their powers and choices.
pub sheet_of_circuit : SheetOfCircuit
sheet_of_circuit = weighed-books.sheet_of_circuit

-- For whole books: the sheet of one book tells the frame runs of all books over its circuit.
pub sheet-weighs : SheetWeighs
sheet-weighs = weighed-books.sheet-weighs

-- For whole books: what success returns and leaves, with 0 and 0 before an entry's place, and the bytes past the sheet kept.
pub sheet_fills : SheetFills
sheet_fills = weighed-books.sheet_fills

-- The sheet's refusals are 1 to 7 and 8.
pub sheet-listed : SheetListed
sheet-listed = sheet-refusals.sheet-listed

-- A refused sheet leaves the buffer as it was.
pub sheet_unchanged : SheetUnchanged
sheet_unchanged = sheet-refusals.sheet_unchanged
