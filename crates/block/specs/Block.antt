-- A block of up to 256 shots: their results, from the clean results, while their frames are carried in lanes.
use Rattle.std.specs.Prelude.{◌≡◌, List, ℕ, ◌+◌, ◌*◌, ◌/◌, ◌%◌, ◌<◌, ◌≤◌, length, get_or}
use Rattle.operation.specs.Gate.{with_x, gate_frame}
use Rattle.operation.specs.declared.Operation.{Operation}
use Rattle.operation.specs.declared.WeylError.{WeylError}
use Rattle.circuit.specs.Circuit.{op_at, gate, measures, resets, corrects, kind, measured}
use Rattle.book.specs.Decoded.{operations_of}
use Rattle.runs.specs.Frame.{no_frame}
use Rattle.runs.specs.Raised.{result_shifts}
use Rattle.lanes.specs.Lanes.{lane, Lanes, Each}
use Rattle.tile.specs.Tile.{ShotsRoom, ResultRow, MarkAt, shot_at}
use Rattle.tile.specs.declared.HeldResults.{HeldResults}
use Rattle.calendar.specs.Calendar.{lane_errors, Queued}
use Rattle.calendar.specs.declared.lane_errors.LaneErrors.{LaneErrors}
use Rattle.correction.specs.Correction.{reported_in, Corrected}
use Rattle.block.specs.declared.clean.CleanRun.{CleanRun}
use Rattle.block.specs.declared.Block.{Block}

-- the clean run's operations, and operation k
abbrev pub operations_in : CleanRun → List Operation
operations_in clean = operations_of clean.m.d clean.n clean.ops.now

abbrev pub operation_in : CleanRun → ℕ → Operation
operation_in clean k = op_at (operations_in clean) k

-- how many measurements have come
abbrev pub results_in : HeldResults → ℕ
results_in held = held.first + held.count

-- Outcome i of a shot: the clean one, with its shift. Its mark is the clean one.
abbrev pub outcome_of : ℕ → ℕ → List Operation → List ℕ → List WeylError → ℕ → ℕ
outcome_of d n ops clean errors i = (get_or clean (2 * i) 0 + get_or (result_shifts d n ops errors (no_frame n)) i 0) % d

abbrev pub mark_of : List ℕ → ℕ → ℕ
mark_of clean i = get_or clean (2 * i + 1) 0

abbrev pub outcome_in : CleanRun → List WeylError → ℕ → ℕ
outcome_in clean errors i = outcome_of clean.m.d clean.n (operations_in clean) clean.results.now errors i

-- no frame in any lane
abbrev pub NoFrames : ℕ → List ℕ → Type 0
NoFrames n v = (l : ℕ) → l < 256 → lane n v l ≡ no_frame n

-- a block before its first operation: no frame in any lane, all errors of every lane still to come, and no result
pub record BlockStart (clean : CleanRun) (errors : LaneErrors) (block : Block) : Type 0 where
  pub dimension : errors.d ≡ clean.m.d
  pub qudits : errors.n ≡ clean.n
  pub lanes : Lanes clean.m.d clean.n block.lanes
  pub empty : NoFrames clean.n block.lanes
  pub queued : Queued (lane_errors errors) block.queue 0
  pub first : block.held.first ≡ 0
  pub count : block.held.count ≡ 0

-- before operation k, with room for one result more
pub record AtOperation (clean : CleanRun) (k : ℕ) (block : Block) : Type 0 where
  pub inside : k < length clean.ops.now / 4
  pub before : results_in block.held ≡ measured (operations_in clean) k
  pub room : block.held.count < 16
  pub lanes : Lanes clean.m.d clean.n block.lanes

-- Of the results so far, the first are written to the shots, and the others are held.
pub record ResultsUpTo (clean : CleanRun) (errors : ℕ → List WeylError) (used : ℕ) (held : HeldResults) (out : List ℕ) : Type 0 where
  pub outcomes : (l i : ℕ) → l < used → i < held.first → get_or (shot_at clean.w out l) (1 + 2 * i) 0 ≡ outcome_in clean (errors l) i
  pub marks_too : (l i : ℕ) → l < used → i < held.first → get_or (shot_at clean.w out l) (2 + 2 * i) 0 ≡ mark_of clean.results.now i
  pub held-outcomes : (l y : ℕ) → l < used → y < held.count → get_or held.tile.cells (256 * y + l) 0 ≡ outcome_in clean (errors l) (held.first + y)
  pub held-marks : (y : ℕ) → y < held.count → get_or held.marks y 0 ≡ mark_of clean.results.now (held.first + y)

-- the reported result of measurement i in lane l
abbrev pub reported_at : CleanRun → Block → List ℕ → ℕ → ℕ → ℕ
reported_at clean block out i l = reported_in clean.w block.held.first block.held.tile.cells out i l

-- The results so far are there to be read: in the shots, or held.
pub record Reported (clean : CleanRun) (block : Block) (out : List ℕ) : Type 0 where
  pub shots : ShotsRoom clean.w block.used out
  pub wide : 1 + 2 * results_in block.held ≤ clean.w
  pub below : (i l : ℕ) → i < results_in block.held → l < block.used → reported_at clean block out i l < clean.m.d

-- the results of one more measurement are held: its clean outcome r with each lane's X power on q, and its mark
pub record Pushed (d q r mark : ℕ) (v : List ℕ) (held held' : HeldResults) : Type 0 where
  pub row : ResultRow d q r held.count v held.tile.cells held'.tile.cells
  pub mark_too : MarkAt held.count mark held.marks held'.marks
  pub first : held'.first ≡ held.first
  pub count : held'.count ≡ held.count + 1

-- what operation k does to the lanes and the results; a correction's measurement came earlier
pub data Stepped (clean : CleanRun) (k : ℕ) (out : List ℕ) (block block' : Block) : Type 0 where
  gated : kind (operation_in clean k) ≡ gate → Each (gate_frame clean.m.d clean.n (operation_in clean k)) clean.n block.lanes block'.lanes
      → block'.held ≡ block.held → Stepped clean k out block block'
  measured-to : (q : ℕ) → kind (operation_in clean k) ≡ measures q → q < clean.n → block'.lanes ≡ block.lanes
      → Pushed clean.m.d q (get_or clean.results.now (2 * results_in block.held) 0) (get_or clean.results.now (2 * results_in block.held + 1) 0) block.lanes block.held block'.held
      → Stepped clean k out block block'
  reset : (q : ℕ) → kind (operation_in clean k) ≡ resets q → Each (with_x q 0) clean.n block.lanes block'.lanes
      → block'.held ≡ block.held → Stepped clean k out block block'
  corrected : (t i : ℕ) → kind (operation_in clean k) ≡ corrects t i → i < results_in block.held
      → Corrected clean.m.d clean.n t (get_or clean.results.now (2 * i) 0) block.used (reported_at clean block out i) block.lanes block'.lanes
      → block'.held ≡ block.held → Stepped clean k out block block'

-- every result of each of the first `used` shots is written
pub record AllResults (d n : ℕ) (ops : List Operation) (errors : ℕ → List WeylError) (clean : List ℕ) (w used : ℕ) (out out' : List ℕ) : Type 0 where
  pub len : length out' ≡ length out
  pub outcomes : (l i : ℕ) → l < used → i < measured ops (length ops) → get_or (shot_at w out' l) (1 + 2 * i) 0 ≡ outcome_of d n ops clean (errors l) i
  pub marks_too : (l i : ℕ) → l < used → i < measured ops (length ops) → get_or (shot_at w out' l) (2 + 2 * i) 0 ≡ mark_of clean i
