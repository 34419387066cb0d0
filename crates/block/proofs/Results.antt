-- A result is written to the tile; a full tile is written to the shots.
-- Assumes nothing.
use mathlib.Core.Path.{◌≡◌, refl, sym, ap, ◌∙◌}
use mathlib.Core.List.{List}
use Prim.Native.Nat.{ℕ, ◌+◌, ◌-◌, ◌*◌, ◌/◌, ◌%◌, ◌<◌, ◌≤◌}
use native.Mathlib.Decide.{ℕ_discrete, dec_lt}
use native.Mathlib.Nat.{mod-lt, mod-mod}
use native.Mathlib.Numerals.{add-one}
use native.Mathlib.Omega.{arith}
use lib.ListN.{length, get_or}
use borrow.Author.Tests.{ltb-true}
use Rattle.std.specs.Coded.{le_prop}
use Rattle.modular.specs.Modular.{neg}
use Rattle.modular.proofs.Listed.{dimension}
use Rattle.row.specs.Row.{x_of}
use Rattle.operation.specs.declared.Operation.{Operation}
use Rattle.operation.specs.declared.Operation.TheVariants.{Measure, Correct}
use Rattle.operation.specs.declared.WeylError.{WeylError}
use Rattle.operation.specs.Gate.{with_x, less_x}
use Rattle.circuit.specs.Circuit.{op_at, measures, kind, tally_kind, measured}
use Rattle.book.specs.Decoded.{operations_of}
use Rattle.book.proofs.Lists.{op-count}
use Rattle.runs.specs.Frame.{no_frame, errors_on_frame}
use Rattle.runs.specs.Raised.{frame_before, carried_frame, result_shifts}
use Rattle.runs.proofs.Shifts.{shift_of}
use Rattle.runs.proofs.Results.{measured-more, measured-before}
use Rattle.run_laws.proofs.Corrections.{without_shift}
use Rattle.lanes.specs.Lanes.{lane, Lanes}
use Rattle.lanes.proofs.Lanes.{lane-at}
use Rattle.tile.specs.Tile.{ShotsRoom, shot_at, Flushed}
use Rattle.tile.specs.declared.HeldResults.{HeldResults}
use Rattle.calendar.specs.Calendar.{AllErrorsApplied, Queued}
use Rattle.calendar.specs.declared.Queue.{Queue}
use Rattle.correction.proofs.Correcting.{when_written, when_held}
use Rattle.block.specs.Carried.{CarriedTo, CarriedAll}
use Rattle.block.specs.Clean.{CleanCircuit}
use Rattle.block.specs.declared.clean.CleanRun.{CleanRun}
use Rattle.block.specs.declared.Block.{Block}
use Rattle.block.specs.Block.{operations_in, operation_in, results_in, mark_of, outcome_in, NoFrames, ResultsUpTo, reported_at, Reported, Pushed, Stepped, gated, measured-to, reset, corrected, AllResults}
use Rattle.block.proofs.Carried.{carried_step, carried-end}

module _ {d n : ℕ} {ops : List Operation} {errors : ℕ → List WeylError} {used : ℕ} (few : used ≤ 256) where
  -- the lane's X power on the measured qudit is the shift of the result
  result_row-is : {k q : ℕ} {v₀ v u : List ℕ} → NoFrames n v₀ → CarriedTo d n ops errors used k v₀ v → AllErrorsApplied d n errors k v u → k < length ops → q < n
      → kind (op_at ops k) ≡ measures q
      → (l : ℕ) → l < used → get_or u (256 * q + l) 0 ≡ get_or (result_shifts d n ops (errors l) (no_frame n)) (measured ops k) 0
  unfolding frame_before
  result_row-is {k} {q} {v₀} {v} {u} z a b h g e l m =
      sym (lane-at n u l q (omega arith))
      ∙ ap (λ (F : List ℕ). x_of F q) (b.each l (omega arith) ∙ ap (λ (F : List ℕ). errors_on_frame d n (errors l) k F (length (errors l))) (a.each l m ∙ ap (λ (F : List ℕ). carried_frame d n ops (errors l) F k) (z l (omega arith))))
      ∙ sym (shift_of d n ops (errors l) (no_frame n) k q h e)

module _ {clean : CleanRun} {errors : ℕ → List WeylError} {used : ℕ} where
  pub results-none : {held : HeldResults} {out : List ℕ} → held.first ≡ 0 → held.count ≡ 0 → ResultsUpTo clean errors used held out
  results-none a b =
      record {
        outcomes = λ l i h g. absurd (omega arith);
        marks_too = λ l i h g. absurd (omega arith);
        held-outcomes = λ l y h g. absurd (omega arith);
        held-marks = λ y g. absurd (omega arith);
      }

  -- the results of one more measurement are held
  pub results-more : {k q : ℕ} {v₀ v u out : List ℕ} {held held' : HeldResults} → used ≤ 256 → NoFrames clean.n v₀
      → CarriedTo clean.m.d clean.n (operations_in clean) errors used k v₀ v → AllErrorsApplied clean.m.d clean.n errors k v u
      → k < length (operations_in clean) → q < clean.n → kind (operation_in clean k) ≡ measures q → results_in held ≡ measured (operations_in clean) k
      → ResultsUpTo clean errors used held out
      → Pushed clean.m.d q (get_or clean.results.now (2 * results_in held) 0) (get_or clean.results.now (2 * results_in held + 1) 0) u held held'
      → ResultsUpTo clean errors used held' out
  results-more {k} {q} {v₀} {v} {u} {out} {held} {held'} few z a b h g e ej t p =
      record {
        outcomes = λ l i m r. t.outcomes l i m (omega (arith, p.first));
        marks_too = λ l i m r. t.marks_too l i m (omega (arith, p.first));
        held-outcomes = λ l x m r. rw p.first (outcomes l x m (omega (arith, p.count)) (ℕ_discrete x held.count));
        held-marks = λ x r. rw p.first (marks x (omega (arith, p.count)) (ℕ_discrete x held.count));
      }
    where
      outcomes : (l x : ℕ) → l < used → x < held.count + 1 → Dec (x ≡ held.count) → get_or held'.tile.cells (256 * x + l) 0 ≡ outcome_in clean (errors l) (held.first + x)
      outcomes l x m r (yes i) =
          rw i
          (p.row.here l (omega arith)
          ∙ ap (λ (s : ℕ). (get_or clean.results.now (2 * results_in held) 0 + s) % clean.m.d)
          (result_row-is few z a b h g e l m ∙ ap (λ (s : ℕ). get_or (result_shifts clean.m.d clean.n (operations_in clean) (errors l) (no_frame clean.n)) s 0) (sym ej)))
      outcomes l x m r (no i) = p.row.others x l (omega arith) (omega arith) ∙ t.held-outcomes l x m (omega arith)

      marks : (x : ℕ) → x < held.count + 1 → Dec (x ≡ held.count) → get_or held'.marks x 0 ≡ mark_of clean.results.now (held.first + x)
      marks x r (yes i) = rw i p.mark_too.here
      marks x r (no i) = p.mark_too.others x (omega arith) ∙ t.held-marks x (omega arith)

  -- the held results are written
  pub results_flushed : {held held' : HeldResults} {out out' : List ℕ} → used ≤ 256
      → ResultsUpTo clean errors used held out
      → Flushed clean.w used held.first held.count held.tile.cells held.marks out out'
      → held'.first ≡ results_in held → held'.count ≡ 0
      → ResultsUpTo clean errors used held' out'
  results_flushed {held} {held'} {out} {out'} few t f first none =
      record {
        outcomes = λ l i h g. outcomes l i h (omega (arith, first)) (dec_lt i held.first);
        marks_too = λ l i h g. marks_too l i h (omega (arith, first)) (dec_lt i held.first);
        held-outcomes = λ l y h g. absurd (omega (arith, none));
        held-marks = λ y g. absurd (omega (arith, none));
      }
    where
      outcomes : (l i : ℕ) → l < used → i < results_in held → Dec (i < held.first) → get_or (shot_at clean.w out' l) (1 + 2 * i) 0 ≡ outcome_in clean (errors l) i
      outcomes l i h g (yes c) = f.before l (1 + 2 * i) h (omega arith) ∙ t.outcomes l i h c
      outcomes l i h g (no c) =
          let q : held.first + (i - held.first) ≡ i = omega arith in
          rw q at (f.outcomes l (i - held.first) h (omega arith) ∙ t.held-outcomes l (i - held.first) h (omega arith))

      marks_too : (l i : ℕ) → l < used → i < results_in held → Dec (i < held.first) → get_or (shot_at clean.w out' l) (2 + 2 * i) 0 ≡ mark_of clean.results.now i
      marks_too l i h g (yes c) = f.before l (2 + 2 * i) h (omega arith) ∙ t.marks_too l i h c
      marks_too l i h g (no c) =
          let q : held.first + (i - held.first) ≡ i = omega arith in
          rw q at (f.marks_too l (i - held.first) h (omega arith) ∙ t.held-marks (i - held.first) (omega arith))

-- that at most 16 results are held has one proof
pub same_held : (held : HeldResults) (few : held.count ≤ 16) → record held { few = few } ≡ held
same_held held few = ap (λ (p : held.count ≤ 16). record held { few = p }) (le_prop few held.few)

-- a measurement has its clean result
pub measured-room : (d n : ℕ) (ops clean : List ℕ) → CleanCircuit d n ops clean → (k j q : ℕ) → k < length ops / 4 → j ≡ measured (operations_of d n ops) k
    → op_at (operations_of d n ops) k ≡ Measure q
    → (2 * j + 1 < length clean) × (get_or clean (2 * j) 0 < d) × (q < n)
measured-room d n ops clean st k j q h e o =
    let list = operations_of d n ops in
    let l : k < length list = omega (arith, op-count d n ops) in
    let less = measured-before list k (length list) q l (ap kind o) in
    (omega (arith, st.room), st.below j (omega arith), ltb-true q n (rw o at (st.operations k l)))

-- the measurement that a correction names has come, and has its clean result
pub corrected-room : (d n : ℕ) (ops clean : List ℕ) → CleanCircuit d n ops clean → (k t m : ℕ) → k < length ops / 4
    → op_at (operations_of d n ops) k ≡ Correct t m
    → (m < measured (operations_of d n ops) k) × (2 * m < length clean) × (get_or clean (2 * m) 0 < d) × (t < n)
corrected-room d n ops clean st k t m h o =
    let list = operations_of d n ops in
    let l : k < length list = omega (arith, op-count d n ops) in
    let less = ltb-true m (measured list k) (rw o at (st.names k l)) in
    let more = measured-more list k (length list) (omega arith) in
    (less, omega (arith, st.room), st.below m (omega arith), ltb-true t n (rw o at (st.operations k l)))

-- A reported result less the clean one is its shift, modulo d.
shift_back : (d c s : ℕ) → 0 < d → neg d (((c + s) % d + neg d c) % d) ≡ neg d s
shift_back d c s low =
    let q : c + s ≡ s + c = omega arith in
    ap (neg d) (ap (λ (x : ℕ). (x % d + neg d c) % d) q ∙ without_shift d s c low) ∙ ap (λ (x : ℕ). (d - x) % d) (mod-mod s d)

-- a reported result is the outcome, wherever it is read
module _ {clean : CleanRun} {errors : ℕ → List WeylError} (block : Block) {out : List ℕ} (t : ResultsUpTo clean errors block.used block.held out) where
  reported-is : (i l : ℕ) → i < results_in block.held → l < block.used → reported_at clean block out i l ≡ outcome_in clean (errors l) i
  reported-is i l h g = by (dec_lt i block.held.first)
    where
      by : Dec (i < block.held.first) → reported_at clean block out i l ≡ outcome_in clean (errors l) i
      by (yes c) = when_written clean.w block.held.first block.held.tile.cells out i l c ∙ t.outcomes l i g c
      by (no c) =
          let q : block.held.first + (i - block.held.first) ≡ i = omega arith in
          when_held clean.w block.held.first block.held.tile.cells out i l (omega arith) ∙ rw q at (t.held-outcomes l (i - block.held.first) g (omega arith))

  pub reported : 0 < clean.m.d → ShotsRoom clean.w block.used out → 1 + 2 * results_in block.held ≤ clean.w → Reported clean block out
  reported low shots wide = record { shots = shots; wide = wide; below = λ i l h g. rw (reported-is i l h g) (mod-lt _ low) }

-- before operation k
pub record BlockProgress (clean : CleanRun) (errors : ℕ → List WeylError) (k : ℕ) (block₀ : Block) (out : List ℕ) (block : Block) : Type 0 where
  pub lanes : CarriedTo clean.m.d clean.n (operations_in clean) errors block₀.used k block₀.lanes block.lanes
  pub powers : Lanes clean.m.d clean.n block.lanes
  pub queued : Queued errors block.queue k
  pub results : ResultsUpTo clean errors block₀.used block.held out
  pub room : block.held.count < 16
  pub count : results_in block.held ≡ measured (operations_in clean) k
  pub used : block.used ≡ block₀.used

-- a step of the run: the errors of place k, and operation k
module _ {clean : CleanRun} {errors : ℕ → List WeylError} {k : ℕ} {block₀ : Block} {out : List ℕ} (block : Block) (u : List ℕ) (queue' : Queue)
    (few : block₀.used ≤ 256) (empty : NoFrames clean.n block₀.lanes) (inside : k < length clean.ops.now / 4)
    (a : BlockProgress clean errors k block₀ out block) (b : AllErrorsApplied clean.m.d clean.n errors k block.lanes u) where
  abbrev after-errors : Block
  after-errors = record block { lanes = u; queue = queue' }

  abbrev d : ℕ
  d = clean.m.d

  abbrev n : ℕ
  n = clean.n

  abbrev ops : List Operation
  ops = operations_in clean

  circuit : CleanCircuit d n clean.ops.now clean.results.now
  circuit = clean.circuit

  in_list : k < length ops
  in_list = omega (arith, op-count d n clean.ops.now)

  pub next-lanes : {block' : Block} → Stepped clean k out after-errors block' → CarriedTo d n ops errors block₀.used (k + 1) block₀.lanes block'.lanes
  next-lanes (gated g s e) = carried_step few circuit.names in_list a.lanes b s.len (λ l m. rw g (s.each l (omega arith)))
  next-lanes (measured-to q g low e p) = rw e (carried_step few circuit.names in_list a.lanes b refl (λ i m. rw g refl))
  next-lanes (reset q g s e) = carried_step few circuit.names in_list a.lanes b s.len (λ l m. rw g (s.each l (omega arith)))
  next-lanes (corrected t i g before s e) =
      carried_step few circuit.names in_list a.lanes b s.len (λ l m. rw g (s.each l (rw a.used m) ∙ loses l m))
    where
      c : ℕ
      c = get_or clean.results.now (2 * i) 0

      shift : ℕ → ℕ
      shift l = get_or (result_shifts d n ops (errors l) (lane n block₀.lanes l)) i 0

      loses : (l : ℕ) → l < block₀.used → less_x d t ((reported_at clean after-errors out i l + neg d c) % d) (lane n u l) ≡ less_x d t (shift l) (lane n u l)
      loses l m =
          let low : 0 < d = omega (arith, (dimension d circuit.dimension).low) in
          let e = reported-is after-errors (rw (← a.used) at a.results) i l before (rw a.used m)
          ∙ ap (λ (F : List ℕ). (c + get_or (result_shifts d n ops (errors l) F) i 0) % d) (sym (empty l (omega arith))) in
          ap (λ (y : ℕ). with_x t ((x_of (lane n u l) t + y) % d) (lane n u l))
          (ap (λ (y : ℕ). neg d ((y + neg d c) % d)) e ∙ shift_back d c (shift l) low)

  pub next-results : {block' : Block} → Stepped clean k out after-errors block' → ResultsUpTo clean errors block₀.used block'.held out
  next-results (gated g s e) = rw e a.results
  next-results (measured-to q g low e p) = results-more few empty a.lanes b in_list low g a.count a.results p
  next-results (reset q g s e) = rw e a.results
  next-results (corrected t i g before s e) = rw e a.results

  pub next-count : {block' : Block} → Stepped clean k out after-errors block' → results_in block'.held ≡ measured ops (k + 1)
  unfolding measured
  next-count (gated g s e) = rw (e, add-one k) (omega (arith, a.count, ap tally_kind g))
  next-count (measured-to q g low e p) = rw (p.first, p.count, add-one k) (omega (arith, a.count, ap tally_kind g))
  next-count (reset q g s e) = rw (e, add-one k) (omega (arith, a.count, ap tally_kind g))
  next-count (corrected t i g before s e) = rw (e, add-one k) (omega (arith, a.count, ap tally_kind g))

-- errors applied to the same dimension and qudits
pub same-applied : {d e n m : ℕ} {errors : ℕ → List WeylError} {k : ℕ} {v w : List ℕ} → d ≡ e → n ≡ m → AllErrorsApplied d n errors k v w → AllErrorsApplied e m errors k v w
same-applied p q a = rw (← p, ← q) a

-- past the last operation
module _ {clean : CleanRun} {errors : ℕ → List WeylError} {block₀ : Block} {out : List ℕ} {block : Block} (few : block₀.used ≤ 256)
    (a : BlockProgress clean errors (length clean.ops.now / 4) block₀ out block) where
  pub carried-last : {u : List ℕ} → AllErrorsApplied clean.m.d clean.n errors (length clean.ops.now / 4) block.lanes u
      → CarriedAll clean.m.d clean.n (operations_in clean) errors block₀.used block₀.lanes u
  carried-last b = let e = sym (op-count clean.m.d clean.n clean.ops.now) in carried-end few (rw e at a.lanes) (rw e at b)

  pub all_results : {out₀ out' : List ℕ} (held' : HeldResults) → length out ≡ length out₀ → Flushed clean.w block₀.used block.held.first block.held.count block.held.tile.cells block.held.marks out out'
      → held'.first ≡ results_in block.held → held'.count ≡ 0
      → AllResults clean.m.d clean.n (operations_in clean) errors clean.results.now clean.w block₀.used out₀ out'
  all_results held' e f first none =
      let t = results_flushed {held' = held'} few a.results f first none in
      let all : held'.first ≡ measured (operations_in clean) (length (operations_in clean)) =
      first ∙ a.count ∙ ap (measured (operations_in clean)) (sym (op-count clean.m.d clean.n clean.ops.now)) in
      record { len = f.len ∙ e; outcomes = λ l i h g. t.outcomes l i h (omega (arith, all)); marks_too = λ l i h g. t.marks_too l i h (omega (arith, all)) }
