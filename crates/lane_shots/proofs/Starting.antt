-- A block at its start: every lane in the first list, no frame in any lane.
-- Assumes nothing.
use mathlib.Core.Path.{◌≡◌, refl, sym, ap, ◌∙◌}
use mathlib.Core.List.{List}
use Prim.Native.Nat.{ℕ, zero, suc, ◌+◌, ◌*◌, ◌%◌, ◌<◌, ◌≤◌}
use native.Mathlib.Decide.{ℕ_discrete}
use native.Mathlib.Omega.{arith}
use lib.ListN.{length, get_or, set, length-replicate}
use lib.Seq.{get_or-set_same, get_or-set_other, ext_get_or}
use Rattle.modular.specs.Dimension.{Dimension}
use Rattle.row.proofs.Fill.{tab-length, tab-get}
use Rattle.operation.specs.declared.WeylError.{WeylError}
use Rattle.runs.proofs.Frames.{no-frame}
use Rattle.lanes.specs.Lanes.{power_at, lane, Lanes}
use Rattle.calendar.specs.Calendar.{waiting, Queued}
use Rattle.calendar.specs.declared.Queue.{Queue}
use Rattle.block.specs.Block.{NoFrames}
use Rattle.lane_shots.specs.LaneShots.{blank, AllQueued}

pub blank-length : (n : ℕ) → length (blank n) ≡ n
blank-length n = length-replicate {A = ℕ} n 0

pub zeros : (n l : ℕ) → ◌≡◌ {A = ℕ} (get_or (blank n) l 0) 0
zeros zero l = refl
zeros (suc n) zero = refl
zeros (suc n) (suc l) = zeros n l

-- the lists
pub queued-more : (slots : List ℕ) (k x : ℕ) → k < length slots → x ≡ k → ((l : ℕ) → l < k → get_or slots l 0 ≡ l)
    → (l : ℕ) → l < k + 1 → get_or (set slots k x) l 0 ≡ l
queued-more slots k x low q h l g = by (ℕ_discrete l k)
  where
    by : Dec (l ≡ k) → get_or (set slots k x) l 0 ≡ l
    by (yes e) = rw e (get_or-set_same slots k x 0 low ∙ q)
    by (no e) = get_or-set_other slots k l x 0 e ∙ h l (omega arith)

zeros-elsewhere : (counts : List ℕ) → counts ≡ blank 256 → (r : ℕ) → 0 < r → get_or (set counts 0 256) r 0 ≡ 0
zeros-elsewhere counts e r h = get_or-set_other counts 0 r 256 0 (λ z. absurd (omega arith)) ∙ rw e (zeros 256 r)

pub all-queued : {queue : Queue} → ((l : ℕ) → l < 256 → get_or queue.slots l 0 ≡ l) → queue.counts ≡ blank 256 → queue.cursors ≡ blank 256
    → AllQueued (record queue { counts = set queue.counts 0 256 })
all-queued {queue} lanes e none =
    record {
      lanes = lanes;
      first = get_or-set_same queue.counts 0 256 0 (omega (arith, ap length e, blank-length 256));
      others = zeros-elsewhere queue.counts e;
      none_taken = none;
    }

waiting_none : (counts : List ℕ) → waiting counts 0 ≡ 0
unfolding waiting
waiting_none counts = refl

waiting-more : (counts : List ℕ) (k : ℕ) → waiting counts (suc k) ≡ waiting counts k + get_or counts k 0
unfolding waiting
waiting-more counts k = refl

waiting-one : {queue : Queue} → AllQueued queue → (k : ℕ) → waiting queue.counts (suc k) ≡ 256
waiting-one {queue} h zero = omega (arith, waiting-more queue.counts 0, waiting_none queue.counts, h.first)
waiting-one {queue} h (suc k) = omega (arith, waiting-more queue.counts (suc k), waiting-one h k, h.others (suc k) (omega arith))

pub queued-start : (E : ℕ → List WeylError) {queue : Queue} → AllQueued queue → Queued E queue 0
queued-start E {queue} h =
    record {
      few = omega (arith, waiting-one h 255);
      reached = λ l g. rw (h.none_taken, zeros 256 l) (record { inside = omega arith; spent = λ i z. absurd (omega arith); left = λ i a b. omega arith });
      pending = λ l g z. record {
        at = 0;
        from = omega arith;
        reach = omega arith;
        in_time = omega arith;
        in_list = record { index = l; inside = omega (arith, h.first); is = let q : 256 * (0 % 256) + l ≡ l = omega arith in rw q (h.lanes l g) };
      };
    }

-- no frame in any lane
pub empty : (n : ℕ) {v : List ℕ} → v ≡ blank 32768 → NoFrames n v
unfolding lane
empty n {v} e l h =
    ext_get_or 0 _ _ (tab-length (power_at v l) (2 * n) ∙ sym (blank-length (2 * n)))
    (λ i g.
    let k : i < 2 * n = omega (arith, tab-length (power_at v l) (2 * n)) in
    tab-get (power_at v l) (2 * n) i 0 k ∙ at_zero (256 * i + l) ∙ sym (zeros (2 * n) i))
  where
    at_zero : (i : ℕ) → get_or v i 0 ≡ 0
    at_zero i = rw e (zeros 32768 i)

pub lanes_start : (d n : ℕ) {v : List ℕ} → Dimension d → n ≤ 64 → v ≡ blank 32768 → Lanes d n v
lanes_start d n {v} dim few e =
    record {
      dimension = dim.high;
      qudits = few;
      room = omega (arith, ap length e, blank-length 32768);
      powers = λ l h. rw (empty n e l h) (no-frame d n (omega (arith, dim.low))).powers;
    }
