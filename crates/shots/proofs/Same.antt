-- Clean runs from the same tableau in other buffers serve alike: so a frame run's verdict and results do not depend on what the
-- other lent buffers held.
-- Assumes nothing.
use mathlib.Core.Path.{◌≡◌, refl, sym, ap, ap₂, ◌∙◌}
use mathlib.Core.Bool.{Bool, cond}
use mathlib.Core.List.{List, [], ◌∷◌}
use Prim.Native.Nat.{ℕ, ◌+◌, ◌*◌, ◌/◌, ◌%◌, ◌≤◌, ◌<◌}
use native.Mathlib.Omega.{arith}
use lib.Dec.{eqb}
use lib.ListN.{length, get_or, take, replicate, length-replicate}
use lib.Seq.{ext_get_or}
use Rattle.search.proofs.Search.{all_same}
use Rattle.row.specs.Row.{tab, pairing}
use Rattle.row.proofs.Fill.{tab-length, tab-get}
use Rattle.operation.specs.declared.Operation.{Operation}
use Rattle.operation.specs.declared.WeylError.{WeylError}
use Rattle.circuit.specs.Circuit.{op_at, corrects, kind, measured}
use Rattle.runs.specs.Direct.{State}
use Rattle.runs.specs.Frame.{no_frame, no_shift, verdict_of, frame_run}
use Rattle.runs.specs.Raised.{final_frame, result_shifts}
use Rattle.run_laws.proofs.Window.{Window, window_of}
use Rattle.run_laws.proofs.Results.{related_none, shifted-bytes, Equal}
use Rattle.run_laws.proofs.Buffers.{Twin, twin_run}
use Rattle.shots.specs.Shots.{shot_bytes, shot_run}
use Rattle.shots.specs.Clean.{clean_plus}
use Rattle.shots.proofs.Clean.{shifted-first, clean_serves}

verdict-same : (d n : ℕ) (F t u : List ℕ) → Window n t u → verdict_of d n F t ≡ verdict_of d n F u
unfolding verdict_of
verdict-same d n F t u w =
    ap (λ (b : Bool). cond b 0 1)
    (all_same (no_shift d n F t) (no_shift d n F u) n (λ i l. ap (λ (v : List ℕ). eqb (pairing d n F v) 0) (w.rows (n + i) (omega arith))))

tab-same : (f g : ℕ → ℕ) (k : ℕ) → ((i : ℕ) → i < k → f i ≡ g i) → tab f k ≡ tab g k
tab-same f g k h =
    ext_get_or 0 _ _ (tab-length f k ∙ sym (tab-length g k))
    (λ i l. let b : i < k = omega (arith, tab-length f k) in tab-get f k i 0 b ∙ h i b ∙ sym (tab-get g k i 0 b))

pub plus-same : (d n : ℕ) (ops : List Operation) (A B : State) (errors : List WeylError)
    → Twin n (measured ops (length ops)) (measured ops (length ops)) A B → clean_plus d n ops B errors ≡ clean_plus d n ops A errors
unfolding clean_plus
plus-same d n ops A B errors h =
    ap₂ ◌∷◌ (sym (verdict-same d n (final_frame d n ops errors (no_frame n)) A.rows B.rows h.rows))
    (tab-same _ _ (2 * measured ops (length ops))
    (λ b l. ap (λ (x : ℕ). cond (eqb (b % 2) 0) ((x + get_or (result_shifts d n ops errors (no_frame n)) (b / 2) 0) % d) x) (shifted-bytes h.results b l)))

-- a shot is the frame run in any lent buffers that are long enough
pub shot_any : (d n : ℕ) → 1 < d → (ops : List Operation) → ((k t m : ℕ) → k < length ops → kind (op_at ops k) ≡ corrects t m → m < measured ops k)
    → (errors : List WeylError) (choices t results shifts frame : List ℕ)
    → 2 * n * (2 * n + 1) ≤ length t
    → 2 * measured ops (length ops) ≤ length results
    → let end = frame_run d n ops errors choices (record { rows = t; results = results }) shifts frame in
    shot_bytes (shot_run d n ops choices t errors) ≡ end.verdict ∷ take (2 * measured ops (length ops)) end.results
shot_any d n low ops names errors choices t results shifts frame room long =
    let total = measured ops (length ops) in
    let lent : State = record { rows = t; results = results } in
    let blank : List ℕ = replicate (2 * total) 0 in
    let size : length blank ≡ 2 * total = length-replicate (2 * total) 0 in
    let own : 2 * total ≤ length blank = omega arith in
    let twins =
    twin_run d n low ops [] choices names {A = lent} {B = record { rows = t; results = blank }}
    (record { rows = window_of n room room (λ i l. refl); results = related_none Equal total long own }) in
    clean_serves d n ops choices t errors (omega arith)
    ∙ plus-same d n ops _ _ errors twins
    ∙ sym (shifted-first d n ops errors choices lent shifts frame (omega arith) long)
