-- Shots that have errors, each in its lane.
-- Assumes nothing.
use mathlib.Core.Path.{◌≡◌, refl}
use mathlib.Core.Logic.{◌≢◌, ◌⊎◌, inl, inr}
use mathlib.Core.Bool.{not}
use mathlib.Core.List.{List, []}
use Prim.Native.Nat.{ℕ, zero, suc, ◌+◌, ◌<◌, ◌≤◌}
use native.Mathlib.Numerals.{add-one}
use native.Mathlib.Decide.{ℕ_discrete}
use native.Mathlib.Omega.{arith}
use lib.Dec.{eqb}
use Rattle.std.specs.Int.{from_bool}
use lib.ListN.{length, set, replicate}
use lib.Seq.{get_or-set_same, get_or-set_other}
use borrow.Author.Tests.{eq-eqb, ne_eqb}
use Rattle.row.specs.Row.{tab}
use Rattle.tableau.specs.Tableau.{part}
use Rattle.circuit.specs.Circuit.{ErrorsInOrder}
use Rattle.book.specs.Decoded.{errors_of}
use Rattle.tray.specs.Tray.{shots_in, length_at, start_of}
use Rattle.expand.specs.Expand.{noisy_among}
use Rattle.calendar.specs.LaneErrors.{span_at, errors_at, LaneBodies}
use Rattle.calendar.specs.declared.lane_errors.Span.{Span}
use Rattle.expand.proofs.Noisy.{noisy_none, noisy_one, noisy_less}
use Rattle.blocks.specs.Blocks.{shot_errors, OfShot, NoBody, Assigned, TrayErrors}

-- no span
blank_at : (n l : ℕ) → span_at (replicate n (record { start = 0; size = 0 })) l ≡ record { start = 0; size = 0 }
blank_at zero l = refl
blank_at (suc n) zero = refl
blank_at (suc n) (suc l) = blank_at n l

module _ (tray : List ℕ) (first : ℕ) where
  -- one shot more, which has errors or not
  pub noisy_counted : (k noisy r : ℕ) → noisy ≡ noisy_among tray first k → r ≡ from_bool (not (eqb (length_at tray (first + k)) 0))
      → noisy + r ≡ noisy_among tray first (k + 1)
  noisy_counted k noisy r a b = by (ℕ_discrete (length_at tray (first + k)) 0)
    where
      by : Dec (length_at tray (first + k) ≡ 0) → noisy + r ≡ noisy_among tray first (k + 1)
      by (yes e) = let q = rw (eq-eqb (length_at tray (first + k)) 0 e) at b in rw (add-one k) (omega (arith, a, q, noisy_none tray first k e))
      by (no e) = let q = rw (ne_eqb (length_at tray (first + k)) 0 e) at b in rw (add-one k) (omega (arith, a, q, noisy_one tray first k e))

  -- no shot has no errors
  pub noisy_some : (k : ℕ) → 0 < noisy_among tray first k → 0 < k
  unfolding noisy_among
  noisy_some zero h = absurd (omega arith)
  noisy_some (suc k) h = omega arith

  pub assigned_none : {spans : List Span} → spans ≡ replicate 256 (record { start = 0; size = 0 }) → Assigned tray first 0 spans
  assigned_none a =
      record {
        lane_of = λ i h z. absurd (omega arith);
        shot_of = λ l h. inr (rw (a, blank_at 256 l) (record { begins = refl; long = refl }));
      }

  module _ {spans : List Span} (k noisy : ℕ) (span : Span) (is : noisy ≡ noisy_among tray first k) (room : noisy < length spans)
      (inside : first + k < shots_in tray) (a : span.start ≡ start_of tray (first + k)) (b : span.size ≡ length_at tray (first + k)) (h : Assigned tray first k spans) where
    abbrev spans' : List Span
    spans' = set spans noisy span

    here : span_at spans' noisy ≡ span
    here = get_or-set_same spans noisy span _ room

    other : (l : ℕ) → l ≢ noisy → span_at spans' l ≡ span_at spans l
    other l e = get_or-set_other spans noisy l span _ e

    abbrev Lane : ℕ → Type 0
    Lane i =
        ((span_at spans' (noisy_among tray first i)).start ≡ start_of tray (first + i)) × ((span_at spans' (noisy_among tray first i)).size ≡ length_at tray (first + i))

    lane : (i : ℕ) → i < k + 1 → length_at tray (first + i) ≢ 0 → Dec (i ≡ k) → Lane i
    lane i l z (yes e) = rw (e, ← is, here) (a, b)
    lane i l z (no e) =
        let low : i < k = omega arith in
        let apart : noisy_among tray first i ≢ noisy = λ q. absurd (omega (arith, noisy_less tray first i k low z)) in
        rw (other (noisy_among tray first i) apart) (h.lane_of i low z)

    shot : (l : ℕ) → l < 256 → Dec (l ≡ noisy) → OfShot tray (span_at spans' l) ⊎ NoBody (span_at spans' l)
    shot l m (yes e) = inl (rw (e, here) (record { shot = first + k; inside = inside; begins = a; long = b }))
    shot l m (no e) = rw (other l e) (h.shot_of l m)

    pub assigned_more : Assigned tray first (k + 1) spans'
    assigned_more = record { lane_of = λ i l z. lane i l z (ℕ_discrete i k); shot_of = λ l m. shot l m (ℕ_discrete l noisy) }

-- a body of no bytes has no errors
pub no_bytes : (start size : ℕ) (tray : List ℕ) → size ≡ 0 → errors_of (part start size tray) ≡ []
unfolding part errors_of tab
no_bytes start size tray e = rw e refl

module _ {tray : List ℕ} {first count : ℕ} {spans : List Span} (h : Assigned tray first count spans) where
  -- a shot's lane has its errors
  pub lane-errors : (i : ℕ) → i < count → length_at tray (first + i) ≢ 0 → errors_at tray spans (noisy_among tray first i) ≡ shot_errors tray (first + i)
  lane-errors i l z = rw ((h.lane_of i l z).0, (h.lane_of i l z).1)

  module _ (d n : ℕ) (loaded : TrayErrors d n tray) where
    inside : (span : Span) → OfShot tray span ⊎ NoBody span → span.start + span.size ≤ length tray
    inside span (inl a) = rw (a.begins, a.long) (loaded.lies.inside a.shot a.inside)
    inside span (inr a) = omega (arith, a.begins, a.long)

    errors-in-order : (span : Span) → OfShot tray span ⊎ NoBody span → ErrorsInOrder d n (errors_of (part span.start span.size tray))
    errors-in-order span (inl a) = rw (a.begins, a.long) (loaded.errors-in-order a.shot a.inside)
    errors-in-order span (inr a) =
        rw (no_bytes span.start span.size tray a.long) (record { each = λ j z. absurd (omega arith); in_order = λ i j o z. absurd (omega arith) })

    pub block_of : LaneBodies d n tray spans
    block_of =
        record {
          inside = λ l m. inside (span_at spans l) (h.shot_of l m);
          errors-in-order = λ l m. errors-in-order (span_at spans l) (h.shot_of l m);
        }
