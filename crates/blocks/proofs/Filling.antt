-- Blocks one after the other.
-- Assumes nothing.
use mathlib.Core.Path.{◌≡◌, refl, sym, ap, ◌∙◌}
use mathlib.Core.List.{List}
use Prim.Native.Nat.{ℕ, zero, suc, ◌+◌, ◌-◌, ◌*◌, ◌<◌, ◌≤◌}
use native.Mathlib.Nat.{add-mul, mul-le-mul_right}
use native.Mathlib.Decide.{dec_lt}
use native.Mathlib.Omega.{arith}
use lib.ListN.{length, get_or}
use lib.Seq.{ext_get_or}
use Rattle.tableau.specs.Tableau.{part, put}
use Rattle.tableau.proofs.Parts.{row_in, part_length, part_at, put-length, put-left, put_in, put_right}
use Rattle.operation.specs.declared.Operation.{Operation}
use Rattle.operation.specs.declared.WeylError.{WeylError}
use Rattle.runs.specs.Direct.{State}
use Rattle.runs.specs.Frame.{no_frame}
use Rattle.runs.specs.Raised.{final_frame}
use Rattle.tile.specs.Tile.{shot_at}
use Rattle.verdicts.proofs.Written.{verdict-small}
use Rattle.lane_shots.specs.LaneShots.{bytes_by, shifted_shots, ShotRows}
use Rattle.blocks.specs.Blocks.{ShotsFilled}

-- rows that have the same bytes
same_row : (w i : ℕ) (a b : List ℕ) → i * w + w ≤ length a → length b ≡ length a → ((x : ℕ) → x < w → get_or b (i * w + x) 0 ≡ get_or a (i * w + x) 0)
    → shot_at w b i ≡ shot_at w a i
same_row w i a b room len h =
    let size : length (part (i * w) w b) ≡ w = part_length (i * w) w b (omega (arith, room, len)) in
    ext_get_or 0 _ _ (size ∙ sym (part_length (i * w) w a room))
    (λ x g.
    let k : x < w = omega (arith, size) in
    part_at (i * w) w b x k ∙ h x k ∙ sym (part_at (i * w) w a x k))

module _ (d n : ℕ) (ops : List Operation) (clean : State) (errors : ℕ → List WeylError) (w : ℕ) where
  pub filled_none : (out : List ℕ) → ShotsFilled d n ops clean errors w 0 0 out out
  filled_none out = record { len = refl; rows = λ i h g. absurd (omega arith); before = λ b h. refl; after = λ b h. refl }

  -- one block, in its part of the buffer
  module _ (first count : ℕ) (out ys : List ℕ) (room : first * w + count * w ≤ length out)
      (h : ShotRows d n ops clean (λ i. errors (first + i)) w count (part (first * w) (count * w) out) ys) where
    size : length ys ≡ count * w
    size = h.len ∙ part_length (first * w) (count * w) out room

    both : (first + count) * w ≡ first * w + count * w
    both = add-mul first count w

    whole : length (put (first * w) (count * w) ys out) ≡ length out
    whole = put-length (first * w) (count * w) ys out room size

    block_row : (i : ℕ) → i < count → shot_at w (put (first * w) (count * w) ys out) (first + i) ≡ bytes_by d n ops clean errors (first + i)
    block_row i l =
        let fits : i * w + w ≤ count * w = row_in i count w l in
        let at : (first + i) * w ≡ first * w + i * w = add-mul first i w in
        let len : length (part ((first + i) * w) w (put (first * w) (count * w) ys out)) ≡ w =
        part_length ((first + i) * w) w (put (first * w) (count * w) ys out) (omega (arith, fits, whole, at)) in
        ext_get_or 0 _ _ (len ∙ sym (part_length (i * w) w ys (omega (arith, fits, size))))
        (λ x g.
        let k : x < w = omega (arith, len) in
        let p : (first + i) * w + x ≡ first * w + (i * w + x) = omega (arith, at) in
        part_at ((first + i) * w) w (put (first * w) (count * w) ys out) x k
        ∙ ap (λ (y : ℕ). get_or (put (first * w) (count * w) ys out) y 0) p
        ∙ put_in (first * w) (count * w) ys out room size (i * w + x) (omega (arith, fits))
        ∙ sym (part_at (i * w) w ys x k))
        ∙ h.rows i l

    filled-block : ShotsFilled d n ops clean errors w first (first + count) out (put (first * w) (count * w) ys out)
    filled-block =
        record {
          len = whole;
          rows = λ i l g. let q : first + (i - first) ≡ i = omega arith in rw q at (block_row (i - first) (omega arith));
          before = λ b l. put-left (first * w) (count * w) ys out room size b l;
          after = λ b l. put_right (first * w) (count * w) ys out room size b (omega (arith, both));
        }

    pub filled-to : {last : ℕ} → first + count ≡ last → ShotsFilled d n ops clean errors w first last out (put (first * w) (count * w) ys out)
    filled-to e = rw (← e) filled-block

  -- one block more
  pub filled_more : (first next : ℕ) (out mid out' : List ℕ) → first ≤ next → next * w ≤ length out
      → ShotsFilled d n ops clean errors w 0 first out mid
      → ShotsFilled d n ops clean errors w first next mid out'
      → ShotsFilled d n ops clean errors w 0 next out out'
  filled_more first next out mid out' low room a b =
      record {
        len = b.len ∙ a.len;
        rows = λ i l g. by i g (dec_lt i first);
        before = λ x l. absurd (omega arith);
        after = λ x l. b.after x l ∙ a.after x (omega (arith, mul-le-mul_right w low));
      }
    where
      by : (i : ℕ) → i < next → Dec (i < first) → shot_at w out' i ≡ bytes_by d n ops clean errors i
      by i g (yes l) =
          let fits : i * w + w ≤ first * w = row_in i first w l in
          let inside : i * w + w ≤ length mid = omega (arith, fits, mul-le-mul_right w low, room, a.len) in
          same_row w i mid out' inside b.len (λ x k. b.before (i * w + x) (omega (arith, fits))) ∙ a.rows i (omega arith) l
      by i g (no l) = b.rows i (omega arith) g

  -- how many are shifted
  pub shifted_none : shifted_shots d n ops clean errors 0 ≡ 0
  unfolding shifted_shots
  shifted_none = refl

  pub shifted-few : (k : ℕ) → shifted_shots d n ops clean errors k ≤ k
  unfolding shifted_shots
  shifted-few zero = omega arith
  shifted-few (suc k) = omega (arith, shifted-few k, verdict-small d n (final_frame d n ops (errors k) (no_frame n)) clean.rows)

  shifted-more : (first k : ℕ)
      → shifted_shots d n ops clean errors (first + k) ≡ shifted_shots d n ops clean errors first + shifted_shots d n ops clean (λ i. errors (first + i)) k
  unfolding shifted_shots
  shifted-more first zero = let q : first + 0 ≡ first = omega arith in rw q (omega arith)
  shifted-more first (suc k) = let q : first + suc k ≡ suc (first + k) = omega arith in rw q (omega (arith, shifted-more first k))

  pub shifted-to : (first count : ℕ) {last : ℕ} → first + count ≡ last
      → shifted_shots d n ops clean errors last ≡ shifted_shots d n ops clean errors first + shifted_shots d n ops clean (λ i. errors (first + i)) count
  shifted-to first count e = rw (← e) (shifted-more first count)

-- a block lies in the buffer
pub block_inside : (first count shots w L : ℕ) → first + count ≤ shots → shots * w ≤ L → first * w + count * w ≤ L
block_inside first count shots w L h g = omega (arith, add-mul first count w, mul-le-mul_right w h)

-- the bytes between two shots
pub between : (first last w : ℕ) → first ≤ last → last * w - first * w ≡ (last - first) * w
between first last w h =
    let e : first + (last - first) ≡ last = omega arith in
    omega (arith, add-mul first (last - first) w, ap (λ (x : ℕ). x * w) e)
