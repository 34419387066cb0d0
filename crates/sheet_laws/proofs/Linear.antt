-- What is carried depends linearly on the errors: each kind of operation maps a sum of frames and shifts to the sum of theirs.
-- Assumes nothing.
use mathlib.Core.Path.{◌≡◌, refl, sym, ap, ◌∙◌}
use mathlib.Core.Bool.{Bool, true, false, cond}
use mathlib.Core.List.{List, [], ◌∷◌, ◌++◌}
use Prim.Native.Nat.{ℕ, zero, suc, ◌+◌, ◌*◌, ◌%◌, ◌≤◌, ◌<◌}
use native.Mathlib.Decide.{ℕ_discrete}
use native.Mathlib.Omega.{arith}
use lib.Dec.{eqb}
use lib.ListN.{length, get_or, set, length-append, get_or-append}
use lib.Seq.{get_or_at, get_or-set_same, get_or-set_other}
use borrow.Author.Tests.{lt-ltb}
use Rattle.congruence.proofs.Congruence.{Cong, cong_refl, cong_eq, cong_sym, cong_trans, cong_add, cong_mul-left, cong_mod}
use Rattle.congruence.proofs.Sum.{sum, sum_cong, sum_congr, sum-add, sum-mul, sum-zero}
use Rattle.symplectic.proofs.Map.{Same, Hom}
use Rattle.symplectic.proofs.Gates.{put, put_rel}
use Rattle.modular.specs.Modular.{neg}
use Rattle.modular.specs.Dimension.{Dimension}
use Rattle.row.specs.Row.{x_of}
use Rattle.row_laws.specs.Scalar.{none}
use Rattle.row_laws.proofs.Reading.{bytes, Reads, neg_is}
use Rattle.operation.specs.declared.Operation.{Operation}
use Rattle.operation.specs.declared.WeylError.{WeylError}
use Rattle.operation.specs.Error.{error_allowed, error_frame}
use Rattle.operation.specs.Gate.{gate_frame}
use Rattle.operation.proofs.Operands.{error-facts}
use Rattle.conjugation.specs.Generators.{operator}
use Rattle.conjugation.proofs.Acts.{mapped, gained, Acts, acts}
use Rattle.conjugation.proofs.On.{xz_on}
use Rattle.conjugation.proofs.Errors.{error-on-frame}
use Rattle.circuit.specs.Circuit.{op_at, err_at, Kind, gate, measures, resets, corrects, kind, tally_kind, measured, Accepted}
use Rattle.runs.specs.Frame.{Frame, no_frame, errors_on_frame, reset_frame, correct_frame}
use Rattle.runs.specs.Raised.{Carry, carrying, carry_by, frame_before, carried}
use Rattle.runs.proofs.Frames.{no-powers, no-frame, gate-frame, errors-on-frame, reset-frame, correct_frame_lem}
use Rattle.run_laws.proofs.Books.{qudit_in, reset_in, target_in, named_in}
use Rattle.sheet.specs.Weights.{with_powers, unit_x, unit_z}

-- Σ p·f + s·g over the numbers below m
module _ (m : ℕ) (p s : ℕ → ℕ) where
  abbrev pub blend : (ℕ → ℕ) → (ℕ → ℕ) → ℕ
  blend f g = sum m (λ i. p i * f i + s i * g i)

  blend_cong : (d : ℕ) (f g f' g' : ℕ → ℕ) → ((i : ℕ) → i < m → Cong d (f i) (f' i) × Cong d (g i) (g' i)) → Cong d (blend f g) (blend f' g')
  blend_cong d f g f' g' h =
      sum_cong d m (λ i. p i * f i + s i * g i) (λ i. p i * f' i + s i * g' i)
      (λ i l. cong_add (cong_mul-left (p i) (h i l).0) (cong_mul-left (s i) (h i l).1))

  blend-add : (f g f' g' : ℕ → ℕ) → blend (λ i. f i + f' i) (λ i. g i + g' i) ≡ blend f g + blend f' g'
  blend-add f g f' g' =
      sum_congr m (λ i. p i * (f i + f' i) + s i * (g i + g' i)) (λ i. p i * f i + s i * g i + (p i * f' i + s i * g' i)) (λ i l. omega arith)
      ∙ sum-add m (λ i. p i * f i + s i * g i) (λ i. p i * f' i + s i * g' i)

  blend-mul : (c : ℕ) (f g : ℕ → ℕ) → blend (λ i. c * f i) (λ i. c * g i) ≡ c * blend f g
  blend-mul c f g =
      sum_congr m (λ i. p i * (c * f i) + s i * (c * g i)) (λ i. c * (p i * f i + s i * g i)) (λ i l. omega arith)
      ∙ sum-mul m c (λ i. p i * f i + s i * g i)

  blend-zero : blend (λ i. 0) (λ i. 0) ≡ 0
  blend-zero = sum_congr m (λ i. p i * 0 + s i * 0) (λ i. 0) (λ i l. omega arith) ∙ sum-zero m

-- A map of powers that adds goes with multiples and sums.
module _ (d n : ℕ) (φ : (ℕ → ℕ) → ℕ → ℕ) (δ : (ℕ → ℕ) → ℕ) (hom : Hom d n φ δ) where
  hom-times : (c : ℕ) (u : ℕ → ℕ) → Same d n (φ (λ x. c * u x)) (λ x. c * φ u x)
  hom-times zero u x l =
      cong_trans (hom.resp (λ y. zero * u y) (λ y. 0) (λ y k. cong_eq d (omega arith)) x l)
      (cong_trans (hom.none x l) (cong_eq d (omega arith)))
  hom-times (suc c) u x l =
      cong_trans (hom.resp (λ y. suc c * u y) (λ y. c * u y + u y) (λ y k. cong_eq d (omega arith)) x l)
      (cong_trans (hom.add (λ y. c * u y) u x l)
      (cong_trans (cong_add (hom-times c u x l) (cong_refl d _)) (cong_eq d (omega arith))))

  hom-two : (a b : ℕ) (u w : ℕ → ℕ) → Same d n (φ (λ x. a * u x + b * w x)) (λ x. a * φ u x + b * φ w x)
  hom-two a b u w x l = cong_trans (hom.add (λ y. a * u y) (λ y. b * w y) x l) (cong_add (hom-times a u x l) (hom-times b w x l))

  hom-blend : (p s : ℕ → ℕ) (u w : ℕ → ℕ → ℕ) (m : ℕ)
      → Same d n (φ (λ x. blend m p s (λ i. u i x) (λ i. w i x))) (λ x. blend m p s (λ i. φ (u i) x) (λ i. φ (w i) x))
  unfolding sum
  hom-blend p s u w zero x l = hom.none x l
  hom-blend p s u w (suc m) x l =
      cong_trans (hom.add (λ y. sum m (λ i. p i * u i y + s i * w i y)) (λ y. p m * u m y + s m * w m y) x l)
      (cong_add (hom-blend p s u w m x l) (hom-two (p m) (s m) (u m) (w m) x l))

-- A list with one element more, and a sum of such lists.
module _ (d m : ℕ) (p s : ℕ → ℕ) (F : List ℕ) (G H : ℕ → List ℕ) (v : ℕ) (g h : ℕ → ℕ) where
  end-blend : (L : ℕ) → length F ≡ L → ((i : ℕ) → i < m → (length (G i) ≡ L) × (length (H i) ≡ L))
      → Cong d v (blend m p s g h)
      → ((x : ℕ) → x < L → Cong d (get_or F x 0) (blend m p s (λ i. get_or (G i) x 0) (λ i. get_or (H i) x 0)))
      → (x : ℕ) → x < L + 1
      → Cong d (get_or (F ++ (v ∷ [])) x 0) (blend m p s (λ i. get_or (G i ++ (g i ∷ [])) x 0) (λ i. get_or (H i ++ (h i ∷ [])) x 0))
  end-blend L len lens val rest x l = by (ℕ_discrete x L)
    where
      by : Dec (x ≡ L)
          → Cong d (get_or (F ++ (v ∷ [])) x 0) (blend m p s (λ i. get_or (G i ++ (g i ∷ [])) x 0) (λ i. get_or (H i ++ (h i ∷ [])) x 0))
      by (yes e) =
          cong_trans (cong_eq d (get_or_at F v [] 0 x (omega arith)))
          (cong_trans val
          (blend_cong m p s d g h (λ i. get_or (G i ++ (g i ∷ [])) x 0) (λ i. get_or (H i ++ (h i ∷ [])) x 0)
          (λ i k. (
            cong_eq d (sym (get_or_at (G i) (g i) [] 0 x (omega (arith, (lens i k).0)))),
            cong_eq d (sym (get_or_at (H i) (h i) [] 0 x (omega (arith, (lens i k).1)))),
          ))))
      by (no e) =
          cong_trans (cong_eq d (get_or-append F (v ∷ []) 0 x (omega arith)))
          (cong_trans (rest x (omega arith))
          (blend_cong m p s d (λ i. get_or (G i) x 0) (λ i. get_or (H i) x 0) (λ i. get_or (G i ++ (g i ∷ [])) x 0) (λ i. get_or (H i ++ (h i ∷ [])) x 0)
          (λ i k. (
            cong_eq d (sym (get_or-append (G i) (g i ∷ []) 0 x (omega (arith, (lens i k).0)))),
            cong_eq d (sym (get_or-append (H i) (h i ∷ []) 0 x (omega (arith, (lens i k).1)))),
          ))))

-- A list in which one element is set, and a sum of such lists.
module _ (d m : ℕ) (p s : ℕ → ℕ) (F : List ℕ) (G H : ℕ → List ℕ) (at v : ℕ) (g h : ℕ → ℕ) where
  set-blend : (L : ℕ) → at < length F → ((i : ℕ) → i < m → (at < length (G i)) × (at < length (H i)))
      → Cong d v (blend m p s g h)
      → ((x : ℕ) → x < L → Cong d (get_or F x 0) (blend m p s (λ i. get_or (G i) x 0) (λ i. get_or (H i) x 0)))
      → (x : ℕ) → x < L → Cong d (get_or (set F at v) x 0) (blend m p s (λ i. get_or (set (G i) at (g i)) x 0) (λ i. get_or (set (H i) at (h i)) x 0))
  set-blend L room rooms val rest x l = by (ℕ_discrete x at)
    where
      by : Dec (x ≡ at) → Cong d (get_or (set F at v) x 0) (blend m p s (λ i. get_or (set (G i) at (g i)) x 0) (λ i. get_or (set (H i) at (h i)) x 0))
      by (yes e) =
          rw e
          (cong_trans (cong_eq d (get_or-set_same F at v 0 room))
          (cong_trans val
          (blend_cong m p s d g h (λ i. get_or (set (G i) at (g i)) at 0) (λ i. get_or (set (H i) at (h i)) at 0)
          (λ i k. (cong_eq d (sym (get_or-set_same (G i) at (g i) 0 (rooms i k).0)), cong_eq d (sym (get_or-set_same (H i) at (h i) 0 (rooms i k).1)))))))
      by (no e) =
          cong_trans (cong_eq d (get_or-set_other F at x v 0 e))
          (cong_trans (rest x l)
          (blend_cong m p s d (λ i. get_or (G i) x 0) (λ i. get_or (H i) x 0) (λ i. get_or (set (G i) at (g i)) x 0) (λ i. get_or (set (H i) at (h i)) x 0)
          (λ i k. (cong_eq d (sym (get_or-set_other (G i) at x (g i) 0 e)), cong_eq d (sym (get_or-set_other (H i) at x (h i) 0 e))))))

-- one error more
one_more : (d u v a o F t q g ug h uh : ℕ) {a' g' h' : ℕ} → Cong d (a + o) (F + t) → Cong d a' (a + q) → Cong d q (u * ug + v * uh)
    → Cong d g' (g + ug) → Cong d h' (h + uh)
    → Cong d (a' + (o + (u * g + v * h))) (F + (t + (u * g' + v * h')))
one_more d u v a o F t q g ug h uh ih ha hq hg hh =
    cong_trans (cong_add (cong_trans ha (cong_add (cong_refl d a) hq)) (cong_refl d (o + (u * g + v * h))))
    (cong_trans (cong_eq d (omega arith))
    (cong_trans (cong_add ih (cong_add (cong_mul-left u (cong_sym hg)) (cong_mul-left v (cong_sym hh)))) (cong_eq d (omega arith))))

-- what is carried is in order: a frame, and shifts below d
pub record Good (d n count : ℕ) (C : Carry) : Type 0 where
  pub frame : Frame d n C.frame
  pub long : length C.shifts ≡ count
  pub below : (j : ℕ) → j < count → get_or C.shifts j 0 < d

-- from no frame over the first operations, with some errors
module _ (d n : ℕ) (ops : List Operation) (errors : List WeylError) where
  abbrev pub up_to : ℕ → Carry
  up_to k = carried d n ops errors 0 (carrying (no_frame n)) k

  -- the errors of place k are taken
  abbrev struck_carry : ℕ → Carry → Carry
  struck_carry k C = record { frame = frame_before d n ops errors k C.frame; shifts = C.shifts }

-- what an operation of a kind does
abbrev carry_kind : (d n : ℕ) → Operation → Kind → Carry → Carry
carry_kind d n op gate C = record { frame = gate_frame d n op C.frame; shifts = C.shifts }
carry_kind d n op (measures q) C = record { frame = C.frame; shifts = C.shifts ++ (x_of C.frame q ∷ []) }
carry_kind d n op (resets q) C = record { frame = reset_frame q C.frame; shifts = C.shifts }
carry_kind d n op (corrects t m) C = record { frame = correct_frame d t (get_or C.shifts m 0) C.frame; shifts = C.shifts }

carried-next : (d n : ℕ) (ops : List Operation) (errors : List WeylError) (k : ℕ)
    → up_to d n ops errors (suc k) ≡ carry_kind d n (op_at ops k) (kind (op_at ops k)) (struck_carry d n ops errors k (up_to d n ops errors k))
unfolding carried carry_by
carried-next d n ops errors k = let q : 0 + k ≡ k = omega arith in rw q (by (kind (op_at ops k)) (struck_carry d n ops errors k (up_to d n ops errors k)))
  where
    by : (x : Kind) (C : Carry) → carry_by d n ops errors k x C ≡ carry_kind d n (op_at ops k) x C
    by gate C = refl
    by (measures q) C = refl
    by (resets q) C = refl
    by (corrects t m) C = refl

module _ (e n : ℕ) (dim : Dimension (suc e)) (ops : List Operation) (errors : List WeylError) (choices : List ℕ) (ac : Accepted (suc e) n ops errors choices) where
  abbrev d : ℕ
  d = suc e

  abbrev m : ℕ
  m = length errors

  abbrev p : ℕ → ℕ
  p i = (err_at errors i).p

  abbrev s : ℕ → ℕ
  s i = (err_at errors i).s

  abbrev only_x : ℕ → List WeylError
  only_x i = unit_x (err_at errors i)

  abbrev only_z : ℕ → List WeylError
  only_z i = unit_z (err_at errors i)

  low : 0 < d
  low = omega arith

  -- C is the sum of powers times X and Z
  pub record Blends (count : ℕ) (C : Carry) (X Z : ℕ → Carry) : Type 0 where
    pub good : Good d n count C
    pub goods : (i : ℕ) → i < m → Good d n count (X i) × Good d n count (Z i)
    pub frames : (x : ℕ) → x < n + n → Cong d (get_or C.frame x 0) (blend m p s (λ i. get_or (X i).frame x 0) (λ i. get_or (Z i).frame x 0))
    pub shifts : (j : ℕ) → j < count → Cong d (get_or C.shifts j 0) (blend m p s (λ i. get_or (X i).shifts j 0) (λ i. get_or (Z i).shifts j 0))

  room : {count : ℕ} {C : Carry} → Good d n count C → length C.frame ≡ 2 * n
  room g = g.frame.len

  good-kind : (k : ℕ) → k < length ops → (count : ℕ) (x : Kind) → kind (op_at ops k) ≡ x → (C : Carry) → Good d n count C
      → Good d n (count + tally_kind x) (carry_kind d n (op_at ops k) x C)
  good-kind k l count gate ek C g =
      record {
        frame = gate-frame d n low (op_at ops k) C.frame (ac.operations k l) g.frame;
        long = omega (arith, g.long);
        below = λ j h. g.below j (omega arith);
      }
  good-kind k l count (measures q) ek C g =
      record {
        frame = g.frame;
        long = omega (arith, length-append C.shifts (x_of C.frame q ∷ []), g.long);
        below = λ j h. by j h (ℕ_discrete j count);
      }
    where
      by : (j : ℕ) → j < count + 1 → Dec (j ≡ count) → get_or (C.shifts ++ (x_of C.frame q ∷ [])) j 0 < d
      by j h (yes w) =
          rw (get_or_at C.shifts (x_of C.frame q) [] 0 j (omega (arith, g.long)))
          (g.frame.powers.below q (omega (arith, qudit_in ac k q l ek)))
      by j h (no w) = rw (get_or-append C.shifts (x_of C.frame q ∷ []) 0 j (omega (arith, g.long))) (g.below j (omega arith))
  good-kind k l count (resets q) ek C g =
      record { frame = reset-frame d n low q C.frame g.frame; long = omega (arith, g.long); below = λ j h. g.below j (omega arith) }
  good-kind k l count (corrects t i) ek C g =
      record { frame = correct_frame_lem d n low t (get_or C.shifts i 0) C.frame g.frame; long = omega (arith, g.long); below = λ j h. g.below j (omega arith) }

  -- The linear law, a clause for each kind of operation: a gate since it keeps the product of rows, a correction since the shift that it
  -- subtracts is itself linear.
  blends_kind : (k : ℕ) → k < length ops → (count : ℕ) → count ≡ measured ops k → (C : Carry) (X Z : ℕ → Carry) → Blends count C X Z → (x : Kind) → kind (op_at ops k) ≡ x
      → Blends (count + tally_kind x) (carry_kind d n (op_at ops k) x C) (λ i. carry_kind d n (op_at ops k) x (X i)) (λ i. carry_kind d n (op_at ops k) x (Z i))
  blends_kind k l count ec C X Z b gate ek =
      record {
        good = good-kind k l count gate ek C b.good;
        goods = λ i h. (good-kind k l count gate ek (X i) (b.goods i h).0, good-kind k l count gate ek (Z i) (b.goods i h).1);
        frames = λ x h.
            cong_trans (a.powers C.frame (omega (arith, room b.good)) x h)
            (cong_trans (a.hom.resp (bytes C.frame) (λ y. blend m p s (λ i. bytes (X i).frame y) (λ i. bytes (Z i).frame y)) b.frames x h)
            (cong_trans (hom-blend d n (mapped d n op) (gained d n op) a.hom p s (λ i. bytes (X i).frame) (λ i. bytes (Z i).frame) m x h)
            (blend_cong m p s d (λ i. mapped d n op (bytes (X i).frame) x) (λ i. mapped d n op (bytes (Z i).frame) x) _ _
            (λ i li. (
              cong_sym (a.powers (X i).frame (omega (arith, room (b.goods i li).0)) x h),
              cong_sym (a.powers (Z i).frame (omega (arith, room (b.goods i li).1)) x h),
            )))));
        shifts = λ j h. b.shifts j (omega arith);
      }
    where
      op : Operation
      op = op_at ops k

      a : Acts d n op
      a = acts dim op (ac.operations k l)
  blends_kind k l count ec C X Z b (measures q) ek =
      let lq : q < n = qudit_in ac k q l ek in
      record {
        good = good-kind k l count (measures q) ek C b.good;
        goods = λ i h. (good-kind k l count (measures q) ek (X i) (b.goods i h).0, good-kind k l count (measures q) ek (Z i) (b.goods i h).1);
        frames = b.frames;
        shifts =
            end-blend d m p s C.shifts (λ i. (X i).shifts) (λ i. (Z i).shifts) (x_of C.frame q) (λ i. x_of (X i).frame q) (λ i. x_of (Z i).frame q) count
            b.good.long
            (λ i h. ((b.goods i h).0.long, (b.goods i h).1.long))
            (b.frames q (omega arith))
            b.shifts;
      }
  blends_kind k l count ec C X Z b (resets q) ek =
      let lq : q < n = reset_in ac k q l ek in
      record {
        good = good-kind k l count (resets q) ek C b.good;
        goods = λ i h. (good-kind k l count (resets q) ek (X i) (b.goods i h).0, good-kind k l count (resets q) ek (Z i) (b.goods i h).1);
        frames =
            set-blend d m p s C.frame (λ i. (X i).frame) (λ i. (Z i).frame) q 0 (λ i. 0) (λ i. 0) (n + n)
            (omega (arith, room b.good))
            (λ i h. (omega (arith, room (b.goods i h).0), omega (arith, room (b.goods i h).1)))
            (cong_eq d (sym (blend-zero m p s)))
            b.frames;
        shifts = λ j h. b.shifts j (omega arith);
      }
  blends_kind k l count ec C X Z b (corrects t j) ek =
      let lt : t < n = target_in ac k t j l ek in
      let lj : j < count = omega (arith, named_in ac k t j l ek) in
      record {
        good = good-kind k l count (corrects t j) ek C b.good;
        goods = λ i h. (good-kind k l count (corrects t j) ek (X i) (b.goods i h).0, good-kind k l count (corrects t j) ek (Z i) (b.goods i h).1);
        frames =
            set-blend d m p s C.frame (λ i. (X i).frame) (λ i. (Z i).frame) t ((x_of C.frame t + neg d (get_or C.shifts j 0)) % d)
            (λ i. (x_of (X i).frame t + neg d (get_or (X i).shifts j 0)) % d)
            (λ i. (x_of (Z i).frame t + neg d (get_or (Z i).shifts j 0)) % d)
            (n + n)
            (omega (arith, room b.good))
            (λ i h. (omega (arith, room (b.goods i h).0), omega (arith, room (b.goods i h).1)))
            (cong_trans (less (x_of C.frame t) (get_or C.shifts j 0))
            (cong_trans (cong_add (b.frames t (omega arith)) (cong_mul-left e (b.shifts j lj)))
            (cong_trans (cong_eq d (sym (together j t)))
            (blend_cong m p s d _ _ _ _ (λ i h. (cong_sym (less (x_of (X i).frame t) (get_or (X i).shifts j 0)), cong_sym (less (x_of (Z i).frame t) (get_or (Z i).shifts j 0))))))))
            b.frames;
        shifts = λ j h. b.shifts j (omega arith);
      }
    where
      less : (a c : ℕ) → Cong d ((a + neg d c) % d) (a + e * c)
      less a c = cong_trans (cong_sym (cong_mod d _)) (cong_add (cong_refl d a) (neg_is e c))

      together : (j t : ℕ)
          → blend m p s (λ i. x_of (X i).frame t + e * get_or (X i).shifts j 0) (λ i. x_of (Z i).frame t + e * get_or (Z i).shifts j 0)
          ≡ blend m p s (λ i. x_of (X i).frame t) (λ i. x_of (Z i).frame t) + e * blend m p s (λ i. get_or (X i).shifts j 0) (λ i. get_or (Z i).shifts j 0)
      together j t =
          blend-add m p s (λ i. x_of (X i).frame t) (λ i. x_of (Z i).frame t) (λ i. e * get_or (X i).shifts j 0) (λ i. e * get_or (Z i).shifts j 0)
          ∙ ap (λ (z : ℕ). blend m p s (λ i. x_of (X i).frame t) (λ i. x_of (Z i).frame t) + z)
          (blend-mul m p s e (λ i. get_or (X i).shifts j 0) (λ i. get_or (Z i).shifts j 0))

  -- an error's powers, and those of its two units
  unit-allowed : (er : WeylError) → error_allowed d n er ≡ true → (error_allowed d n (with_powers er 1 0) ≡ true) × (error_allowed d n (with_powers er 0 1) ≡ true)
  unit-allowed er h =
      let q = (error-facts d n er h).0 in
      let two : 1 < d = omega (arith, dim.low) in
      (rw (lt-ltb er.qudit n q, lt-ltb 1 d two, lt-ltb 0 d low), rw (lt-ltb er.qudit n q, lt-ltb 0 d low, lt-ltb 1 d two))

  gains : (er : WeylError) → error_allowed d n er ≡ true → (F : List ℕ) → Frame d n F → (x : ℕ) → x < n + n
      → Cong d (get_or (error_frame d n er F) x 0) (get_or F x 0 + get_or (operator d n er) x 0)
  gains er h F f x l =
      cong_trans (cong_eq d (error-on-frame d n dim er h F f.powers x (omega arith))) (cong_sym (cong_mod d _))

  -- the error's X^p Z^s
  reads-operator : (er : WeylError) → error_allowed d n er ≡ true → Reads d n (operator d n er) (put n er.qudit er.p er.s none) 0
  unfolding operator
  reads-operator er h =
      let two : 1 < d = omega (arith, dim.low) in
      (xz_on two (error-facts d n er h).0 er.p er.s).reads

  units : (er : WeylError) → error_allowed d n er ≡ true → (x : ℕ) → x < n + n
      → Cong d (get_or (operator d n er) x 0)
      (er.p * get_or (operator d n (with_powers er 1 0)) x 0 + er.s * get_or (operator d n (with_powers er 0 1)) x 0)
  units er h x l =
      let (hx, hz) = unit-allowed er h in
      cong_trans ((reads-operator er h).powers x l)
      (cong_trans
      (put_rel n er.qudit (λ a b c. Cong d a (er.p * b + er.s * c)) er.p er.s none 1 0 none 0 1 none x
      (cong_eq d (omega arith))
      (cong_eq d (omega arith))
      (cong_eq d (omega arith)))
      (cong_sym
      (cong_add (cong_mul-left er.p ((reads-operator (with_powers er 1 0) hx).powers x l))
      (cong_mul-left er.s ((reads-operator (with_powers er 0 1) hz).powers x l)))))

  -- What entry i's own unit error makes of G at place k.
  abbrev struck_x : ℕ → ℕ → List ℕ → List ℕ
  struck_x k i G = cond (eqb (err_at errors i).place k) (error_frame d n (with_powers (err_at errors i) 1 0) G) G

  abbrev struck_z : ℕ → ℕ → List ℕ → List ℕ
  struck_z k i G = cond (eqb (err_at errors i).place k) (error_frame d n (with_powers (err_at errors i) 0 1) G) G

  module _ (k : ℕ) (F : List ℕ) (f : Frame d n F) (G H : ℕ → List ℕ) (gs : (i : ℕ) → i < m → Frame d n (G i) × Frame d n (H i)) where
    -- The errors of the first j entries change F as their units change G and H.
    strike_blend : (x : ℕ) → x < n + n → (j : ℕ) → j ≤ m
        → Cong d (get_or (errors_on_frame d n errors k F j) x 0 + blend j p s (λ i. get_or (G i) x 0) (λ i. get_or (H i) x 0))
        (get_or F x 0 + blend j p s (λ i. get_or (struck_x k i (G i)) x 0) (λ i. get_or (struck_z k i (H i)) x 0))
    unfolding errors_on_frame sum
    strike_blend x l zero h = cong_refl d _
    strike_blend x l (suc j) h = by (eqb (err_at errors j).place k) (strike_blend x l j (omega arith))
      where
        er : WeylError
        er = err_at errors j

        S : List ℕ
        S = errors_on_frame d n errors k F j

        old : ℕ
        old = sum j (λ i. p i * get_or (G i) x 0 + s i * get_or (H i) x 0)

        new : ℕ
        new = sum j (λ i. p i * get_or (struck_x k i (G i)) x 0 + s i * get_or (struck_z k i (H i)) x 0)

        ok : error_allowed d n er ≡ true
        ok = ac.errors-in-order.each j (omega arith)

        by : (b : Bool) → Cong d (get_or S x 0 + old) (get_or F x 0 + new)
            → Cong d (get_or (cond b (error_frame d n er S) S) x 0 + (old + (p j * get_or (G j) x 0 + s j * get_or (H j) x 0)))
            (get_or F x 0 + (new + (p j * get_or (cond b (error_frame d n (with_powers er 1 0) (G j)) (G j)) x 0 + s j * get_or (cond b (error_frame d n (with_powers er 0 1) (H j)) (H j)) x 0)))
        by true ih =
            let (hx, hz) = unit-allowed er ok in
            let (fg, fh) = gs j (omega arith) in
            one_more d (p j) (s j) (get_or S x 0) old (get_or F x 0) new (get_or (operator d n er) x 0) (get_or (G j) x 0)
            (get_or (operator d n (with_powers er 1 0)) x 0) (get_or (H j) x 0) (get_or (operator d n (with_powers er 0 1)) x 0)
            ih
            (gains er ok S (errors-on-frame d n low errors k F f j) x l)
            (units er ok x l)
            (gains (with_powers er 1 0) hx (G j) fg x l)
            (gains (with_powers er 0 1) hz (H j) fh x l)
        by false ih = cong_trans (cong_eq d (omega arith)) (cong_trans (cong_add ih (cong_refl d (p j * get_or (G j) x 0 + s j * get_or (H j) x 0))) (cong_eq d (omega arith)))

  -- the errors of place k, and each unit error where it is of place k
  blends_struck : (k count : ℕ) (C : Carry) (X Z : ℕ → Carry) → Blends count C X Z
      → Blends count (struck_carry d n ops errors k C) (λ i. struck_carry d n ops (only_x i) k (X i)) (λ i. struck_carry d n ops (only_z i) k (Z i))
  unfolding frame_before errors_on_frame
  blends_struck k count C X Z b =
      record {
        good = record { frame = errors-on-frame d n low errors k C.frame b.good.frame m; long = b.good.long; below = b.good.below };
        goods = λ i h. (
          record { frame = errors-on-frame d n low (only_x i) k (X i).frame (b.goods i h).0.frame 1; long = (b.goods i h).0.long; below = (b.goods i h).0.below },
          record { frame = errors-on-frame d n low (only_z i) k (Z i).frame (b.goods i h).1.frame 1; long = (b.goods i h).1.long; below = (b.goods i h).1.below },
        );
        frames = λ x l.
            cancel _ _ _ _ (b.frames x l)
            (strike_blend k C.frame b.good.frame (λ i. (X i).frame) (λ i. (Z i).frame) (λ i h. ((b.goods i h).0.frame, (b.goods i h).1.frame)) x l m (omega arith));
        shifts = b.shifts;
      }
    where
      cancel : (c t a u : ℕ) → Cong d c t → Cong d (a + t) (c + u) → Cong d a u
      cancel c t a u h k = record { p = h.p + k.p; q = h.q + k.q; eq = omega (arith, h.eq, k.eq) }

  good_start : (E : List WeylError) → Good d n 0 (up_to d n ops E 0)
  unfolding carried
  good_start E = record { frame = no-frame d n low; long = refl; below = λ j l. absurd (omega arith) }

  blends_same : {count : ℕ} {C C' : Carry} {X X' Z Z' : ℕ → Carry} → C' ≡ C → ((i : ℕ) → X' i ≡ X i) → ((i : ℕ) → Z' i ≡ Z i)
      → Blends count C X Z → Blends count C' X' Z'
  blends_same {count} {C} {C'} {X} {X'} {Z} {Z'} c x z b =
      record {
        good = rw c b.good;
        goods = λ i h. (rw (x i) (b.goods i h).0, rw (z i) (b.goods i h).1);
        frames = λ y l.
            rw c
            (cong_trans (b.frames y l)
            (blend_cong m p s d (λ i. get_or (X i).frame y 0) (λ i. get_or (Z i).frame y 0) (λ i. get_or (X' i).frame y 0) (λ i. get_or (Z' i).frame y 0)
            (λ i h. (rw (x i) (cong_refl d _), rw (z i) (cong_refl d _)))));
        shifts = λ j l.
            rw c
            (cong_trans (b.shifts j l)
            (blend_cong m p s d (λ i. get_or (X i).shifts j 0) (λ i. get_or (Z i).shifts j 0) (λ i. get_or (X' i).shifts j 0) (λ i. get_or (Z' i).shifts j 0)
            (λ i h. (rw (x i) (cong_refl d _), rw (z i) (cong_refl d _)))));
      }

  -- before operation k
  pub blends_all : (k : ℕ) → k ≤ length ops
      → Blends (measured ops k) (up_to d n ops errors k) (λ i. up_to d n ops (only_x i) k) (λ i. up_to d n ops (only_z i) k)
  unfolding measured carried
  blends_all zero l =
      record {
        good = good_start errors;
        goods = λ i h. (good_start (only_x i), good_start (only_z i));
        frames = λ x h. nought (get_or (no_frame n) x 0) (no-powers n x);
        shifts = λ j h. absurd (omega arith);
      }
    where
      nought : (z : ℕ) → z ≡ 0 → Cong d z (blend m p s (λ i. z) (λ i. z))
      nought z q = rw q (cong_eq d (sym (blend-zero m p s)))
  blends_all (suc k) l =
      blends_same (carried-next d n ops errors k) (λ i. carried-next d n ops (only_x i) k) (λ i. carried-next d n ops (only_z i) k)
      (blends_kind k l (measured ops k) refl _ _ _ (blends_struck k (measured ops k) _ _ _ (blends_all k (omega arith))) (kind (op_at ops k)) refl)
