-- The tray run of an accepted book, by the tests of tray, buffers and tableau.
-- Assumes nothing.
use Rattle.std.proofs.Common.{Some, None, Result, Ok}
use mathlib.Core.Path.{◌≡◌, sym, ap, ◌∙◌}
use mathlib.Core.Bool.{Bool, true, false}
use mathlib.Core.List.{List}
use Prim.Native.Nat.{ℕ, ◌+◌, ◌-◌, ◌*◌, ◌≤◌}
use native.Mathlib.Omega.{arith}
use lib.Dec.{leb}
use lib.ListN.{length}
use borrow.Author.Tests.{leb-true}
use Rattle.search.proofs.Search.{both}
use Rattle.saved_tableau.specs.Saved.{rows_in, tableau_bytes, valid_for}
use Rattle.saved_tableau_laws.proofs.Exactly.{valid-rows}
use Rattle.circuit.specs.Circuit.{measurement_count}
use Rattle.book_body.specs.declared.Numbers.{Numbers}
use Rattle.answer.specs.declared.Refusal.{Refusal}
use Rattle.book_body.specs.Body.{accepted, answer_of, measured_of, measured_by}
use Rattle.book.specs.Book.{part_of, read_book}
use Rattle.book.specs.Decoded.{operations_of}
use Rattle.book.proofs.Handed.{Handed, handed}
use Rattle.tray.specs.Tray.{shots_in, table_fits, bad_shot}
use Rattle.tray.proofs.Table.{table_says}
use Rattle.shots.specs.Shots.{clean_among, shifted_among, filled_by, TrayLeft, tray_refused, tray_buffers_fit, tray_by_answer, tray_book}
use Rattle.shots.proofs.Rows.{counts_are}
use Rattle.shots_run.specs.Ready.{Ready}
use Rattle.tray_run.proofs.Ready.{few-measured, ready}

-- what a branch on a test's answer knows of the test
module _ {answer test : Bool} (e : answer ≡ test) where
  pub failed : answer ≡ false → test ≡ false
  failed h = sym e ∙ h

  pub held : answer ≡ true → test ≡ true
  held h = sym e ∙ h

-- an accepted book: the reader's answer, and what is handed to the run
pub record Opened (s : List ℕ) (b : Numbers) : Type 0 where
  pub reads : read_book s ≡ accepted b.d b.n b.operations b.errors b.choices
  pub hands : Handed s b.d b.n b.measurements

pub opened : (s : List ℕ) {reading : Result Numbers Refusal} {b : Numbers}
    → answer_of reading ≡ read_book s → measured_of reading ≡ measured_by (part_of s 4) (answer_of reading) → reading ≡ Ok b
    → Opened s b
opened s e counts f = record { reads = sym e ∙ ap answer_of f; hands = handed s e counts f }

module _ {s : List ℕ} {b : Numbers} (book : Opened s b) (tray t out : List ℕ) where
  abbrev d : ℕ
  d = b.d

  abbrev n : ℕ
  n = b.n

  abbrev g : Handed s d n b.measurements
  g = book.hands

  -- 11
  pub bad-table : table_fits tray ≡ false → tray_refused 11 0 out ≡ tray_book s tray t out
  unfolding tray_book tray_by_answer
  bad-table e = rw (book.reads, e)

  module _ (table : table_fits tray ≡ true) where
    -- 6
    pub bad-tray : {i : ℕ} → bad_shot d n b.operations tray ≡ Some i → tray_refused 6 i out ≡ tray_book s tray t out
    unfolding tray_book tray_by_answer
    bad-tray e = rw (book.reads, table, e)

    pub sizes : (n ≤ 64) × (b.measurements ≤ 4096) × (shots_in tray ≤ 4096)
    sizes = (g.qudits, few-measured s g, (table_says tray table).few)

    module _ (good : bad_shot d n b.operations tray ≡ None) where
      -- 8
      pub short-book : tray_buffers_fit n b.measurements (shots_in tray) t out ≡ false → tray_refused 8 0 out ≡ tray_book s tray t out
      unfolding tray_book tray_by_answer
      short-book e = rw (book.reads, table, good, g.counted, e)

      module _ (fitting : tray_buffers_fit n b.measurements (shots_in tray) t out ≡ true) where
        pub rooms : (tableau_bytes n ≤ length t) × (shots_in tray * (1 + 2 * measurement_count (operations_of d n (part_of s 4))) ≤ length out)
        unfolding tray_buffers_fit
        rooms =
            let c = both (leb (tableau_bytes n) (length t)) (leb (shots_in tray * (1 + 2 * b.measurements)) (length out)) fitting in
            (leb-true _ _ c.0, rw g.counted-part (leb-true _ _ c.1))

        -- 9
        pub invalid-book : valid_for d n t ≡ false → tray_refused 9 0 out ≡ tray_book s tray t out
        unfolding tray_book tray_by_answer
        invalid-book e = rw (book.reads, table, good, g.counted, fitting, e)

        module _ (tested : valid_for d n t ≡ true) where
          pub given : Ready d n tray (rows_in t) (part_of s 4) (part_of s 16)
          given = ready s g book.reads tray table good (rows_in t) (valid-rows t rooms.0 tested)

          -- 0, where `shifted` of the shots are shifted
          module _ {shifted : ℕ} (c : shifted ≡ shifted_among d n (operations_of d n (part_of s 4)) (part_of s 16) (rows_in t) tray (shots_in tray)) where
            counts : clean_among d n (operations_of d n (part_of s 4)) (part_of s 16) (rows_in t) tray (shots_in tray) + shifted ≡ shots_in tray
            counts = rw c (counts_are d n (operations_of d n (part_of s 4)) (part_of s 16) (rows_in t) tray (shots_in tray))

            pub most : shifted ≤ shots_in tray
            most = omega (arith, counts)

            pub run_book : {filled : List ℕ}
                → filled ≡ filled_by d n (operations_of d n (part_of s 4)) (part_of s 16) (rows_in t) tray out (shots_in tray)
                → ◌≡◌ {A = TrayLeft} (record { number = 0; place = shots_in tray - shifted; shifted = shifted; out = filled }) (tray_book s tray t out)
            unfolding tray_book tray_by_answer
            run_book o =
                let clean : shots_in tray - shifted ≡ clean_among d n (operations_of d n (part_of s 4)) (part_of s 16) (rows_in t) tray (shots_in tray) = omega (arith, counts) in
                rw (book.reads, table, good, g.counted, fitting, tested, g.third, ← g.counted, g.first, clean, c, o)
