-- What the tests of book, tray and tableau leave is what the shots' run is handed.
-- Assumes nothing.
use Rattle.std.proofs.Common.{None}
use mathlib.Core.Path.{◌≡◌, sym}
use mathlib.Core.Bool.{true}
use mathlib.Core.List.{List}
use Prim.Native.Nat.{ℕ, ◌*◌, ◌%◌, ◌<◌, ◌≤◌}
use native.Mathlib.Omega.{arith}
use lib.Dec.{eqb}
use lib.ListN.{length}
use borrow.Author.Tests.{leb-true}
use Rattle.search.proofs.Search.{both}
use Rattle.circuit.specs.Circuit.{Accepted}
use Rattle.validity.specs.Validity.{Valid}
use Rattle.book_body.specs.Body.{length_fits, accepted}
use Rattle.book_body.proofs.Sound.{no_refusal}
use Rattle.book.specs.Book.{length_of, part_of, read_book}
use Rattle.book.specs.Decoded.{operations_of, errors_of}
use Rattle.book.proofs.Contents.{all-passed, ContentsLaid, laid, part_length}
use Rattle.book.proofs.GoodErrors.{errors-in-order, places}
use Rattle.book.proofs.Meaning.{accepted-means}
use Rattle.book.proofs.Handed.{Handed}
use Rattle.runs.proofs.Results.{measured-chosen}
use Rattle.run_laws.proofs.Books.{without_errors}
use Rattle.tray.specs.Tray.{shots_in, shot_body, bad_shot, table_fits}
use Rattle.tray.proofs.Table.{table_says, table-inside, body-inside}
use Rattle.tray.proofs.GoodShots.{shot-good}
use Rattle.shots_run.specs.Ready.{Ready}

short : (length size most : ℕ) → length_fits length size most ≡ true → length ≤ size * most
short length size most e = leb-true _ _ (both (eqb (length % size) 0) _ e).1

module _ (s : List ℕ) {d n measurements : ℕ} (g : Handed s d n measurements) where
  lies : ContentsLaid s
  lies = laid s (all-passed s (no_refusal d n g.operations g.errors g.choices) g.reads).contents

  -- each measurement takes a choice
  pub few-measured : measurements ≤ 4096
  few-measured =
      let list = operations_of d n (part_of s 4) in
      omega (arith, g.counted-part, measured-chosen list (length list), g.lists.one_each, g.few)

  module _ {operations errors choices : ℕ} (reads : read_book s ≡ accepted d n operations errors choices) (tray : List ℕ) (table : table_fits tray ≡ true) (good : bad_shot d n operations tray ≡ None) where
    shot-accepted : (i : ℕ) → i < shots_in tray → Accepted d n (operations_of d n (part_of s 4)) (errors_of (shot_body tray i)) (part_of s 16)
    shot-accepted i l =
        let m = accepted-means s d n operations errors choices reads in
        let count : operations ≡ length (operations_of d n (part_of s 4)) = sym (rw g.first at m.operation_count) in
        let one = shot-good d n operations tray good i l in
        record {
          operations = g.lists.operations;
          names = g.lists.names;
          errors-in-order = errors-in-order d n operations (shot_body tray i) one;
          places = λ j h. rw (← count) (places d n operations (shot_body tray i) one j h);
          one_each = g.lists.one_each;
          below = g.lists.below;
        }

    pub ready : (t : List ℕ) → Valid d n t → Ready d n tray t (part_of s 4) (part_of s 16)
    ready t ok =
        let h = table_says tray table in
        record {
          dimension = g.dimension;
          qudits = g.qudits;
          circuit = without_errors g.lists;
          few = omega (arith, part_length s 4 g.bodies.first, short (length_of s 4) 4 4096 lies.first.whole);
          short = g.few;
          lies = record { shots = h.few; table = table-inside tray h; inside = body-inside tray h };
          errors = shot-accepted;
          tableau = ok;
        }
