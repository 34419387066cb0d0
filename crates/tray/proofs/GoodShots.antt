-- Where no shot has a bad error entry.
-- Assumes nothing.
use Rattle.std.proofs.Common.{Option, Some, None}
use mathlib.Core.Path.{◌≡◌, refl}
use mathlib.Core.Bool.{true}
use mathlib.Core.List.{List}
use Prim.Native.Nat.{ℕ, ◌<◌}
use Rattle.search.proofs.Search.{all-good}
use Rattle.book_body.specs.Body.{bad_error}
use Rattle.tray.specs.Tray.{shots_in, shot_body, is_nowhere, good_shot, bad_shot}

nowhere : (p : Option ℕ) → is_nowhere p ≡ true → p ≡ None
nowhere (Some k) e = cc
nowhere None e = refl

pub shot-good : (d n count : ℕ) (tray : List ℕ) → bad_shot d n count tray ≡ None → (i : ℕ) → i < shots_in tray
    → bad_error d n count (shot_body tray i) ≡ None
unfolding bad_shot
shot-good d n count tray e i l = nowhere _ (all-good (good_shot d n count tray) (shots_in tray) e i l)
