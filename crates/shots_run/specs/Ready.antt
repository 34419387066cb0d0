-- What a tray's run is handed, once nothing refuses it.
use Rattle.std.specs.Prelude.{◌≡◌, true, List, [], ℕ, ◌<◌, ◌≤◌, length}
use Rattle.modular.specs.Dimension.{listed}
use Rattle.circuit.specs.Circuit.{Accepted}
use Rattle.validity.specs.Validity.{Valid}
use Rattle.book.specs.Decoded.{operations_of, errors_of}
use Rattle.tray.specs.Tray.{shots_in, shot_body}
use Rattle.blocks.specs.Blocks.{InTray}

pub record Ready (d n : ℕ) (tray t ops choices : List ℕ) : Type 0 where
  pub dimension : listed d ≡ true
  pub qudits : n ≤ 64
  pub circuit : Accepted d n (operations_of d n ops) [] choices
  pub few : length ops < 65536
  pub short : length choices ≤ 4096
  pub lies : InTray tray
  pub errors : (i : ℕ) → i < shots_in tray → Accepted d n (operations_of d n ops) (errors_of (shot_body tray i)) choices
  pub tableau : Valid d n t
