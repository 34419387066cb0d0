use Rattle.frame_powers.proofs.Lane.{alone-changed}
use Rattle.frame_powers.proofs.swap_powers.Goals as goal

pub returns : goal.returns
returns c = λ d. alone-changed c.requires.2 (c.exchange.ensures d)
