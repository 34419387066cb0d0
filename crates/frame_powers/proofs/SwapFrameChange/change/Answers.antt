use Rattle.frame_powers.proofs.SwapFrameChange.change.Goals as goal

pub returns : goal.returns
returns g c = c.exchange.ensures _
