-- `network::layers::gru_alone` meets its contract. Assumes nothing.
use borrow.Author.Rules.{rules}
use Rattle.network.proofs.layers.gru_alone.Goals as goal

pub gru-requires : goal.gru-requires
gru-requires c = record { arrays = c.requires.1; lent = search rules }
