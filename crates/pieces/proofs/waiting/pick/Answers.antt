-- `pieces::waiting::pick` meets its contract. Assumes nothing.
use borrow.Author.Rules.{rules}
use Rattle.pieces.proofs.Padding.{in_front, in_rest, past}
use Rattle.pieces.proofs.waiting.pick.Goals as goal

pub returns-then-i-front : goal.returns-then-i-front
returns-then-i-front c = search (rules, in_front)

pub returns-then-behind-rest : goal.returns-then-behind-rest
returns-then-behind-rest c = search (rules, in_rest)

pub returns : goal.returns
returns c = search (rules, past)
