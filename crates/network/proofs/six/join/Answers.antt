-- `network::six::join` meets its contract. Assumes nothing.
use Rattle.network.proofs.Pieces.{joined}
use Rattle.network.proofs.six.join.Goals as goal

pub returns : goal.returns
returns c =
    let args = c.args in
    joined args.first.now args.second.now args.third.now args.buf.now c.put.new.buf
    c.put-2.new.buf c.put-3.new.buf
    c.put.ensures c.put-2.ensures c.put-3.ensures
