-- `network::layers::activate` meets its contract. Assumes nothing.
use Rattle.rules.proofs.Common.{List, refl, ap, Float}
use Rattle.numbers.specs.Larger.{rectified}
use Rattle.numbers.specs.Activations.{tansig_in, sigmoid_in}
use Rattle.model.specs.declared.Activation.TheVariants.{Tanh, Sigmoid, Relu}
use Rattle.network.proofs.Listed.{activated_by}
use Rattle.network.proofs.layers.activate.Goals as goal

pub returns-in-Tanh : goal.returns-in-Tanh
returns-in-Tanh c =
    activated_by Tanh (tansig_in c.args.table.now.entries) c.args.sums.now c.in-Tanh.is
    (λ x. ap (λ (t : List Float). tansig_in t x) c.args.table.now.filled) c.scale.ensures c.tansigs.ensures

pub returns-in-Sigmoid : goal.returns-in-Sigmoid
returns-in-Sigmoid c =
    activated_by Sigmoid (sigmoid_in c.args.table.now.entries) c.args.sums.now c.in-Sigmoid.is
    (λ x. ap (λ (t : List Float). sigmoid_in t x) c.args.table.now.filled) c.scale.ensures c.sigmoids.ensures

pub returns-in-Relu : goal.returns-in-Relu
returns-in-Relu c =
    activated_by Relu (rectified) c.args.sums.now c.in-Relu.is (λ x. refl)
    c.scale.ensures c.relus.ensures
