-- `network::six::gru` meets its contract. Assumes nothing.
use native.Mathlib.Omega.{arith}
use mathlib.Core.Path.{refl}
use Rattle.network.proofs.Parts.{cut_length, found, ends_within, gru_arrays, gru_at_lem}
use Rattle.network.proofs.six.gru.Goals as goal

pub overflow_add-w_end : goal.overflow_add-w_end
overflow_add-w_end c =
    let fit = c.requires.1 in
    omega (arith, ends_within fit.within (found 0 fit.within c.place_in-weights.ensures))

pub overflow_add-r_end : goal.overflow_add-r_end
overflow_add-r_end c =
    let fit = c.requires.1 in
    omega (arith, ends_within fit.within (found 1 fit.within c.place_in-recurrent.ensures))

pub overflow_add-b_end : goal.overflow_add-b_end
overflow_add-b_end c =
    let fit = c.requires.1 in
    omega (arith, ends_within fit.within (found 2 fit.within c.place_in-bias.ensures))

pub slice_bounds-layer-end : goal.slice_bounds-layer-end
slice_bounds-layer-end c =
    let fit = c.requires.1 in
    ends_within fit.within (found 0 fit.within c.place_in-weights.ensures)

pub slice_bounds-layer-end-2 : goal.slice_bounds-layer-end-2
slice_bounds-layer-end-2 c =
    let fit = c.requires.1 in
    ends_within fit.within (found 1 fit.within c.place_in-recurrent.ensures)

pub slice_bounds-layer-end-3 : goal.slice_bounds-layer-end-3
slice_bounds-layer-end-3 c =
    let fit = c.requires.1 in
    ends_within fit.within (found 2 fit.within c.place_in-bias.ensures)

pub gru_alone-requires : goal.gru_alone-requires
gru_alone-requires c =
    let fit = c.requires.1 in
    let long = cut_length c.args.states.now c.args.at _ c.args.h.neurons refl
    c.requires.0 in (
      omega (arith, long, fit.within.neurons),
      gru_arrays c.args.bytes.now c.args.h (found 0 fit.within c.place_in-weights.ensures)
          (found 1 fit.within c.place_in-recurrent.ensures) (found 2 fit.within c.place_in-bias.ensures)
          (record { within = fit.within; neurons = long; inputs = fit.inputs }),
    )

pub returns : goal.returns
returns c =
    let fit = c.requires.1 in
    gru_at_lem c.args.bytes.now c.args.h (found 0 fit.within c.place_in-weights.ensures)
    (found 1 fit.within c.place_in-recurrent.ensures)
    (found 2 fit.within c.place_in-bias.ensures) _ c.args.states.now c.args.at
    c.gru_alone.ensures
