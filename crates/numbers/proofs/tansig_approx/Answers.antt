-- `numbers::tansig_approx` meets its contract. Assumes nothing.
use Rattle.std.proofs.Common.{◌≡◌, arith}
use Rattle.numbers.specs.Private.{inside_of, place_in}
use Rattle.numbers.specs.Activations.{place}
use Rattle.rules.proofs.Common.{Float, binary32, of_int, pos}
use Rattle.numbers.proofs.Floors.{ends, listed, castable, not_below, number_is}
use Rattle.numbers.proofs.tansig_approx.Goals as goal

-- the place, as a float, of what the tests leave of x
found : (x y i : Float) → y ≡ inside_of x → i ≡ of_int binary32 (pos (place y)) → i ≡ place_in x
found x y i h p = rw h at p

pub float_to_int-i : goal.float_to_int-i
float_to_int-i c = castable _ _ (listed _) (found c.args.x _ _ c.inside.ensures.0 c.place_of-i.ensures)

pub overflow_cast-i : goal.overflow_cast-i
overflow_cast-i c =
    let below = listed c.args.x in (
      not_below _ _ below (found c.args.x _ _ c.inside.ensures.0 c.place_of-i.ensures),
      rw (number_is _ _ below (found c.args.x _ _ c.inside.ensures.0 c.place_of-i.ensures)) (omega (arith, below)),
    )

pub entry-requires : goal.entry-requires
entry-requires c =
    let below = listed c.args.x in
    rw (number_is _ _ below (found c.args.x _ _ c.inside.ensures.0 c.place_of-i.ensures)) (omega (arith, below))

pub returns : goal.returns
returns c =
    let x = c.args.x in
    rw (
      c.follow.ensures,
      c.entry.ensures,
      number_is _ _ (listed x)
          (found c.args.x _ _ c.inside.ensures.0 c.place_of-i.ensures),
    ) (ends _ x)
