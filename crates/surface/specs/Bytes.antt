-- From bytes to bytes: what is claimed. The proof is in proofs/Bytes.antt.
--
-- Calls come on any benches in any order, feeds among them, in which a bench has a channel of a block of recorded
-- bytes. What a bench receives, its cleaned bytes, records and answers among it, is what its own calls alone would give
-- it; and of a block it is made of the bench's own channel. So no byte of another channel, and nothing that another
-- bench does, is ever heard in it.
use Rattle.std.specs.Prelude.{◌*◌, ◌<◌, ◌∷◌, ◌≡◌}
use Rattle.rules.specs.Common.{ℕ, List, [], length, Float}
use Rattle.frame.specs.Share.{SHARE}
use Rattle.desk.specs.Gate.{BENCHES}
use Rattle.isolation.specs.Run.{On, received}
use Rattle.isolation.specs.Isolation.{all_zeros, own}
use Rattle.feed.specs.Feed.{Block}
use Rattle.feed.specs.Laws.{Carries}
use Rattle.surface.specs.Surface.{Call, feed, surface}

-- two blocks of one format that carry the same samples in the bench's own channel. In all else they may differ: in how
-- many channels they have, in which of them is the bench's, and in every byte of the others
pub record SameChannel (b b' : Block) : Type 0 where
  pub own : List (List ℕ)
  pub format : b.format ≡ b'.format
  pub here : Carries b own
  pub there : Carries b' own

-- two calls that differ, if at all, in other channels; and so one by one
pub data Alike : Call → Call → Type 0 where
  same : (c : Call) → Alike c c
  fed : {b b' : Block} → SameChannel b b' → (m : List ℕ) (c e a : ℕ) → Alike (feed b m c e a) (feed b' m c e a)

abbrev pub AllAlike : List Call → List Call → Type 0
AllAlike [] [] = Unit
AllAlike (c ∷ cs) (c' ∷ cs') = Alike c c' × AllAlike cs cs'
AllAlike [] (c' ∷ cs') = ⊥
AllAlike (c ∷ cs) [] = ⊥

-- the law, for n benches: two runs whose calls on a bench are alike give it the same, whatever else differs: the bytes
-- of other channels, the other benches' calls, the store
abbrev pub BytesToBytes : ℕ → Type 0
BytesToBytes n =
    (s : ℕ) → s < n
    → (store store' : List Float) → length store ≡ n * SHARE → length store' ≡ n * SHARE
    → (calls calls' : List (On Call)) → AllAlike (own s calls) (own s calls')
    → received surface n s (all_zeros store) calls ≡ received surface n s (all_zeros store') calls'

-- as the box has it
abbrev pub OurBytes : Type 0
OurBytes = BytesToBytes BENCHES
