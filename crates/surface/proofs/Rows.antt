-- What stands in a row.
--     packed-both, entries-both     samples, and answers, in a row: their bytes, and their entries
--     samples-both                  bytes in a row: their samples
--     frame-after, waiting-after    the frame number behind a dictation, and how many samples wait
--     told-each                     something is told of each frame
-- Assumes nothing.
use Rattle.std.specs.Prelude.{◌+◌, ◌-◌, ◌*◌, ◌/◌, ◌%◌, ◌≤◌, ◌<◌, ◌∷◌, ◌++◌, ◌≡◌}
use Rattle.rules.proofs.Common.{ℕ, zero, suc, Bool, true, false, cond, List, []}
use Rattle.rules.proofs.Common.{refl, sym, ap}
use Rattle.rules.proofs.Common.{ap₂, ◌∙◌, ltb, length, drop, length-drop, length-append, Float, nan}
use native.Mathlib.Nat.{add-zero, add-suc, add_assoc, add-mul, mul_assoc, mul-pos, mul-mod_left, mul-div_cancel}
use native.Mathlib.Omega.{arith}
use mathlib.Core.List.{append_assoc, append-nil}
use borrow.Author.Tests.{ltb-true, ltb-false}
use lib.ListN.{get_or-append}
use lib.Seq.{get_or-append-add}
use lib.Ieee.{eq}
use Rattle.rules.specs.F32.{f32, at, nat_at}
use Rattle.rules.specs.Tab.{tab}
use Rattle.rules.proofs.Lists.{length_tab, tab_same}
use Rattle.frame.specs.Reply.{one_more}
use Rattle.desk.specs.declared.Record.{Record}
use Rattle.dictation.specs.Dictation.{Lent, dictate}
use Rattle.dictation.proofs.Joins.{rec_after, share_after}
use Rattle.pcm.specs.Pcm.{width, number_at, sample_place, unpacked, byte_of, nearest16, packed, UnpackFits}
use Rattle.pcm.proofs.Channels.{same_number, same_channel}
use Rattle.pcm.proofs.Patterns.{room}
use Rattle.feed.specs.Feed.{Block, block_of, samples_in, block_size, samples_of, frame_entry, frame_entries}
use Rattle.feed.proofs.Blocks.{block_fits, whole}

tab_both : {A : Type 0} (m k : ℕ) (f : ℕ → A) → tab (m + k) f ≡ tab m f ++ tab k (λ j. f (m + j))
unfolding tab
tab_both m zero f = rw add-zero (sym (append-nil (tab m f)))
tab_both m (suc k) f = rw (add-suc, tab_both m k f) (append_assoc (tab m f) (tab k (λ j. f (m + j))) (f (m + k) ∷ []))

-- ---- samples in a row, as bytes

pub packed_both : (xs ys : List Float) → packed (xs ++ ys) ≡ packed xs ++ packed ys
unfolding packed
packed_both xs ys =
    ap (λ (n : ℕ). tab n byte) (omega (arith, length-append xs ys))
    ∙ tab_both (2 * length xs) (2 * length ys) byte
    ∙ ap₂ (λ (u v : List ℕ). u ++ v)
    (tab_same (2 * length xs)
    _ _ (λ k h. ap (λ (x : Float). byte_of (nearest16 x) (k % 2)) (get_or-append xs ys nan (k / 2) (omega arith))))
    (tab_same (2 * length ys) _ _ (λ k h. behind k))
  where
    byte : ℕ → ℕ
    byte k = byte_of (nearest16 (at (xs ++ ys) (k / 2))) (k % 2)

    behind : (k : ℕ) → byte (2 * length xs + k) ≡ byte_of (nearest16 (at ys (k / 2))) (k % 2)
    behind k =
        let half : (2 * length xs + k) / 2 ≡ length xs + k / 2 = omega arith in
        let odd : (2 * length xs + k) % 2 ≡ k % 2 = omega arith in
        ap₂ (λ (x : Float) (j : ℕ). byte_of (nearest16 x) j)
        (ap (at (xs ++ ys)) half ∙ get_or-append-add xs ys (k / 2) nan) odd

-- ---- answers in a row, as entries

pub entries_both : (frame next p q : ℕ) (xs ys : List Float) → length xs ≡ 3 * p → length ys ≡ 3 * q
    → ((j : ℕ) → (frame + (p + j)) % 4294967296 ≡ (next + j) % 4294967296)
    → frame_entries frame (xs ++ ys) ≡ frame_entries frame xs ++ frame_entries next ys
entries_both frame next p q xs ys l k number =
    ap (λ (n : ℕ). tab n entry) (omega (arith, length-append xs ys, l, k))
    ∙ tab_both p q entry
    ∙ ap₂ (λ (u v : List ℕ). u ++ v)
    (tab_same p _ _ (λ j h. ap (frame_entry frame j) (get_or-append xs ys nan (3 * j) (omega (arith, l, h))))
    ∙ ap (λ (n : ℕ). tab n (λ j. frame_entry frame j (at xs (3 * j)))) (omega (arith, l)))
    (tab_same q _ _ (λ j h. behind j)
    ∙ ap (λ (n : ℕ). tab n (λ j. frame_entry next j (at ys (3 * j)))) (omega (arith, k)))
  where
    entry : ℕ → ℕ
    entry j = frame_entry frame j (at (xs ++ ys) (3 * j))

    behind : (j : ℕ) → entry (p + j) ≡ frame_entry next j (at ys (3 * j))
    behind j =
        let place : 3 * (p + j) ≡ length xs + 3 * j = omega (arith, l) in
        ap₂ (λ (n : ℕ) (x : Float). n + cond (eq x (f32 0)) 0 4294967296) (number j)
        (ap (at (xs ++ ys)) place ∙ get_or-append-add xs ys (3 * j) nan)

-- ---- bytes in a row, as samples

pub size_is : (b : Block) → length (samples_of b) ≡ block_size b
unfolding unpacked
size_is b = length_tab (block_size b) _

module _ (xs ys : List ℕ) where
  shifted : (format a : ℕ) → 0 < width format → number_at format (xs ++ ys) (length xs + a) ≡ number_at format ys a
  shifted format a k =
      same_number (xs ++ ys) ys (length xs + a) a format k
      (λ j h. ap (nat_at (xs ++ ys)) (add_assoc (length xs) a j) ∙ get_or-append-add xs ys (a + j) 0)

  module _ (format channels channel n m : ℕ) (f : UnpackFits n (length xs) format channels channel)
      (g : UnpackFits m (length ys) format channels channel) where
    place : (i : ℕ) → sample_place format channels channel (n + i) ≡ length xs + sample_place format channels channel i
    place i =
        let w = width format in
        let rows : (n + i) * channels + channel ≡ n * channels + (i * channels + channel) =
        ap (λ (k : ℕ). k + channel) (add-mul n i channels) ∙ add_assoc (n * channels) (i * channels) channel in
        ap (λ (k : ℕ). k * w) rows ∙ add-mul (n * channels) (i * channels + channel) w
        ∙ ap (λ (k : ℕ). k + (i * channels + channel) * w) (mul_assoc n channels w ∙ sym f.size)

    unpacked_both : unpacked (n + m) (xs ++ ys) format channels channel
        ≡ unpacked n xs format channels channel ++ unpacked m ys format channels channel
    unfolding unpacked
    unpacked_both =
        tab_both n m (λ i. number_at format (xs ++ ys) (sample_place format channels channel i))
        ∙ ap₂ (λ (u v : List Float). u ++ v)
        (same_channel n format channels channel (xs ++ ys) xs f.known
        (λ i h j k. get_or-append xs ys 0
        _ (omega (arith, (room n (length xs) format channels channel (width format) f refl i h).2, k))))
        (tab_same m _ _ (λ i h. ap (number_at format (xs ++ ys)) (place i)
        ∙ shifted format (sample_place format channels channel i) f.known))

    sizes_both : samples_in (length (xs ++ ys)) format channels channel ≡ n + m
    sizes_both =
        let row = channels * width format in
        let some : 0 < row = mul-pos (omega (arith, f.among)) f.known in
        let all : length (xs ++ ys) ≡ (n + m) * row =
        length-append xs ys ∙ ap₂ (λ (u v : ℕ). u + v) f.size g.size ∙ sym (add-mul n m row) in
        sym (whole (length (xs ++ ys)) format channels channel (width format) refl f.known f.many f.among
        (ap (λ (k : ℕ). k % row) all ∙ mul-mod_left (n + m) row))
        ∙ ap (λ (k : ℕ). k / row) all ∙ mul-div_cancel (n + m) some

pub samples_both : (xs ys : List ℕ) (format channels channel : ℕ) → let one = block_of xs format channels channel in
    let other = block_of ys format channels channel in
    0 < block_size one → 0 < block_size other
    → samples_of (block_of (xs ++ ys) format channels channel) ≡ samples_of one ++ samples_of other
samples_both xs ys format channels channel p q =
    let f = block_fits (length xs) format channels channel p in
    let g = block_fits (length ys) format channels channel q in
    ap (λ (k : ℕ). unpacked k (xs ++ ys) format channels channel) (sizes_both xs ys format channels channel _ _ f g)
    ∙ unpacked_both xs ys format channels channel _ _ f g

-- ---- behind a dictation

one_more_lem : (n : ℕ) → n < 4294967296 → one_more n ≡ (n + 1) % 4294967296
one_more_lem n h = go (ltb n 4294967295) refl
  where
    go : (t : Bool) → ltb n 4294967295 ≡ t → cond t (n + 1) 0 ≡ (n + 1) % 4294967296
    go true e = omega (arith, ltb-true n 4294967295 e)
    go false e = omega (arith, ltb-false n 4294967295 e, h)

pub frame_after : (ls : List Lent) (rec : Record) (share xs : List Float) → rec.frame < 4294967296
    → (dictate rec share xs ls).rec.frame ≡ (rec.frame + length ls) % 4294967296
unfolding dictate
frame_after [] rec share xs h = omega arith
frame_after (l ∷ ls) rec share xs h =
    let here : (rec_after rec share xs l).frame ≡ (rec.frame + 1) % 4294967296 = one_more_lem rec.frame h in
    omega (
      arith,
      here,
      frame_after ls (rec_after rec share xs l) (share_after rec share xs l) (drop 480 xs) (omega (arith, here)),
    )

pub waiting_after : (ls : List Lent) (rec : Record) (share xs : List Float) → 480 * length ls ≤ length xs
    → (dictate rec share xs ls).rec.waiting ≡ length xs - 480 * length ls
unfolding dictate
waiting_after [] rec share xs h = omega arith
waiting_after (l ∷ ls) rec share xs h =
    let rest = length-drop 480 xs in
    waiting_after ls (rec_after rec share xs l) (share_after rec share xs l) (drop 480 xs) (omega arith) ∙ omega arith

pub told_each : (ls : List Lent) (rec : Record) (share xs : List Float)
    → length (dictate rec share xs ls).told ≡ length ls
unfolding dictate
told_each [] rec share xs = refl
told_each (l ∷ ls) rec share xs =
    ap suc (told_each ls (rec_after rec share xs l) (share_after rec share xs l) (drop 480 xs))
