-- Dictation over one share, as the code has it.
--     spoke                            a frame: both halves, with our logarithms between them
--     first_fits, second_fits          neither half is refused
--     gathered, gathered_good          its samples, of those that wait and of a piece's
--     So, begun, goes_on, come_to_end  after j frames: at the start, a frame later, and where no frame is left
-- Assumes nothing.
use Rattle.std.specs.Prelude.{◌+◌, ◌-◌, ◌*◌, ◌≤◌, ◌∷◌, ◌++◌, ◌≡◌}
use Rattle.rules.proofs.Common.{ℕ, suc, true, List, [], refl, sym, ap, ap₂, ◌∙◌}
use Rattle.rules.proofs.Common.{length, get_or}
use Rattle.rules.proofs.Common.{take, drop, replicate, length-take, length-drop, length-append, Float}
use native.Mathlib.Nat.{sub-zero}
use native.Mathlib.Omega.{arith}
use mathlib.Core.List.{append_assoc, append-nil}
use mathlib.Core.Logic.{inl}
use lib.Seq.{drop-drop}
use Rattle.rules.specs.Place.{Place, get, put}
use Rattle.rules.proofs.Places.{get_put_apart}
use Rattle.frame.specs.Written.{Written, from, over, onto, first_in}
use Rattle.frame.proofs.Buffers.{over_none, over_next, lent_over}
use Rattle.samples.specs.Samples.{good}
use Rattle.logs.specs.Log10.{logs_of}
use Rattle.frame.specs.Effect.{Worked}
use Rattle.frame.specs.Reply.{Reply, passed}
use Rattle.frame.specs.Reply.{Done}
use Rattle.frame.specs.Share.{SHARE}
use Rattle.halves.specs.Halves.{first_half, second_half}
use Rattle.pieces.specs.Pieces.{frame_part, waiting_place, waiting_in, padded_to, waits, completes}
use Rattle.pieces.proofs.Goods.{good_take, good_drop}
use Rattle.pieces.proofs.Halved.{Halved, first_length, first_passes, second_length, second_passes}
use Rattle.pieces.proofs.Padding.{padded_full}
use Rattle.pieces.proofs.Shares.{part_length, waiting_length, frame_length, frame_back, frame_frame}
use Rattle.desk.specs.Answer.{Answer}
use Rattle.desk.specs.declared.Record.{Record}
use Rattle.desk.specs.Desk.{holding}
use Rattle.desk.specs.Private.{told_second}
use Rattle.desk.specs.Surface.{heard_of}
use Rattle.desk.proofs.Ranged.{next_index_lem}
use Rattle.dictation.specs.Dictation.{Told, Dictated, sums_of, frame_on, dictate}
use Rattle.dictation.proofs.Joins.{first, its_logs, second, first_part, second_part, after_length, told_there}
use Rattle.dictation.proofs.Joins.{dictate_more, dictate_none}
use Rattle.whole.specs.Whole.{our_lent, answers_of, taken_on}
use Rattle.whole.specs.Private.{Fit, Ready}
use Rattle.whole.proofs.Accepted.{logs_length}
use Rattle.whole.proofs.Dictations.{three_long, answers_both}

-- ---- a frame

module _ (rec : Record) (share samples : List Float) (model : List ℕ) (fit : Fit rec share model)
    (k : length samples ≡ 480) (g : good samples ≡ true) where
  pub spoke : {r₁ reply : Reply} {z sums logs part₁ part₂ out out' : List Float} {a : Answer}
      → Worked (first_half (get frame_part share) rec.hearing.way samples 22) r₁ part₁ (z ∷ []) (sums ∷ [])
      → logs ≡ logs_of sums → length out ≡ 480
      → Worked (second_half (get frame_part (put frame_part share part₁)) rec.hearing logs model (length out)) reply
      part₂ (out ∷ []) (out' ∷ [])
      → a ≡ told_second (holding 3 rec 0 0 0) reply
      → Worked (frame_on rec share samples (our_lent model)) a (put frame_part (put frame_part share part₁) part₂)
      (out ∷ []) (out' ∷ [])
  spoke {z = z} {sums = sums} {out = out} one lent n two e =
      let half = first_half (get frame_part share) rec.hearing.way samples 22 in
      let h = first_passes (get frame_part share) rec.hearing.way samples (part_length share fit.whole) k g in
      let filled : sums ≡ sums_of rec share samples =
      ap (λ (l : List (List Float)). get_or l 0 [])
      (one.writes ∙ ap (λ (l : List Written). onto l (z ∷ [])) h.writes) in
      let logs-are = lent ∙ ap logs_of filled in
      let v = rw (one.keeps, frame_back share fit.whole half.kept h.part, logs-are, n) at two in
      let passes = (second_passes half.kept rec.hearing (logs_of (sums_of rec share samples)) model h.part
      (logs_length _) fit.index fit.right).passes in
      record {
        answers = e ∙ ap (told_second (holding 3 rec 0 0 0)) v.answers ∙ rw passes;
        keeps =
            ap₂ (λ (x y : List Float). put frame_part (put frame_part share x) y) one.keeps v.keeps
            ∙ frame_frame share fit.whole half.kept h.part _;
        writes = v.writes;
      }

  -- so neither half is refused
  pub first_fits : {reply : Reply} → reply ≡ (first_half (get frame_part share) rec.hearing.way samples 22).answer
      → passed reply ≡ true
  first_fits e =
      let h = first_passes (get frame_part share) rec.hearing.way samples (part_length share fit.whole) k g in
      ap passed e ∙ h.passes

  pub second_fits : (logs : List Float) {r₁ reply : Reply} {z sums part₁ part₂ out out' : List Float}
      → Worked (first_half (get frame_part share) rec.hearing.way samples 22) r₁ part₁ (z ∷ []) (sums ∷ [])
      → length logs ≡ 22 → length out ≡ 480
      → Worked (second_half (get frame_part (put frame_part share part₁)) rec.hearing logs model (length out)) reply
      part₂ (out ∷ []) (out' ∷ [])
      → passed reply ≡ true
  second_fits logs one long n two =
      let half = first_half (get frame_part share) rec.hearing.way samples 22 in
      let h = first_passes (get frame_part share) rec.hearing.way samples (part_length share fit.whole) k g in
      let v = rw (one.keeps, frame_back share fit.whole half.kept h.part, n) at two in
      ap passed v.answers ∙ (second_passes half.kept rec.hearing logs model h.part long fit.index fit.right).passes

  pub spoke_length : (logs : List Float) {r₁ reply : Reply} {z sums part₁ part₂ out out' : List Float}
      → Worked (first_half (get frame_part share) rec.hearing.way samples 22) r₁ part₁ (z ∷ []) (sums ∷ [])
      → Worked (second_half (get frame_part (put frame_part share part₁)) rec.hearing logs model (length out)) reply
      part₂ (out ∷ []) (out' ∷ [])
      → length (put frame_part (put frame_part share part₁) part₂) ≡ length share
  spoke_length logs {part₁ = part₁} {part₂ = part₂} {out = out} one two =
      let first = ap length one.keeps
      ∙ first_length (get frame_part share) rec.hearing.way samples 22 (part_length share fit.whole) in
      let there = frame_length share fit.whole part₁ first in
      let last = ap length two.keeps
      ∙ second_length (get frame_part (put frame_part share part₁)) rec.hearing logs model (length out)
      (part_length (put frame_part share part₁) there) in
      frame_length (put frame_part share part₁) there part₂ last ∙ sym fit.whole

module _ (xs : List Float) (j : ℕ) (enough : 480 * j + 480 ≤ length xs) {x : List Float}
    (e : x ≡ padded_to 480 (drop (480 * j) xs)) where
  pub gathered : x ≡ take 480 (drop (480 * j) xs)
  gathered = e ∙ padded_full 480 (drop (480 * j) xs) (omega (arith, length-drop (480 * j) xs))

  pub gathered_length : length x ≡ 480
  gathered_length = ap length gathered ∙ omega (arith, length-take 480 (drop (480 * j) xs), length-drop (480 * j) xs)

  pub gathered_good : good xs ≡ true → good x ≡ true
  gathered_good g = ap good gathered ∙ good_take 480 (drop (480 * j) xs) (good_drop (480 * j) xs g)

-- as many as a frame needs
pub samples_length : (j : ℕ) {w : ℕ} {share piece : List Float} {out answers : ℕ} → length share ≡ SHARE
    → Ready w share piece (j + 1) out answers
    → 480 * j + 480 ≤ length (waiting_in w share ++ piece)
samples_length j {w} {share} {piece} whole r =
    omega (arith, r.enough, length-append (waiting_in w share) piece, waiting_length share whole w r.few)

-- 480 places of a buffer as the code lends them
abbrev pub lent_from : ℕ → Place
lent_from j = record { at = 480 * j; size = 480 * j + 480 - 480 * j }

module _ (rec : Record) (share : List Float) (model : List ℕ) (out : List Float) (j : ℕ)
    (fit : Fit rec share model) where
  second_is : (x : List Float) → Halved 480 (second rec share x (our_lent model))
  second_is x =
      second_passes (first rec share x (our_lent model)).kept rec.hearing (its_logs rec share x (our_lent model)) model
      (first_part rec share x (our_lent model) fit.whole) (logs_length _) fit.index fit.right

  pub stepped : (xs answers : List Float) {x share' new answers' : List Float} {a : Answer}
      → x ≡ take 480 (drop (480 * j) xs)
      → Worked (frame_on rec share x (our_lent model)) a share' (get (lent_from j) out ∷ []) (new ∷ [])
      → answers' ≡ over (from (3 * j) (heard_of a.reply)) answers
      → let o = frame_on rec share (take 480 (drop (480 * j) xs)) (our_lent model) in
      (a.rec ≡ o.answer.rec) × ((share' ≡ o.kept)
      × ((put (lent_from j) out new ≡ over (from (480 * j) (first_in o.written)) out)
      × (answers' ≡ over (from (3 * j) (heard_of o.answer.reply)) answers)))
  stepped xs answers e w told =
      let v = rw e at w in
      let h = second_is (drop (480 * j) xs) in
      let New-is = ap (λ (l : List (List Float)). get_or l 0 [])
      (v.writes ∙ ap (λ (l : List Written). onto l (get (lent_from j) out ∷ [])) h.writes) in (
        ap (λ (b : Answer). b.rec) v.answers,
        (
          v.keeps,
          (
            lent_over (480 * j) 480 out _ _ New-is h.fills,
            told ∙ ap (λ (b : Answer). over (from (3 * j) (heard_of b.reply)) answers) v.answers,
          ),
        ),
      )

-- ---- frame by frame

-- a dictation after these frames
abbrev ahead : List Told → List Float → Dictated → Dictated
ahead told ys d = record { rec = d.rec; kept = d.kept; told = told ++ d.told; out = ys ++ d.out }

-- what is written after the front of a buffer
further_on : (m : ℕ) (xs ys held : List Float) → length xs ≡ m
    → over (from m ys) (over (from 0 xs) held) ≡ over (from 0 (xs ++ ys)) held
further_on m xs ys held e =
    let here : m ≡ 0 + m = omega arith in
    ap (λ (i : ℕ). over (from i ys) (over (from 0 xs) held)) here ∙ over_next 0 m xs ys held e (omega arith)

module _ (rec : Record) (share piece : List Float) (model : List ℕ) (k : ℕ) (out answers : List Float) where
  abbrev w : ℕ
  w = rec.waiting

  abbrev xs : List Float
  xs = waiting_in rec.waiting share ++ piece

  pub record So (j : ℕ) (b : Record) (now out' answers' : List Float) : Type 0 where
    pub told : List Told
    pub ys : List Float
    pub same : dictate rec share xs (replicate k (our_lent model))
        ≡ ahead told ys (dictate b now (drop (480 * j) xs) (replicate (k - j) (our_lent model)))
    pub size : length ys ≡ 480 * j
    pub many : length (answers_of told) ≡ 3 * j
    pub outs : out' ≡ over (from 0 ys) out
    pub tells : answers' ≡ over (from 0 (answers_of told)) answers
    pub fit : Fit b now model
    pub waits : waiting_in rec.waiting now ≡ waiting_in rec.waiting share

  pub begun : Fit rec share model → So 0 rec share out answers
  begun f =
      record {
        told = [];
        ys = [];
        same = rw (sub-zero k);
        size = refl;
        many = refl;
        outs = sym (over_none 0 out);
        tells = sym (over_none 0 answers);
        fit = f;
        waits = refl;
      }

  pub goes_on : (j : ℕ) {b b' : Record} {now now' out₁ out₂ answers₁ answers₂ : List Float} → So j b now out₁ answers₁
      → suc j ≤ k → rec.waiting ≤ 479
      → let o = frame_on b now (take 480 (drop (480 * j) (waiting_in rec.waiting now ++ piece))) (our_lent model) in
      b' ≡ o.answer.rec → now' ≡ o.kept → out₂ ≡ over (from (480 * j) (first_in o.written)) out₁
      → answers₂ ≡ over (from (3 * j) (heard_of o.answer.reply)) answers₁ → So (j + 1) b' now' out₂ answers₂
  goes_on j {b} {b'} {now} {now'} {out₁} {out₂} {answers₁} {answers₂} p h few eb en eo ea =
      let l = our_lent model in
      let rest = drop (480 * j) xs in
      let o = frame_on b now (take 480 rest) l in
      let there = told_there b now rest l in
      let zs = first_in o.written in
      let part = second_part b now rest l p.fit.whole in
      let halved = second_is b now model out j p.fit rest in
      let count : k - j ≡ suc (k - (j + 1)) = omega arith in
      let sum : 480 * j + 480 ≡ 480 * (j + 1) = omega arith in
      let next : drop 480 rest ≡ drop (480 * (j + 1)) xs = drop-drop 480 (480 * j) xs ∙ ap (λ (m : ℕ). drop m xs) sum in
      let d = dictate o.answer.rec o.kept (drop (480 * (j + 1)) xs) (replicate (k - (j + 1)) l) in
      let after : dictate b now rest (replicate (k - j) l) ≡ ahead (there ∷ []) zs d =
      ap (λ (m : ℕ). dictate b now rest (replicate m l)) count
      ∙ dictate_more b now rest l (replicate (k - (j + 1)) l)
      ∙ ap (λ (us : List Float).
      ahead (there ∷ []) zs (dictate o.answer.rec o.kept us (replicate (k - (j + 1)) l))) next in
      let three = heard_of o.answer.reply in
      let heard : answers_of (p.told ++ (there ∷ [])) ≡ answers_of p.told ++ three =
      answers_both p.told (there ∷ []) ∙ ap (λ (us : List Float). answers_of p.told ++ us) (append-nil three) in
      rw (eb, en, eo, ea, p.waits)
      (record {
        told = p.told ++ (there ∷ []);
        ys = p.ys ++ zs;
        same =
            p.same ∙ ap (ahead p.told p.ys) after
            ∙ ap₂ (λ (us : List Told) (vs : List Float). record { rec = d.rec; kept = d.kept; told = us; out = vs })
            (sym (append_assoc p.told (there ∷ []) d.told)) (sym (append_assoc p.ys zs d.out));
        size = omega (arith, length-append p.ys zs, p.size, halved.fills);
        many =
            omega (
              arith,
              ap length heard,
              length-append (answers_of p.told) three,
              three_long o.answer.reply,
              p.many,
            );
        outs = ap (over (from (480 * j) zs)) p.outs ∙ further_on (480 * j) p.ys zs out p.size;
        tells =
            ap (over (from (3 * j) three)) p.tells ∙ further_on (3 * j) (answers_of p.told) three answers p.many
            ∙ ap (λ (us : List Float). over (from 0 us) answers) (sym heard);
        fit =
            record {
              whole = after_length b now rest l p.fit.whole;
              index = next_index_lem b.hearing.index o.answer.reply p.fit.index;
              right = p.fit.right;
            };
        waits =
            get_put_apart frame_part (waiting_place w) now (second b now rest l).kept (omega (arith, p.fit.whole)) part
            (inl (omega arith)) ∙ p.waits;
      })

  -- and with this a further frame is ready
  pub ready_on : {j : ℕ} {b : Record} {now out' answers' : List Float} → So j b now out' answers'
      → Ready rec.waiting share piece k (length out) (length answers)
      → suc j ≤ k → length out' ≡ length out → length answers' ≡ length answers
      → Ready rec.waiting now piece (j + 1) (length out') (length answers')
  ready_on p r h lo la =
      record {
        few = r.few;
        short = r.short;
        enough = omega (arith, r.enough);
        room = omega (arith, r.room);
        places = omega (arith, r.places);
        fine = rw p.waits r.fine;
      }

  pub come_to_end : k ≡ completes rec.waiting (length piece) → length share ≡ SHARE → rec.waiting ≤ 479
      → {j : ℕ} {b : Record} {now now' out' answers' : List Float} → So j b now out' answers' → j ≡ k
      → now' ≡ waits now (drop (480 * k) (waiting_in rec.waiting now ++ piece)) → {r : Record}
      → r ≡ holding 1 b (rec.waiting + length piece - 480 * k) 0 0
      → Worked (taken_on rec share piece model) (record { reply = Done; rec = r })
      now' (out ∷ answers ∷ []) (out' ∷ answers' ∷ [])
  come_to_end count whole few {b = b} {now = now} {now' = now'} {out' = out'} {answers' = answers'} at-end same e f =
      let p : So k b now out' answers' = rw same at at-end in
      let end = drop (480 * k) xs in
      let none : k - k ≡ 0 = omega arith in
      let last : dictate rec share xs (replicate k (our_lent model))
      ≡ record { rec = holding 1 b (length end) 0 0; kept = waits now end; told = p.told; out = p.ys } =
      p.same ∙ ap (λ (m : ℕ). ahead p.told p.ys (dictate b now end (replicate m (our_lent model)))) none
      ∙ ap (ahead p.told p.ys) (dictate_none b now end)
      ∙ ap₂ (λ (us : List Told) (vs : List Float).
      record { rec = holding 1 b (length end) 0 0; kept = waits now end; told = us; out = vs })
      (append-nil p.told) (append-nil p.ys) in
      let size : length xs ≡ rec.waiting + length piece =
      length-append (waiting_in rec.waiting share) piece
      ∙ ap (λ (m : ℕ). m + length piece) (waiting_length share whole rec.waiting few) in
      let left : rec.waiting + length piece - 480 * k ≡ length end = omega (arith, length-drop (480 * k) xs, size) in
      let kept : now' ≡ waits now end = rw p.waits at e in
      rw (f, ← count, last, left, kept, p.outs, p.tells) (record { answers = refl; keeps = refl; writes = refl })
