-- The writer and the reader, each the other's inverse. Assumes nothing.
--     written_reads     what is written reads back as the same layers
--     read_writes       what reads is written back byte for byte
--     none_shared       two models that differ never share a file
use Rattle.std.specs.Prelude.{◌*◌, ◌≤◌, ◌∷◌, ◌++◌, ◌≡◌}
use Rattle.rules.proofs.Common.{ℕ, zero, suc, false, not, true≢false, List, [], map, refl}
use Rattle.rules.proofs.Common.{sym, ap, subst, ◌∙◌, eqb, ltb}
use Rattle.rules.proofs.Common.{length, get_or, take, drop, length-drop}
use mathlib.Core.List.{map-append}
use native.Mathlib.Omega.{arith}
use borrow.Author.Tests.{ltb-false, eqb-false, le-ltb, ne_eqb, eq-eqb}
use lib.ListN.{length-map, take-append-drop}
use lib.Seq.{take-append_seam, take_at, drop_at}
use Rattle.rules.specs.Leaf.{◌leaving◌}
use Rattle.rules.specs.Refusals.{◌when◌}
use Rattle.rules.proofs.Refusals.{Clear, clear, none_held}
use Rattle.rules.proofs.Tests.{neither}
use Rattle.model.specs.declared.Kind.{Kind}
use Rattle.model.specs.declared.Kind.TheVariants.{Dense, Gru}
use Rattle.model.specs.Layer.{lengths, Layer}
use Rattle.model.specs.Model.{◌≠◌, kinds, headers_at, model_of, counts_in, match_faults, read_of}
use Rattle.model.specs.Writer.{layers_given, file_of, differ, in_layer, row_faults, counts_given, writer_faults}
use Rattle.model.specs.Writer.{write_model}
use Rattle.model.specs.Laws.{layers_read, shapes_of, arrays_in, ReadsBack, WritesBack, NoneShared, ArraysAreRead}
use Rattle.model.proofs.Rows.{clear_shifted, clear_joined}
use Rattle.model.proofs.Layer.{three}
use Rattle.model.proofs.Inverse.{Sized, number_of, activation_of_lem, number_small, FitAll}
use Rattle.model.proofs.File.{Holds, reads_back, layers_read_lem, same_layers, Written, writes_back}
use Rattle.model.proofs.Shapes.{same}
use Rattle.model.proofs.Arrays.{array_is}
use Rattle.model.proofs.Accepted.{EachClear, accepted}

-- ---- lengths

module _ {A B : Type 0} (f : A → B) where
  take_map : (n : ℕ) (xs : List A) → take n (map f xs) ≡ map f (take n xs)
  take_map zero xs = refl
  take_map (suc n) [] = refl
  take_map (suc n) (x ∷ xs) = ap (◌∷◌ (f x)) (take_map n xs)

  drop_map : (n : ℕ) (xs : List A) → drop n (map f xs) ≡ map f (drop n xs)
  drop_map zero xs = refl
  drop_map (suc n) [] = refl
  drop_map (suc n) (x ∷ xs) = drop_map n xs

-- arrays have these lengths where theirs do not differ from them
sized : (ns : List ℕ) (xs : List (List ℕ)) → differ (map length xs) ns ≡ false → Sized ns xs
sized [] [] e = tt
sized [] (x ∷ xs) e = absurd (true≢false e)
sized (n ∷ ns) [] e = absurd (true≢false e)
sized (n ∷ ns) (x ∷ xs) e = let both = neither _ _ e in (same (length x) n both.0, sized ns xs both.1)

unsized : (ns : List ℕ) (xs : List (List ℕ)) → Sized ns xs → differ (map length xs) ns ≡ false
unsized [] [] h = refl
unsized (n ∷ ns) (x ∷ xs) h = rw (eq-eqb (length x) n h.0) (unsized ns xs h.1)
unsized [] (x ∷ xs) h = elim h [ ]
unsized (n ∷ ns) [] h = elim h [ ]

as_many : (ns : List ℕ) (xs : List (List ℕ)) → Sized ns xs → length xs ≡ length ns
as_many [] [] h = refl
as_many (n ∷ ns) (x ∷ xs) h = ap suc (as_many ns xs h.1)
as_many [] (x ∷ xs) h = elim h [ ]
as_many (n ∷ ns) [] h = elim h [ ]

three_arrays : (k : Kind) (i n : ℕ) (xs : List (List ℕ)) → Sized (lengths k i n) xs → length xs ≡ 3
three_arrays Dense i n xs h = as_many (lengths Dense i n) xs h
three_arrays Gru i n xs h = as_many (lengths Gru i n) xs h

-- ---- layers as they are given, and back

given_fit : (ks : List Kind) (s : List ℕ) (xs : List (List ℕ)) → EachClear ks s (map length xs)
    → FitAll ks (layers_given ks s xs)
given_fit [] s xs c = tt
given_fit (k ∷ ks) s xs c = (
  record {
    inputs = ltb-false 127 (get_or s 0 0) c.0.0;
    neurons = ltb-false 127 (get_or s 1 0) c.0.1.0;
    some = eqb-false (get_or s 1 0) 0 c.0.1.1.1.0;
    arrays =
        sized (lengths k (get_or s 0 0) (get_or s 1 0)) (take 3 xs) (rw (take_map length 3 xs) at c.0.1.1.1.1.0);
  },
  given_fit ks (drop 3 s) (drop 3 xs) (rw (drop_map length 3 xs) at c.1),
)

shapes_back : (ks : List Kind) (s : List ℕ) (xs : List (List ℕ)) (ns : List ℕ) → length s ≡ 3 * length ks
    → EachClear ks s ns → shapes_of (layers_given ks s xs) ≡ s
shapes_back [] [] xs ns e c = refl
shapes_back [] (x ∷ s) xs ns e c = absurd (omega arith)
shapes_back (k ∷ ks) s xs ns e c =
    rw (
      number_of (get_or s 2 0) (ltb-false 2 (get_or s 2 0) c.0.1.1.0),
      shapes_back ks (drop 3 s) (drop 3 xs) (drop 3 ns) (simp length-drop (omega arith)) c.1,
    )
    (sym (three s 0 (omega arith)))

arrays_back : (ks : List Kind) (s : List ℕ) (xs : List (List ℕ)) → length xs ≡ 3 * length ks
    → arrays_in (layers_given ks s xs) ≡ xs
arrays_back [] s [] e = refl
arrays_back [] s (x ∷ xs) e = absurd (omega arith)
arrays_back (k ∷ ks) s xs e =
    rw (arrays_back ks (drop 3 s) (drop 3 xs) (simp length-drop (omega arith))) (take-append-drop 3 xs)

given_back : (ks : List Kind) (ls : List Layer) → FitAll ks ls → layers_given ks (shapes_of ls) (arrays_in ls) ≡ ls
given_back [] [] f = refl
given_back (k ∷ ks) (l ∷ ls) f =
    let long = three_arrays k l.inputs l.neurons l.arrays f.0.arrays in
    rw (
      activation_of_lem l.activation,
      take_at l.arrays (arrays_in ls) 3 long,
      drop_at l.arrays (arrays_in ls) 3 long,
      given_back ks ls f.1,
    )
given_back [] (l ∷ ls) f = elim f [ ]
given_back (k ∷ ks) [] f = elim f [ ]

clear_back : (j : ℕ) (ks : List Kind) (ls : List Layer) → FitAll ks ls
    → Clear (row_faults j ks (shapes_of ls) (map length (arrays_in ls)))
unfolding row_faults
clear_back j [] [] f = tt
clear_back j (k ∷ ks) (l ∷ ls) f =
    let long = length-map l.arrays length ∙ three_arrays k l.inputs l.neurons l.arrays f.0.arrays in
    let fits = unsized (lengths k l.inputs l.neurons) l.arrays f.0.arrays in
    rw (
      map-append length l.arrays (arrays_in ls),
      take_at (map length l.arrays) (map length (arrays_in ls)) 3 long,
      drop_at (map length l.arrays) (map length (arrays_in ls)) 3 long,
    ) (
      le-ltb _ _ f.0.inputs,
      (
        le-ltb _ _ f.0.neurons,
        (le-ltb _ _ (number_small l.activation), (ne_eqb _ _ f.0.some, (fits, clear_back (suc j) ks ls f.1))),
      ),
    )
clear_back j [] (l ∷ ls) f = elim f [ ]
clear_back j (k ∷ ks) [] f = elim f [ ]

length_shapes : (ks : List Kind) (ls : List Layer) → FitAll ks ls → length (shapes_of ls) ≡ 3 * length ks
length_shapes [] [] f = refl
length_shapes (k ∷ ks) (l ∷ ls) f = omega (arith, length_shapes ks ls f.1)
length_shapes [] (l ∷ ls) f = elim f [ ]
length_shapes (k ∷ ks) [] f = elim f [ ]

-- ---- a writing that is done

record Done (s : List ℕ) (xs : List (List ℕ)) (out after : List ℕ) : Type 0 where
  eighteen : length s ≡ 18
  good : EachClear kinds s (map length xs)
  holds : Holds (layers_given kinds s xs) (file_of (layers_given kinds s xs))
  left : after ≡ file_of (layers_given kinds s xs) ++ drop (length (file_of (layers_given kinds s xs))) out

is_done : (s : List ℕ) (xs : List (List ℕ)) (out after : List ℕ) → (0 leaving after) ≡ write_model s xs out
    → Done s xs out after
unfolding write_model writer_faults row_faults counts_given
is_done s xs out after e =
    let file = file_of (layers_given kinds s xs) in
    let ns = map length xs in
    let rows = 5 when (length s ≠ 18) ∷ writer_faults s ns (length file) (length out) in
    let right : ℕ × List ℕ = (0 leaving file ++ drop (length file) out) in
    let c = none_held (λ (p : ℕ × List ℕ). p.0) (λ n. n leaving out) right (λ n. refl) rows tt
    (ap (λ (p : ℕ × List ℕ). p.0) (sym e)) in
    let a = accepted s ns (length file) (length out) c.1 in
    let done : (0 leaving after) ≡ right = e ∙ clear (λ n. n leaving out) right rows c in
    record {
      eighteen = same (length s) 18 c.0;
      good = a.layers;
      holds = record { fit = given_fit kinds s xs a.layers; match = a.together; file = refl };
      left = ap (λ (p : ℕ × List ℕ). p.1) done;
    }

pub written_reads : ReadsBack
written_reads s xs out after e =
    let d = is_done s xs out after e in
    let ls = layers_given kinds s xs in
    let file : take (length (file_of ls)) after ≡ file_of ls =
    rw d.left (take-append_seam (file_of ls) (drop (length (file_of ls)) out)) in
    (ap read_of file ∙ reads_back ls (file_of ls) d.holds, ap layers_read file ∙ layers_read_lem ls d.holds.fit)

pub none_shared : NoneShared
none_shared s s' xs xs' out out' after after' long long' e e' shared =
    let d = is_done s xs out after e in
    let d' = is_done s' xs' out' after' e' in
    let both = same_layers (layers_given kinds s xs) (layers_given kinds s' xs') d.holds.fit
    d'.holds.fit shared in (
      sym (shapes_back kinds s xs (map length xs) d.eighteen d.good) ∙ ap shapes_of both
          ∙ shapes_back kinds s' xs' (map length xs') d'.eighteen d'.good,
      sym (arrays_back kinds s xs long) ∙ ap arrays_in both ∙ arrays_back kinds s' xs' long',
    )

-- layers that fit and go together are written as their file
writes_layers : (ls : List Layer) (out : List ℕ) → FitAll kinds ls
    → Clear (match_faults (counts_in (model_of (headers_at 0 ls))) 0) → length (file_of ls) ≤ length out
    → (0 leaving file_of ls ++ drop (length (file_of ls)) out) ≡ write_model (shapes_of ls) (arrays_in ls) out
unfolding write_model writer_faults counts_given
writes_layers ls out fit match enough =
    let s = shapes_of ls in
    let ns = map length (arrays_in ls) in
    let back = given_back kinds ls fit in
    let file = file_of (layers_given kinds s (arrays_in ls)) in
    let match' : Clear (match_faults (counts_given kinds s) 0) =
    subst (λ (ls : List Layer). Clear (match_faults (counts_in (model_of (headers_at 0 ls))) 0)) (sym back) match in
    let enough' : length file ≤ length out =
    subst (λ (ls : List Layer). length (file_of ls) ≤ length out) (sym back) enough in
    let last = 24 when ltb (length out) (length file) ∷ [] in
    let together = match_faults (counts_given kinds s) 0 in
    let c =
    clear_joined (row_faults 0 kinds s ns) (in_layer 6 (together ++ last)) (clear_back 0 kinds ls fit)
    (clear_shifted 6 (together ++ last) (clear_joined together last match' (le-ltb _ _ enough', tt))) in
    let none : not (eqb (length s) 18) ≡ false = rw (eq-eqb (length s) 18 (length_shapes kinds ls fit)) in
    sym (clear (λ n. n leaving out) (0 leaving file ++ drop (length file) out)
    (5 when (length s ≠ 18) ∷ writer_faults s ns (length file) (length out)) (none, c)
    ∙ ap (λ (ls : List Layer). 0 leaving file_of ls ++ drop (length (file_of ls)) out) back)

pub read_writes : WritesBack
read_writes s out m e enough =
    let w : Written s m = rw (← e) at (writes_back s) in
    let long : length (file_of (layers_read s)) ≤ length out = rw (← w.holds.file) enough in
    rw (← w.holds.file) at (writes_layers (layers_read s) out w.holds.fit w.holds.match long)

pub arrays_are_read : ArraysAreRead
arrays_are_read s m e j h which = rw (← e) (array_is s (rw (← e) at (writes_back s)) j h which)
